use Rattle.std.proofs.Common.{◌≡◌, flat_map, take}
use Rattle.std.specs.List.{items_where_true}
use Rattle.nf_core.specs.declared.trees.Module.{Module}
use Rattle.nf_modules.proofs.reached.rules_of.Given as goal

-- the rules of the reached modules so far
abbrev pub invariant-loop-place : goal.invariant-loop-place
invariant-loop-place l = l.rules ≡ flat_map (λ (m : Module). m.rules) (items_where_true (take l.place l.reached) (take l.place l.modules))
