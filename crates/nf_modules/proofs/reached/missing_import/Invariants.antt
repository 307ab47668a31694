use Rattle.std.proofs.Common.{◌≡◌, None, find, flat_map, take}
use Rattle.std.specs.List.{items_where_true}
use Rattle.nf_core.specs.declared.trees.Module.{Module}
use Rattle.nf_modules.specs.inner.Places.{number_in, has_no_number}
use Rattle.nf_modules.proofs.reached.missing_import.Given as goal

-- no import of the reached modules so far lacks a place
abbrev pub invariant-loop-place : goal.invariant-loop-place
invariant-loop-place l = find (has_no_number (number_in l.places)) (flat_map (λ (m : Module). m.imports) (items_where_true (take l.place l.reached) (take l.place l.modules))) ≡ None
