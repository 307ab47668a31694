use Rattle.std.proofs.Common.{◌≡◌, ◌++◌, take}
use Rattle.nf_modules.proofs.reached.add_rules.Given as goal

-- the rules so far are put at the end
abbrev pub invariant-loop-rule : goal.invariant-loop-rule
invariant-loop-rule l = l.rules ≡ l.initial.rules ++ take l.rule-index l.more
