use Rattle.std.proofs.Common.{◌≡◌, map, take}
use Rattle.nfer_cli.proofs.listing.rules_by_level.Given as goal

abbrev pub invariant-loop-rule : goal.invariant-loop-rule
invariant-loop-rule l = map (λ rule. rule.now) l.ordered.items ≡ take l.rule-index l.rule-items
