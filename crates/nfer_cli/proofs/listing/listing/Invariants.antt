use Rattle.std.proofs.Common.{◌≡◌, flat_map, take}
use Rattle.nf_print.specs.Canonical.{canonical}
use Rattle.nfer_cli.proofs.listing.listing.Given as goal

abbrev pub invariant-loop-rule : goal.invariant-loop-rule
invariant-loop-rule l =
    l.lines ≡ flat_map (λ rule. canonical rule.now) (take l.rule-index l.rule-items)
