use Rattle.std.proofs.Common.{not, ap, rules, tests}
use Rattle.std.proofs.lemmas.Iterator.{YieldsList-from_slice}
use Rattle.std.proofs.lemmas.Iterator.Search.{any_from_yields_List}
use Rattle.nf_core.specs.Intervals as interval
use Rattle.nf_model.proofs.judging.is_minimal.Goals as goal

pub returns : goal.returns
returns c =
    let inside = λ (j : interval.Interval). interval.is_strictly_inside j c.args.interval.now in
    ap not (any_from_yields_List inside _ _ c.any.result c.any.ensures.ran (YieldsList-from_slice c.args.members.now cc) (λ x b q k. search (rules, tests)))
