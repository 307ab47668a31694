use Rattle.std.proofs.Common.{◌≡◌, Some, sym, ap, ◌∙◌, true}
use Rattle.std.specs.Ordering.{is_lt}
use Rattle.nf_core.specs.Intervals.{interval_cmp}
use Rattle.nf_index.proofs.FallLemmas.{last_of, last_of_pushed, whole, is_less, before_all}
use Rattle.nf_index.proofs.times.are_before.Goals as goal

pub returns-in-Some-clause-before : goal.returns-in-Some-clause-before
returns-in-Some-clause-before c early =
    let k = c.args.key.now in
    let is = c.args.begins.now in
    let l = c.in-Some.last.now in
    let last : last_of is ≡ Some l = ap last_of (sym (c.range.ensures.between tt ∙ whole is) ∙ c.in-Some.ensures.steps) ∙ last_of_pushed _ l in
    let less : is_lt (interval_cmp l k) ≡ true = ap is_lt (sym c.cmp.ensures) ∙ sym c.is_lt.ensures ∙ early in
    before_all k l is c.range.ensures.sorted last (is_less _ less)
