use Rattle.std.proofs.Common.{◌≡◌, Some, sym, ap, ◌∙◌, refl, true}
use Rattle.std.specs.Ordering.{is_lt}
use Rattle.nf_core.specs.Intervals.{interval_cmp}
use Rattle.nf_index.proofs.FallLemmas.{last_of, last_of_pushed, whole, is_less}
use Rattle.nf_index.proofs.FallLemmas as falls
use Rattle.nf_index.proofs.falls.turns_behind.Goals as goal

pub returns-then-is_lt-clause-behind : goal.returns-then-is_lt-clause-behind
returns-then-is_lt-clause-behind c =
    let i = c.args.interval.now in
    let is = c.args.begins.now in
    let l = c.in_ok-last.last.now in
    let last : last_of is ≡ Some l = ap last_of (sym (c.range-all.ensures.between tt ∙ whole is) ∙ c.in_ok-last.ensures.steps) ∙ last_of_pushed _ l in
    let less : is_lt (interval_cmp l i) ≡ true = ap is_lt (sym c.cmp.ensures) ∙ sym c.is_lt.ensures ∙ c.if-is_lt.true in
    falls.turns_behind i l is _ c.range-all.ensures.sorted last (is_less _ less) c.fall_of.ensures.is refl
