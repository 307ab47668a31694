use Rattle.std.proofs.Common.{◌≡◌, true, rules, refl, sym, ap, ◌∙◌, not, ◌&&◌, filter, None, Some}
use Rattle.std.specs.Ordering.{is_le, is_lt}
use Rattle.nf_core.specs.Intervals.{interval_cmp}
use Rattle.nf_index.specs.inner.Orders.{is_between, reached}
use Rattle.nf_index.proofs.PlaceLemmas.{filter_never, backward_between}
use Rattle.nf_index.proofs.WalkLemmas.{filter_none}
use Rattle.nf_index.proofs.times.between.Goals as goal

pub returns-in_default : goal.returns-in_default
returns-in_default c = rw c.in_default.is (sym (filter_never (is_between None c.args.high.now) (λ i. refl) c.args.begins.now))

pub returns-then-are_before : goal.returns-then-are_before
returns-then-are_before c =
    let late = c.are_before.ensures.before c.if-are_before.true in
    rw c.in-Some.is (sym (filter_none (is_between (Some c.in-Some.low) c.args.high.now) c.args.begins.now
    (λ i there. ap (λ b. b && not (reached c.args.high.now i)) ((λ k. is_le (interval_cmp (sym c.key-low.ensures k) i)) ∙ late i there))))

pub returns-then-lt : goal.returns-then-lt
returns-then-lt c =
    let early : is_lt (interval_cmp c.key-high.result c.key-low.result) ≡ true = search (rules, c.lt.ensures, c.if-lt.true) in
    rw (c.in-Some.is, c.in-Some-high.is) (sym (backward_between c.in-Some.low c.in-Some-high.high ((λ k. is_lt (interval_cmp (sym c.key-high.ensures k) (sym c.key-low.ensures k))) ∙ early) c.args.begins.now))

pub returns : goal.returns
returns c = rw (c.in-Some.is, c.in-Some-high.is) (c.range-2.ensures.between tt ∙ (λ k. filter (λ q. is_le (interval_cmp (c.key-low.ensures k) q) && not (is_le (interval_cmp (c.key-high.ensures k) q))) c.args.begins.now))
