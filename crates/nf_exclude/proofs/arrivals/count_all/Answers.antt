use Rattle.std.proofs.Common.{◌≡◌, ℕ, ◌+◌, ◌∷◌, All, Some, List, cond, option_to_list, drop, sum_by, sym, ap, ◌∙◌, subst, refl, arith}
use Rattle.nf_core.specs.Intervals.{Interval, same}
use Rattle.nf_core.specs.Sets.{IsSet, has}
use Rattle.nf_model.specs.Members.{HavePlaces}
use Rattle.nf_tally.specs.Numbers.{number}
use Rattle.nf_exclude.specs.Exclusions.{blockers_among}
use Rattle.nf_exclude.specs.inner.Turns.{asked}
use Rattle.nf_exclude.proofs.SumLemmas.{has_first, sorted_rest}
use Rattle.nf_exclude.proofs.StepLemmas.{All-item, item_sum}
use Rattle.nf_exclude.proofs.ArrivalLemmas.{item_left, set_next, fresh_next, set_done}
use Rattle.nf_exclude.proofs.arrivals.count_all.Goals as goal

pub loop-first-init : goal.loop-first-init
loop-first-init g c = record {
  sorted = c.requires.sorted;
  fresh = c.requires.fresh;
  numbers = λ q. refl;
  cost = omega arith;
}

pub count_blockers-requires-clause-pairs : goal.count_blockers-requires-clause-pairs
count_blockers-requires-clause-pairs g c =
    All-item (λ (i : Interval). All (λ (j : Interval). HavePlaces (option_to_list c.args.rule.now.filter) i (Some j)) c.args.seconds.now) c.args.ones.now
    c.loop-first.first-index c.first-item.result c.loop-first-test.true c.first-item.is c.requires.pairs

pub set_copy-requires : goal.set_copy-requires
set_copy-requires g c =
    let next = item_left c.args.ones.now c.loop-first.first-index c.first-item.result c.loop-first-test.true c.first-item.is in
    c.loop-first.invariant.fresh c.first-item.result
    (ap (λ (is : List Interval). has is c.first-item.result) next ∙ has_first c.first-item.result (drop (c.loop-first.first-index + 1) c.args.ones.now))

pub loop-first-preserved : goal.loop-first-preserved
loop-first-preserved g c =
    let rule = c.args.rule.now in
    let first = c.first-item.result in
    let f : Interval → ℕ = blockers_among rule c.args.seconds.now in
    let left = drop c.loop-first.first-index c.args.ones.now in
    let rest = drop (c.loop-first.first-index + 1) c.args.ones.now in
    let next : left ≡ first ∷ rest = item_left c.args.ones.now c.loop-first.first-index first c.loop-first-test.true c.first-item.is in
    let written : (q : Interval) → number c.set_copy.new.self q ≡ cond (same first q) (f first) (number c.loop-first.blockers q) =
    λ q. c.in_ok-set_copy.ensures.ok q ∙ ap (λ n. cond (same first q) n (number c.loop-first.blockers q)) c.in_ok-count.ensures.count in
    let paid = item_sum (λ (i : Interval). sum_by (asked rule i) c.args.seconds.now) c.args.ones.now c.loop-first.first-index first c.loop-first-test.true c.first-item.is in
    record {
      sorted = sorted_rest first rest (subst IsSet next c.loop-first.invariant.sorted);
      fresh = fresh_next f (number c.loop-first.blockers) (number c.set_copy.new.self) left rest first next c.loop-first.invariant.sorted written c.loop-first.invariant.fresh;
      numbers = λ q. set_next f (number c.loop-first.blockers) (number c.set_copy.new.self) left rest first next c.loop-first.invariant.sorted written q ∙ c.loop-first.invariant.numbers q;
      cost = omega (arith, paid, c.loop-first.invariant.cost, c.in_ok-count.ensures.cost);
    }

pub returns-in_err-count-clause-cost : goal.returns-in_err-count-clause-cost
returns-in_err-count-clause-cost g c =
    let paid = item_sum (λ (i : Interval). sum_by (asked c.args.rule.now i) c.args.seconds.now) c.args.ones.now c.loop-first.first-index c.first-item.result c.loop-first-test.true c.first-item.is in
    omega (arith, paid, c.loop-first.invariant.cost, c.count_blockers.ensures.cost)

pub returns-in_err-set_copy-clause-cost : goal.returns-in_err-set_copy-clause-cost
returns-in_err-set_copy-clause-cost g c =
    let paid = item_sum (λ (i : Interval). sum_by (asked c.args.rule.now i) c.args.seconds.now) c.args.ones.now c.loop-first.first-index c.first-item.result c.loop-first-test.true c.first-item.is in
    omega (arith, paid, c.loop-first.invariant.cost, c.count_blockers.ensures.cost)

pub returns-clause-numbers : goal.returns-clause-numbers
returns-clause-numbers g c = λ q.
    sym (set_done (blockers_among c.args.rule.now c.args.seconds.now) (number c.loop-first.blockers) c.args.ones.now c.loop-first.first-index c.loop-first-test.false q)
    ∙ c.loop-first.invariant.numbers q
