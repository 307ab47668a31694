use Rattle.std.proofs.Common.{None, arith}
use Rattle.nf_core.specs.Intervals.{Interval}
use Rattle.nf_model.specs.Members.{HavePlaces, result_terms}
use Rattle.nf_model.specs.Work.{values}
use Rattle.nf_tally.specs.Numbers.{number}
use Rattle.nf_exclude.specs.inner.Turns.{worth}
use Rattle.nf_exclude.proofs.StepLemmas.{All-item, item_sum, past_sum}
use Rattle.nf_exclude.proofs.arrivals.push_all.Goals as goal

pub push_unblocked-requires-clause-places : goal.push_unblocked-requires-clause-places
push_unblocked-requires-clause-places g c =
    All-item (λ (i : Interval). HavePlaces (result_terms c.args.rule.now) i None) c.args.ones.now c.loop-first.first-index c.first-item.result c.loop-first-test.true c.first-item.is c.requires.places

pub loop-first-preserved : goal.loop-first-preserved
loop-first-preserved g c =
    let first = c.first-item.result in
    let paid = item_sum (λ (i : Interval). values c.args.rule.now) c.args.ones.now c.loop-first.first-index first c.loop-first-test.true c.first-item.is in
    record {
      out = λ q.
          (let more = item_sum (worth c.args.rule.now (number c.args.blockers.now) q) c.args.ones.now c.loop-first.first-index first c.loop-first-test.true c.first-item.is in
          omega (arith, more, c.loop-first.invariant.out q, c.in_ok-push_unblocked.ensures.out q));
      cost = omega (arith, paid, c.loop-first.invariant.cost, c.in_ok-push_unblocked.ensures.cost);
    }

pub returns-in_err-push_unblocked-clause-cost : goal.returns-in_err-push_unblocked-clause-cost
returns-in_err-push_unblocked-clause-cost g c =
    let paid = item_sum (λ (i : Interval). values c.args.rule.now) c.args.ones.now c.loop-first.first-index c.first-item.result c.loop-first-test.true c.first-item.is in
    omega (arith, paid, c.loop-first.invariant.cost, c.push_unblocked.ensures.cost)

pub returns-clause-out : goal.returns-clause-out
returns-clause-out g c = λ q.
    (let none = past_sum (worth c.args.rule.now (number c.args.blockers.now) q) c.args.ones.now c.loop-first.first-index c.loop-first-test.false in
    omega (arith, none, c.loop-first.invariant.out q))
