use Rattle.std.proofs.Common.{◌≡◌, ◌+◌, List, ap, sum_by, arith}
use Rattle.nf_core.specs.Intervals.{Interval}
use Rattle.nf_model.specs.Work.{clauses}
use Rattle.nf_join.specs.inner.Exchanges.{gives}
use Rattle.nf_tally.specs.Numbers.{often}
use Rattle.nf_join.proofs.StepLemmas.{slice_eq, slice_le, slice_done}
use Rattle.nf_join.proofs.ones.ones_of.Goals as goal

pub loop-one-init : goal.loop-one-init
loop-one-init g c = record {
  often = λ q. let none : often c.new-out.result q ≡ 0 = ap (λ (is : List Interval). often is q) c.new-out.ensures in omega arith;
  cost = omega arith;
}

pub returns-in_err-push_one-clause-cost : goal.returns-in_err-push_one-clause-cost
returns-in_err-push_one-clause-cost g c =
    let left = slice_le (λ (i : Interval). clauses c.args.rule.now) c.args.ones.now c.loop-one.one-index c.one-item.result
    c.loop-one.steps c.push_one.new.steps (c.args.steps.now + sum_by (λ (i : Interval). clauses c.args.rule.now) c.args.ones.now) c.loop-one-test.true c.one-item.is c.loop-one.invariant.cost c.push_one.ensures.cost in
    omega arith

pub loop-one-preserved : goal.loop-one-preserved
loop-one-preserved g c = record {
  often = λ q. slice_eq (gives c.args.rule.now q) c.args.ones.now c.loop-one.one-index c.one-item.result
      (often c.loop-one.out q) (often c.push_one.new.out q) (sum_by (gives c.args.rule.now q) c.args.ones.now) c.loop-one-test.true c.one-item.is (c.loop-one.invariant.often q) (c.in_ok-push_one.ensures.often q);
  cost = slice_le (λ (i : Interval). clauses c.args.rule.now) c.args.ones.now c.loop-one.one-index c.one-item.result
      c.loop-one.steps c.push_one.new.steps (c.args.steps.now + sum_by (λ (i : Interval). clauses c.args.rule.now) c.args.ones.now) c.loop-one-test.true c.one-item.is c.loop-one.invariant.cost c.push_one.ensures.cost;
}

pub returns-clause-often : goal.returns-clause-often
returns-clause-often g c =
    λ q. slice_done (gives c.args.rule.now q) c.args.ones.now c.loop-one.one-index (often c.loop-one.out q) (sum_by (gives c.args.rule.now q) c.args.ones.now) c.loop-one-test.false (c.loop-one.invariant.often q)
