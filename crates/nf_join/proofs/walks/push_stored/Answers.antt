use Rattle.std.proofs.Common.{◌+◌, sum_by, arith}
use Rattle.nf_join.specs.inner.Made.{makes, costs, stored_sum}
use Rattle.nf_tally.specs.Numbers.{often}
use Rattle.nf_join.proofs.StepLemmas.{slice_eq, slice_le, slice_done}
use Rattle.nf_join.proofs.walks.push_stored.Goals as goal

pub returns-in_err-push_partners-clause-cost : goal.returns-in_err-push_partners-clause-cost
returns-in_err-push_partners-clause-cost g c =
    let left = slice_le (stored_sum c.args.which (costs c.args.rule.now) c.args.skip.now c.args.store.now) c.args.ones.now c.loop-one.one-index c.one-item.result
    c.loop-one.steps c.push_partners.new.steps (c.args.steps.now + sum_by (stored_sum c.args.which (costs c.args.rule.now) c.args.skip.now c.args.store.now) c.args.ones.now) c.loop-one-test.true c.one-item.is c.loop-one.invariant.cost c.push_partners.ensures.cost in
    omega arith

pub loop-one-preserved : goal.loop-one-preserved
loop-one-preserved g c = record {
  often = λ q. slice_eq (stored_sum c.args.which (makes c.args.rule.now q) c.args.skip.now c.args.store.now) c.args.ones.now c.loop-one.one-index c.one-item.result
      (often c.loop-one.out q) (often c.push_partners.new.out q) (often c.args.out.now q + sum_by (stored_sum c.args.which (makes c.args.rule.now q) c.args.skip.now c.args.store.now) c.args.ones.now) c.loop-one-test.true c.one-item.is (c.loop-one.invariant.often q) (c.in_ok-push_partners.ensures.often q);
  cost = slice_le (stored_sum c.args.which (costs c.args.rule.now) c.args.skip.now c.args.store.now) c.args.ones.now c.loop-one.one-index c.one-item.result
      c.loop-one.steps c.push_partners.new.steps (c.args.steps.now + sum_by (stored_sum c.args.which (costs c.args.rule.now) c.args.skip.now c.args.store.now) c.args.ones.now) c.loop-one-test.true c.one-item.is c.loop-one.invariant.cost c.push_partners.ensures.cost;
}

pub returns-clause-often : goal.returns-clause-often
returns-clause-often g c =
    λ q. slice_done (stored_sum c.args.which (makes c.args.rule.now q) c.args.skip.now c.args.store.now) c.args.ones.now c.loop-one.one-index (often c.loop-one.out q) (often c.args.out.now q + sum_by (stored_sum c.args.which (makes c.args.rule.now q) c.args.skip.now c.args.store.now) c.args.ones.now) c.loop-one-test.false (c.loop-one.invariant.often q)
