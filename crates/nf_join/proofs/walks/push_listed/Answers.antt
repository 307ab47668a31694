use Rattle.std.proofs.Common.{◌+◌, sum_by}
use Rattle.nf_core.specs.Intervals.{Interval}
use Rattle.nf_join.specs.inner.Made.{makes, costs}
use Rattle.nf_tally.specs.Numbers.{often}
use Rattle.nf_join.proofs.StepLemmas.{slice_eq, slice_le, slice_done}
use Rattle.nf_join.proofs.walks.push_listed.Goals as goal

pub loop-first-preserved : goal.loop-first-preserved
loop-first-preserved g c = record {
  often = λ q. slice_eq (λ (i : Interval). sum_by (makes c.args.rule.now q i) c.args.seconds.now) c.args.firsts.now c.loop-first.first-index c.first-item.result
      (often c.loop-first.out q) (often c.push_with.new.out q) (often c.args.out.now q + sum_by (λ (i : Interval). sum_by (makes c.args.rule.now q i) c.args.seconds.now) c.args.firsts.now) c.loop-first-test.true c.first-item.is (c.loop-first.invariant.often q) (c.in_ok-push_with.ensures.often q);
  cost = slice_le (λ (i : Interval). sum_by (costs c.args.rule.now i) c.args.seconds.now) c.args.firsts.now c.loop-first.first-index c.first-item.result
      c.loop-first.steps c.push_with.new.steps (c.args.steps.now + sum_by (λ (i : Interval). sum_by (costs c.args.rule.now i) c.args.seconds.now) c.args.firsts.now) c.loop-first-test.true c.first-item.is c.loop-first.invariant.cost c.push_with.ensures.cost;
}

pub returns-clause-often : goal.returns-clause-often
returns-clause-often g c =
    λ q. slice_done (λ (i : Interval). sum_by (makes c.args.rule.now q i) c.args.seconds.now) c.args.firsts.now c.loop-first.first-index (often c.loop-first.out q) (often c.args.out.now q + sum_by (λ (i : Interval). sum_by (makes c.args.rule.now q i) c.args.seconds.now) c.args.firsts.now) c.loop-first-test.false (c.loop-first.invariant.often q)
