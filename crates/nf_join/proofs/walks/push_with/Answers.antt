use Rattle.std.proofs.Common.{◌+◌, sum_by}
use Rattle.nf_join.specs.inner.Made.{makes, costs}
use Rattle.nf_tally.specs.Numbers.{often}
use Rattle.nf_join.proofs.StepLemmas.{slice_eq, slice_le}
use Rattle.nf_join.proofs.walks.push_with.Goals as goal

pub loop-second-preserved : goal.loop-second-preserved
loop-second-preserved g c = record {
  often = λ q. slice_eq (makes c.args.rule.now q c.args.first.now) c.args.seconds.now c.loop-second.second-index c.second-item.result
      (often c.loop-second.out q) (often c.push_pair.new.out q) (often c.args.out.now q + sum_by (makes c.args.rule.now q c.args.first.now) c.args.seconds.now) c.loop-second-test.true c.second-item.is (c.loop-second.invariant.often q) (c.in_ok-push_pair.ensures.often q);
  cost = slice_le (costs c.args.rule.now c.args.first.now) c.args.seconds.now c.loop-second.second-index c.second-item.result
      c.loop-second.steps c.push_pair.new.steps (c.args.steps.now + sum_by (costs c.args.rule.now c.args.first.now) c.args.seconds.now) c.loop-second-test.true c.second-item.is c.loop-second.invariant.cost c.push_pair.ensures.cost;
}
