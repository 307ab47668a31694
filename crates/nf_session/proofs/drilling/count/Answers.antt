use Rattle.std.proofs.Common.{ap, length, arith}
use Rattle.nf_session.proofs.drilling.count.Goals as goal

pub loop-interval-init : goal.loop-interval-init
loop-interval-init c = record { all = omega (arith, ap length c.into_iter-interval-iterator.ensures.into_iter_gives); low = omega arith }

pub loop-interval-preserved : goal.loop-interval-preserved
loop-interval-preserved c = record {
  all = omega (arith, c.loop-interval.invariant.all, c.saturating_add-count.ensures, ap length c.in-Some.ensures.steps);
  low = c.saturating_add-count.type_inv;
}

pub returns : goal.returns
returns c = omega (arith, c.loop-interval.invariant.all, c.loop-interval.invariant.low, ap length c.in-None.ensures.steps.0)
