-- The interval that is taken out is the one that was asked for.
use Rattle.std.proofs.Common.{◌≡◌, Option, None, Some, IfSome, sym}
use Rattle.std.specs.declared.cmp.Ordering.TheVariants.{Equal}
use Rattle.nf_core.specs.Intervals.{Interval, interval_cmp}
use Rattle.nf_core.proofs.Public.SameIntervalLemmas.{exact_interval}
use Rattle.nf_core.proofs.sets.IntervalSet.take.Goals as goal

the_same : (found : Option Interval) (i : Interval) → IfSome found (λ k. interval_cmp i k ≡ Equal) → IfSome found (λ k. k ≡ i)
the_same None i equal = tt
the_same (Some k) i equal = sym (exact_interval i k equal)

pub returns-clause-itself : goal.returns-clause-itself
returns-clause-itself c = the_same c.take.result c.args.interval.now c.take.ensures.itself
