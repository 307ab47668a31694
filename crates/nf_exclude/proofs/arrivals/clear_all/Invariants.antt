use Rattle.std.proofs.Common.{◌≡◌, drop}
use Rattle.nf_core.specs.Intervals.{Interval}
use Rattle.nf_tally.specs.Numbers.{number}
use Rattle.nf_exclude.specs.inner.Turns.{set_left}
use Rattle.nf_exclude.proofs.arrivals.clear_all.Given as goal

-- the numbers of what is left are still to be taken away
abbrev pub invariant-loop-one : goal.invariant-loop-one
invariant-loop-one l = (q : Interval) → set_left (λ p. 0) (number l.blockers) (drop l.one-index l.ones) q ≡ set_left (λ p. 0) (number l.fn.blockers) l.ones q
