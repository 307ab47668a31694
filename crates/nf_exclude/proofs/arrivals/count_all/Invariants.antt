use Rattle.std.proofs.Common.{◌≡◌, ◌+◌, ◌≤◌, true, drop, sum_by}
use Rattle.nf_core.specs.Intervals.{Interval}
use Rattle.nf_core.specs.Sets.{IsSet, has}
use Rattle.nf_tally.specs.Numbers.{number}
use Rattle.nf_exclude.specs.Exclusions.{blockers_among}
use Rattle.nf_exclude.specs.inner.Turns.{asked, set_left}
use Rattle.nf_exclude.proofs.arrivals.count_all.Given as goal

-- the numbers of what is left are still to be set
abbrev pub invariant-loop-first : goal.invariant-loop-first
invariant-loop-first g l = record {
  sorted : IsSet (drop l.first-index l.ones);
  fresh : (q : Interval) → has (drop l.first-index l.ones) q ≡ true → number l.blockers q ≡ 0;
  numbers : (q : Interval)
      → set_left (blockers_among l.rule l.seconds) (number l.blockers) (drop l.first-index l.ones) q ≡ set_left (blockers_among l.rule l.seconds) (number l.fn.blockers) l.ones q;
  cost : l.steps + sum_by (λ i. sum_by (asked l.rule i) l.seconds) (drop l.first-index l.ones) ≤ l.fn.steps + sum_by (λ i. sum_by (asked l.rule i) l.seconds) l.ones;
}
