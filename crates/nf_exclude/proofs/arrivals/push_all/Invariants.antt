use Rattle.std.proofs.Common.{◌≡◌, ◌+◌, ◌≤◌, drop, sum_by}
use Rattle.nf_core.specs.Intervals.{Interval}
use Rattle.nf_model.specs.Work.{values}
use Rattle.nf_tally.specs.Numbers.{number, often}
use Rattle.nf_exclude.specs.inner.Turns.{given}
use Rattle.nf_exclude.proofs.arrivals.push_all.Given as goal

-- the list so far, and what those that are left give
abbrev pub invariant-loop-first : goal.invariant-loop-first
invariant-loop-first g l = record {
  out : (q : Interval) → often l.out q + given l.rule (number l.blockers) (drop l.first-index l.ones) q ≡ often l.fn.out q + given l.rule (number l.blockers) l.ones q;
  cost : l.steps + sum_by (λ (i : Interval). values l.rule) (drop l.first-index l.ones) ≤ l.fn.steps + sum_by (λ (i : Interval). values l.rule) l.ones;
}
