use Rattle.std.proofs.Common.{◌≡◌, ◌+◌, ◌≤◌, sum_by, drop}
use Rattle.nf_core.specs.Intervals.{Interval}
use Rattle.nf_model.specs.Work.{clauses}
use Rattle.nf_join.specs.inner.Exchanges.{gives}
use Rattle.nf_tally.specs.Numbers.{often}
use Rattle.nf_join.proofs.ones.ones_of.Given as goal

-- what is there, with what the intervals that are left make
abbrev pub invariant-loop-one : goal.invariant-loop-one
invariant-loop-one g l = record {
  often : (q : Interval) → often l.out q + sum_by (gives l.rule q) (drop l.one-index l.ones) ≡ sum_by (gives l.rule q) l.ones;
  cost : l.steps + sum_by (λ (i : Interval). clauses l.rule) (drop l.one-index l.ones) ≤ l.fn.steps + sum_by (λ (i : Interval). clauses l.rule) l.ones;
}
