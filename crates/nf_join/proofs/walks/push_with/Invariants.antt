use Rattle.std.proofs.Common.{◌≡◌, ◌+◌, ◌≤◌, sum_by, drop}
use Rattle.nf_core.specs.Intervals.{Interval}
use Rattle.nf_join.specs.inner.Made.{makes, costs}
use Rattle.nf_tally.specs.Numbers.{often}
use Rattle.nf_join.proofs.walks.push_with.Given as goal

-- what is there, with what the second intervals that are left make
abbrev pub invariant-loop-second : goal.invariant-loop-second
invariant-loop-second g l = record {
  often : (q : Interval) → often l.out q + sum_by (makes l.rule q l.first) (drop l.second-index l.seconds) ≡ often l.fn.out q + sum_by (makes l.rule q l.first) l.seconds;
  cost : l.steps + sum_by (costs l.rule l.first) (drop l.second-index l.seconds) ≤ l.fn.steps + sum_by (costs l.rule l.first) l.seconds;
}
