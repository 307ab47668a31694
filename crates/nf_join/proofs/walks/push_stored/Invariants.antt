use Rattle.std.proofs.Common.{◌≡◌, ◌+◌, ◌≤◌, sum_by, drop}
use Rattle.nf_core.specs.Intervals.{Interval}
use Rattle.nf_join.specs.inner.Made.{makes, costs, stored_sum}
use Rattle.nf_tally.specs.Numbers.{often}
use Rattle.nf_join.proofs.walks.push_stored.Given as goal

-- what is there, with what the intervals that are left make
abbrev pub invariant-loop-one : goal.invariant-loop-one
invariant-loop-one g l = record {
  often : (q : Interval) → often l.out q + sum_by (stored_sum l.which (makes l.rule q) l.skip l.store) (drop l.one-index l.ones) ≡ often l.fn.out q + sum_by (stored_sum l.which (makes l.rule q) l.skip l.store) l.ones;
  cost : l.steps + sum_by (stored_sum l.which (costs l.rule) l.skip l.store) (drop l.one-index l.ones) ≤ l.fn.steps + sum_by (stored_sum l.which (costs l.rule) l.skip l.store) l.ones;
}
