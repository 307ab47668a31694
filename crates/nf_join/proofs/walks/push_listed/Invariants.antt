use Rattle.std.proofs.Common.{◌≡◌, ◌+◌, ◌≤◌, sum_by, drop}
use Rattle.nf_core.specs.Intervals.{Interval}
use Rattle.nf_join.specs.inner.Made.{makes, costs}
use Rattle.nf_tally.specs.Numbers.{often}
use Rattle.nf_join.proofs.walks.push_listed.Given as goal

-- what is there, with what the first intervals that are left make
abbrev pub invariant-loop-first : goal.invariant-loop-first
invariant-loop-first g l = record {
  often : (q : Interval) → often l.out q + sum_by (λ i. sum_by (makes l.rule q i) l.seconds) (drop l.first-index l.firsts) ≡ often l.fn.out q + sum_by (λ i. sum_by (makes l.rule q i) l.seconds) l.firsts;
  cost : l.steps + sum_by (λ i. sum_by (costs l.rule i) l.seconds) (drop l.first-index l.firsts) ≤ l.fn.steps + sum_by (λ i. sum_by (costs l.rule i) l.seconds) l.firsts;
}
