use Rattle.std.proofs.Common.{◌+◌, ◌≤◌, drop, sum_by}
use Rattle.nf_model.specs.Changes.{lacking}
use Rattle.nf_pairs.specs.inner.Walks.{second_sum}
use Rattle.nf_exclude.specs.inner.Turns.{asked, blocked_one, Walked}
use Rattle.nf_exclude.proofs.pairs.turn_all.Given as goal

-- the numbers so far, and what the second ones that are left make of them
abbrev pub invariant-loop-second : goal.invariant-loop-second
invariant-loop-second g l = record {
  walked :
      Walked l.rule (lacking l.firsts l.skipped) l.turn l.fn.blockers l.blockers l.fn.out l.out (λ q. sum_by (blocked_one l.rule (lacking l.firsts l.skipped) q) l.seconds)
      (λ q. sum_by (blocked_one l.rule (lacking l.firsts l.skipped) q) (drop l.second-index l.seconds));
  cost :
      l.steps + second_sum (asked l.rule) l.skipped l.firsts (drop l.second-index l.seconds) ≤ l.fn.steps + second_sum (asked l.rule) l.skipped l.firsts l.seconds;
}
