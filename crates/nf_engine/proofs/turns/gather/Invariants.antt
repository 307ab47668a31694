-- What was gathered so far, and what it cost.
use Rattle.std.proofs.Common.{◌≡◌, ◌+◌, ◌≤◌, false, cond, length, All}
use Rattle.nf_engine.specs.inner.Queues.{rank}
use Rattle.nf_engine.specs.inner.Rounds.{IsWithin, IsDueIn, work_left}
use Rattle.nf_engine.proofs.turns.gather.Given as goal

abbrev pub ghost-gather_next : goal.ghost-gather_next
ghost-gather_next g a = g.passage

abbrev pub invariant-loop-more : goal.invariant-loop-more
invariant-loop-more g l = record {
  within : IsWithin l.plan g.passage l.head l.gathered l.round;
  last : l.more ≡ false → All (IsDueIn l.plan (rank l.plan l.head + 1)) l.round.queue;
  cost : l.steps + work_left l.plan g.passage (rank l.plan l.head + 1) l.round.queue
      ≤ l.fn.steps + work_left l.plan g.passage (rank l.plan l.head + 1) l.fn.round.queue;
}

-- the rules that are due, while there may be one of the name
abbrev pub decreases-loop-more : goal.decreases-loop-more
decreases-loop-more g l = cond l.more (length l.round.queue + 1) 0
