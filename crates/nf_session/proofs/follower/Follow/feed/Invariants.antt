use Rattle.std.proofs.Common.{◌≡◌, IsTrue, ◌+◌, ◌≤◌, length}
use Rattle.nf_session.specs.Followers.{NeedsNoMemory}
use Rattle.nf_session.specs.inner.Progress.{HasFed}
use Rattle.nf_session.specs.inner.Spending.{work_left}
use Rattle.nf_session.proofs.follower.Follow.feed.Given as goal

-- what was taken of the piece so far, and its text was written
abbrev pub invariant-lines : goal.invariant-lines
invariant-lines g l = record {
  fed : HasFed l.fn.self l.piece l.follow l.rest
      (g.O.Sink.tells l.fn.out).taken (g.O.Sink.tells l.out).taken;
  counted : l.follow.lines + length l.rest ≤ l.fn.self.lines + length l.piece;
  quiet : NeedsNoMemory l.fn.self l.piece → NeedsNoMemory l.follow l.rest;
  thrifty : l.follow.thrifty ≡ l.fn.self.thrifty;
  work : IsTrue l.fn.self.thrifty
      → l.steps + work_left l.follow l.rest ≤ l.fn.steps + work_left l.fn.self l.piece;
  later : (g.O.Sink.tells l.fn.out).faults ≤ (g.O.Sink.tells l.out).faults;
}

-- the bytes that are left
abbrev pub decreases-lines : goal.decreases-lines
decreases-lines g l = length l.rest
