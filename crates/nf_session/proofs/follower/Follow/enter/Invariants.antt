use Rattle.std.proofs.Common.{◌≡◌, IsTrue, ◌+◌, ◌≤◌, length}
use Rattle.nf_session.specs.inner.Progress.{Enters}
use Rattle.nf_session.specs.inner.Spending.{work_left}
use Rattle.nf_session.proofs.follower.Follow.enter.Given as goal

-- what was taken of the piece so far
abbrev pub invariant-lines : goal.invariant-lines
invariant-lines g l = record {
  enters : Enters l.fn.self l.piece l.follow l.rest;
  counted : l.follow.lines + length l.rest ≤ l.fn.self.lines + length l.piece;
  thrifty : l.follow.thrifty ≡ l.fn.self.thrifty;
  work : IsTrue l.fn.self.thrifty
      → l.steps + work_left l.follow l.rest ≤ l.fn.steps + work_left l.fn.self l.piece;
}

-- the bytes that are left
abbrev pub decreases-lines : goal.decreases-lines
decreases-lines g l = length l.rest
