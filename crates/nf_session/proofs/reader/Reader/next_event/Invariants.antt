use Rattle.std.proofs.Common.{◌≡◌, ◌+◌, ◌-◌, ◌≤◌, false, None, drop, length}
use Rattle.nf_model.specs.Changes.{Content}
use Rattle.nf_session.specs.Followers.{NeedsNoMemory}
use Rattle.nf_session.specs.inner.Events.{following}
use Rattle.nf_session.specs.inner.Progress.{Takes}
use Rattle.nf_session.proofs.reader.Reader.next_event.Given as goal

-- what was taken of the piece so far; nothing of it is to be entered
abbrev pub invariant-lines : goal.invariant-lines
invariant-lines l = record {
  takes : (content : Content) → content.plan ≡ l.plan
      → Takes (following content l.fn.self) l.piece (following content l.self) (drop l.used l.piece) None;
  within : l.used ≤ length l.piece;
  counted : l.self.place.lines + length (drop l.used l.piece) ≤ l.fn.self.place.lines + length l.piece;
  open_yet : l.self.liner.was_long ≡ false;
  quiet : (content : Content) → content.plan ≡ l.plan
      → NeedsNoMemory (following content l.fn.self) l.piece
      → NeedsNoMemory (following content l.self) (drop l.used l.piece);
}

-- the bytes that are left
abbrev pub decreases-lines : goal.decreases-lines
decreases-lines l = length l.piece - l.used
