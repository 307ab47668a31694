use Rattle.std.proofs.Common.{◌≡◌, ◌++◌, drop, map}
use Rattle.nf_announce.specs.Announcements.{joined, present}
use Rattle.nf_announce.specs.inner.Cells.{part_of}
use Rattle.nf_announce.proofs.JoinedTextLemmas.{left}
use Rattle.nf_announce.proofs.data_text.push_part.Given as goal

abbrev pub invariant-loop-place : goal.invariant-loop-place
invariant-loop-place g l =
    let keys = g.K.Keys.keys l.keys in
    l.text ++ left l.part l.is_first (drop l.place keys) (drop l.place l.row)
    ≡ l.fn.text ++ joined (map (part_of l.part) (present keys l.row))
