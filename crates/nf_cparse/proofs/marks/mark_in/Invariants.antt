use Rattle.std.proofs.Common.{◌≡◌, map, length}
use Rattle.nf_cparse.specs.Pieces.{mark_in}
use Rattle.nf_cparse.proofs.marks.mark_in.Given as goal

abbrev pub invariant-marks : goal.invariant-marks
invariant-marks l =
    mark_in (map (λ entry. (entry.0.now, entry.1)) l.table) l.bytes
    ≡ mark_in (map (λ entry. (entry.0.now, entry.1)) l.initial.table) l.bytes

abbrev pub decreases-marks : goal.decreases-marks
decreases-marks l = length l.table
