use Rattle.std.proofs.Common.{◌≡◌, ◌-◌, ◌≤◌, length}
use Rattle.nfer_cli.specs.inner.Reading.{ReadsOn}
use Rattle.nf_session.specs.Sessions.{piece_limit}
use Rattle.nfer_cli.proofs.reading.read_rest.Given as goal

-- the bytes so far were read of the file, and they are within the limit
abbrev pub invariant-pieces : goal.invariant-pieces
invariant-pieces g l = let shelf = g.F.Shelf in record {
  files : (shelf.tells l.shelf).files ≡ (shelf.tells l.fn.shelf).files;
  asked : (shelf.tells l.shelf).asked ≡ (shelf.tells l.fn.shelf).asked;
  later : (shelf.tells l.fn.shelf).faults ≤ (shelf.tells l.shelf).faults;
  within : length l.bytes ≤ l.most;
  room : length l.buffer ≡ piece_limit;
  reads : ReadsOn (shelf.tells l.fn.shelf) l.fn.bytes (shelf.tells l.shelf) l.bytes;
}

-- the bytes that are still allowed
abbrev pub decreases-pieces : goal.decreases-pieces
decreases-pieces g l = l.most - length l.bytes
