use Rattle.std.proofs.Common.{◌-◌, ◌≡◌, vec_len}
use Rattle.nf_line.specs.declared.limits.TheConstants.{TRACE_LIMIT}
use Rattle.nf_session.specs.declared.pieces.TheConstants.{PIECE_LIMIT}
use Rattle.nf_session.specs.inner.Announcing.{GoesOn}
use Rattle.nf_session.proofs.session.run_session.Given as goal

-- the bytes that were read so far were fed, into a buffer of one piece
abbrev pub invariant-pieces : goal.invariant-pieces
invariant-pieces g l =
    let full = (g.I.Inferer.content l.fn.inferer).full in
    let thrifty = g.I.Inferer.is_thrifty l.fn.inferer in
    let shelf = g.F.Shelf.tells in
    let out = g.O.Sink.tells in record {
      room : vec_len l.buffer ≡ PIECE_LIMIT;
      goes_on : GoesOn l.fn.announcing l.fn.plan full thrifty l.read l.follower
          (shelf l.fn.shelf) (shelf l.shelf) (out l.fn.out) (out l.out) l.fn.steps l.steps;
    }

-- the bytes that are still allowed
abbrev pub decreases-pieces : goal.decreases-pieces
decreases-pieces g l = TRACE_LIMIT - l.read
