use Rattle.std.proofs.Common.{arith, rules}
use Rattle.nf_io.proofs.PieceLemmas.{Took-next, next_within}
use Rattle.nf_io.proofs.Public.{TookPart-take}
use Rattle.nf_io.proofs.sinks.write_all.Goals as goal

pub pieces-preserved : goal.pieces-preserved
pieces-preserved g c =
    let e = c.in_ok-from.ensures in
    record {
      within = next_within c.args.bytes.now c.pieces.from c.in_ok-from.field-0 c.pieces.invariant.within e.within;
      took = Took-next _ _ _ c.args.bytes.now c.pieces.from c.in_ok-from.field-0 c.pieces.invariant.took e.taken;
      later = omega (arith, e.never_falls);
    }

pub returns-in_err-from-clause-err : goal.returns-in_err-from-clause-err
returns-in_err-from-clause-err g c =
    let part = TookPart-take (g.O.Sink.tells c.args.out.now).taken (g.O.Sink.tells c.pieces.out).taken c.pieces.from c.args.bytes.now c.pieces-test.true c.pieces.invariant.took in
    search (rules, part)
