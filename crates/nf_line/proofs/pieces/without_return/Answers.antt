use Rattle.std.proofs.Common.{sym, ◌∙◌}
use Rattle.nf_line.proofs.CarriageReturnLemmas.{return_dropped, no_return}
use Rattle.nf_line.proofs.pieces.without_return.Goals as goal

pub returns-in-Some : goal.returns-in-Some
returns-in-Some c = c.in-Some.ensures.cases.1 ∙ sym (return_dropped c.args.piece.now c.in-Some.ensures.cases.0)

pub returns-in-None : goal.returns-in-None
returns-in-None c = sym (no_return c.args.piece.now c.in-None.ensures.cases)
