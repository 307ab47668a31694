use Rattle.std.proofs.Common.{sym, ◌∙◌}
use Rattle.nf_cparse.specs.inner.Tokens.{place}
use Rattle.nf_cparse.proofs.LexingLemmas.{so_far_gap, so_far_token, so_far_fault, so_far_end, some_left}
use Rattle.nf_cparse.proofs.lexer.next_token.Goals as goal

pub pieces-preserved : goal.pieces-preserved
pieces-preserved c = so_far_gap c.pieces.rest.now c.pieces.here c.in-Gap.count c.split_at.result.0.now c.split_at.result.1.now c.newlines-here.result c.split_at.ensures.front c.split_at.ensures.back c.newlines-here.ensures.count (place c.args.bytes.now c.args.line) c.pieces.invariant c.in-Gap.ensures.fits.1 c.in-Gap.ensures.fits.0 c.newlines-here.ensures.within c.in-Gap.ensures.piece

pub returns-in-Token-clause-next : goal.returns-in-Token-clause-next
returns-in-Token-clause-next c = so_far_token c.pieces.rest.now c.pieces.here c.in-Token.count c.split_at-in-Token.result.0.now c.split_at-in-Token.result.1.now c.newlines.result c.split_at-in-Token.ensures.front c.split_at-in-Token.ensures.back c.newlines.ensures.count (place c.args.bytes.now c.args.line) c.pieces.invariant c.in-Token.ensures.fits.1 c.in-Token.ensures.fits.0 c.in-Token.sym c.in-Token.ensures.piece

pub returns-in-Fault-clause-fault : goal.returns-in-Fault-clause-fault
returns-in-Fault-clause-fault c = so_far_fault c.pieces.rest.now c.pieces.here c.in-Fault.count c.split_at-in-Fault.result.0.now c.split_at-in-Fault.result.1.now c.newlines-in-Fault.result c.split_at-in-Fault.ensures.front c.split_at-in-Fault.ensures.back c.newlines-in-Fault.ensures.count (place c.args.bytes.now c.args.line) c.pieces.invariant c.in-Fault.ensures.fits (some_left c.pieces.rest.now (sym c.pieces-test.true ∙ c.is_empty.ensures)) c.in-Fault.ensures.piece

pub returns-clause-next : goal.returns-clause-next
returns-clause-next c = so_far_end (place c.args.bytes.now c.args.line) c.pieces.rest.now c.pieces.here c.pieces.invariant (sym c.pieces-test.false ∙ c.is_empty.ensures)

pub returns-in-Token-clause-form : goal.returns-in-Token-clause-form
returns-in-Token-clause-form c = record {
  bytes = c.pieces.rest.now;
  count = c.in-Token.count;
  piece = sym c.in-Token.ensures.piece;
  is = c.split_at-in-Token.ensures.front;
}
