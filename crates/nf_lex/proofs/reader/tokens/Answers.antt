use Rattle.std.proofs.Common.{arith, inl, inr, ap, Ok, Err, ◌∙◌}
use Rattle.std.proofs.lemmas.Result.{err_from_is_err_and}
use Rattle.nf_lex.proofs.ReaderLemmas.{so_far_gap, so_far_token, so_far_end, so_far_fault}
use Rattle.nf_lex.proofs.UniquenessLemmas.{one_answer}
use Rattle.nf_lex.proofs.LayoutLemmas.{laid_out, each_token}
use Rattle.nf_lex.specs.Layout.{none}
use Rattle.nf_lex.proofs.reader.tokens.Goals as goal

pub returns-in_err-length-clause-fault : goal.returns-in_err-length-clause-fault
returns-in_err-length-clause-fault c =
    let p = err_from_is_err_and c.from_residual.result c.from_residual.ensures.1 in
    rw (p.1, p.2) (inr (so_far_fault _ _ _ _ c.words.invariant c.in_err-length.ensures.piece))

pub returns-in_err-length-clause-exact : goal.returns-in_err-length-clause-exact
returns-in_err-length-clause-exact c = λ answer d.
    let p = err_from_is_err_and c.from_residual.result c.from_residual.ensures.1 in
    inl (p.1 ∙ ap Err p.2 ∙ one_answer c.args.source.now 0 _ answer (so_far_fault _ _ _ _ c.words.invariant c.in_err-length.ensures.piece) d)

pub words-preserved-in-Gap : goal.words-preserved-in-Gap
words-preserved-in-Gap c =
    let word = rw c.in-Gap.is at c.in_ok-length.ensures.piece in
    let room = rw c.in-Gap.is at c.in_ok-length.ensures.within in
    so_far_gap _ _ _ _ c.words.invariant word room

pub words-preserved : goal.words-preserved
words-preserved c =
    let word = rw c.in-Token.is at c.in_ok-length.ensures.piece in
    let room = rw c.in-Token.is at c.in_ok-length.ensures.within in
    rw c.in_ok-push-in-Token.ensures.ok (so_far_token _ _ _ _ _ c.words.invariant word.0 word.1 room)

pub returns-clause-exact : goal.returns-clause-exact
returns-clause-exact c = λ answer d. inl (one_answer c.args.source.now 0 _ answer (so_far_end _ _ _ c.words.invariant c.words-test.false) d)

pub returns-clause-laid_out : goal.returns-clause-laid_out
returns-clause-laid_out c = laid_out c.args.source.now 0 (Ok c.words.found) (so_far_end _ _ _ c.words.invariant c.words-test.false) 0 (omega arith) (omega arith) none

pub returns-clause-each : goal.returns-clause-each
returns-clause-each c = each_token c.args.source.now 0 (Ok c.words.found) (so_far_end _ _ _ c.words.invariant c.words-test.false) (omega arith)
