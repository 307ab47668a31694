use Rattle.nfer_cli.proofs.ReportLemmas.{texts_reported, texts_stopped}
use Rattle.nfer_cli.proofs.messages.write_texts.Goals as goal

pub returns-in_err-write_all-clause-texts : goal.returns-in_err-write_all-clause-texts
returns-in_err-write_all-clause-texts g c =
    texts_stopped _ _ _ _ c.loop-text.text-index c.args.texts.now _ _ c.loop-text-test.true c.as_bytes.ensures.value c.loop-text.invariant.taken c.in_err-write_all.ensures.err c.loop-text.invariant.later c.in_err-write_all.ensures.cause

pub returns-clause-texts : goal.returns-clause-texts
returns-clause-texts g c = texts_reported _ _ _ c.loop-text.text-index c.args.texts.now c.loop-text-test.false c.loop-text.invariant.taken
