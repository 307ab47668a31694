use Rattle.std.proofs.lemmas.Result.{err_from_is_err_and}
use Rattle.nf_cparse.specs.inner.ManifestParts.{AreDigitsAt, IsTextAt, IsManifestEnd, AreTextsAt}
use Rattle.nf_cparse.proofs.ReadingLemmas.{refused_by}
use Rattle.nf_cparse.proofs.ListedLemmas.{so_far_more, so_far_ends, so_far_stops}
use Rattle.nf_cparse.proofs.ManifestTextLemmas.{text_apart, text_same, manifest_end_same, digits_of_text, no_end_at_text}
use Rattle.nf_cparse.proofs.manifest_texts.texts_at.Goals as goal

pub returns-in_err-text-clause-err : goal.returns-in_err-text-clause-err
returns-in_err-text-clause-err c =
    let p = err_from_is_err_and c.from_residual.result c.from_residual.ensures.1 in
    rw (p.1, p.2) (refused_by (AreDigitsAt c.in-Some.digits.now) (AreTextsAt c.args.bytes.now) _
    (λ none. so_far_stops IsTextAt IsManifestEnd c.args.bytes.now c.texts.texts c.texts.rest.now c.texts.invariant
    (λ text next h. none text next (digits_of_text c.texts.rest.now c.in-Some.digits.now c.in-Some.ensures text next h))
    (no_end_at_text c.texts.rest.now c.in-Some.digits.now c.in-Some.ensures)) c.in_err-text.ensures.err)

pub texts-preserved : goal.texts-preserved
texts-preserved c = rw c.in_ok-push.ensures.ok (so_far_more IsTextAt IsManifestEnd text_apart text_same manifest_end_same c.args.bytes.now c.texts.texts c.texts.rest.now c.in_ok-text.next.now c.in_ok-text.text c.texts.invariant
    (record { behind = c.in-Some.digits.now; word = c.in-Some.ensures; digits = c.in_ok-text.ensures.ok }))

pub returns-in-Some-behind-clause-ok : goal.returns-in-Some-behind-clause-ok
returns-in-Some-behind-clause-ok c = so_far_ends IsTextAt IsManifestEnd c.args.bytes.now c.texts.texts c.texts.rest.now c.in-Some-behind.rest.now c.texts.invariant c.in-Some-behind.ensures
