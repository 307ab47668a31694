use Rattle.std.proofs.Common.{refl, inr, subst, sym, ◌∙◌, true≢false}
use Rattle.std.proofs.lemmas.Result.{err_from_is_err_and}
use Rattle.nf_core.specs.Texts.{IsPlain}
use Rattle.nf_cparse.specs.inner.ManifestParts.{IsEncoded, AreDigitsAt}
use Rattle.nf_cparse.proofs.ReadingLemmas.{refused_by}
use Rattle.nf_cparse.proofs.ManifestTextLemmas.{digits_encode, digits_plain}
use Rattle.nf_cparse.proofs.manifest_texts.digits_at.Goals as goal

pub returns-in_err-text-clause-err : goal.returns-in_err-text-clause-err
returns-in_err-text-clause-err c =
    let p = err_from_is_err_and c.from_residual-in_err-text.result c.from_residual-in_err-text.ensures.1 in
    rw (p.1, p.2) (refused_by (λ text rest. IsEncoded c.in_ok-digits.digits.now text) (AreDigitsAt c.args.bytes.now) _
    (λ none text rest h. none text rest (digits_encode c.args.bytes.now c.in_ok-digits.digits.now c.in_ok-digits.rest.now c.in_ok-digits.ensures.ok text rest h)) c.in_err-text.ensures.err)

pub returns-then-not-is_plain-clause-err : goal.returns-then-not-is_plain-clause-err
returns-then-not-is_plain-clause-err c = inr (
  refl,
  λ text rest h.
      let plain = digits_plain c.args.bytes.now c.in_ok-digits.digits.now c.in_ok-digits.rest.now c.in_ok-text.text c.in_ok-digits.ensures.ok c.in_ok-text.ensures.ok text rest h in
      true≢false (sym (c.is_plain.ensures.plain.1 (subst IsPlain (sym c.as_str.ensures) plain)) ∙ c.if-not-is_plain.true),
)
