use Rattle.std.proofs.Common.{refl, inr, ap, ◌∙◌, sym, subst, IsUtf8, ◌≡◌, Ok}
use Rattle.std.proofs.lemmas.Result.{err_from_is_err_and}
use Rattle.std.proofs.lemmas.Str.{IsUtf8-from_is_utf8}
use Rattle.hex.specs.Hex.{decode_of, encode_lower}
use Rattle.nf_cparse.specs.inner.ManifestParts.{IsEncoded}
use Rattle.nf_cparse.proofs.ReadingLemmas.{refused_by}
use Rattle.nf_cparse.proofs.EncodedLemmas.{encoded_decodes, encoded_is, not_again, is_again}
use Rattle.nf_cparse.proofs.manifest_texts.decoded.Goals as goal

pub returns-in_err-bytes-clause-err : goal.returns-in_err-bytes-clause-err
returns-in_err-bytes-clause-err c =
    let p = err_from_is_err_and c.from_residual.result c.from_residual.ensures.1 in
    rw (p.1, p.2) (refused_by (λ bytes rest. decode_of c.args.digits.now ≡ Ok bytes) (λ text rest. IsEncoded c.args.digits.now text) _
    (λ none text rest h. none text rest (encoded_decodes c.args.digits.now text h)) c.in_err-bytes.ensures.err)

pub returns-in_default-clause-err : goal.returns-in_default-clause-err
returns-in_default-clause-err c = inr (
  refl,
  λ text rest h. c.in_default.ensures.cases.0
      (subst IsUtf8 (encoded_is c.args.digits.now c.in_ok-bytes.bytes.items text c.in_ok-bytes.ensures.ok h ∙ sym c.as_slice.ensures.value) (IsUtf8-from_is_utf8 text h.utf8)),
)

pub returns-then-ne-clause-err : goal.returns-then-ne-clause-err
returns-then-ne-clause-err c = inr (
  refl,
  λ text rest h. not_again c.args.digits.now c.in_ok-bytes.bytes.items c.as_bytes-2.result.now c.in_ok-bytes.ensures.ok
      (c.as_bytes-2.ensures.value ∙ c.in_ok-encode.ensures ∙ ap encode_lower (c.as_bytes.ensures.value ∙ c.in-Ok.ensures.cases.0 ∙ c.as_slice.ensures.value)) c.if-ne.ensures text h,
)

pub returns-clause-ok : goal.returns-clause-ok
returns-clause-ok c = subst (λ text. IsEncoded c.args.digits.now text) (sym c.in_ok-new.ensures)
    (is_again c.args.digits.now c.in-Ok.text.now c.as_bytes-2.result.now (c.as_bytes-2.ensures.value ∙ c.in_ok-encode.ensures ∙ ap encode_lower c.as_bytes.ensures.value) c.if-ne.ensures
    (subst IsUtf8 (sym c.in-Ok.ensures.cases.0) c.in-Ok.ensures.cases.1))
