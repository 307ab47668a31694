use Rattle.std.proofs.Common.{refl, inr, sym, ap, ◌∙◌}
use Rattle.std.proofs.lemmas.Result.{err_from_is_err_and}
use Rattle.nf_cparse.specs.inner.ManifestParts.{AreKeysAt, IsNameAt, ascend}
use Rattle.nf_cparse.proofs.ReadingLemmas.{refused_by}
use Rattle.nf_cparse.proofs.AscendingLemmas.{not_ascending}
use Rattle.nf_cparse.proofs.ManifestNameLemmas.{keys_of_name, keys_same}
use Rattle.nf_cparse.proofs.manifest_names.name_at.Goals as goal

pub returns-in_err-keys-clause-err : goal.returns-in_err-keys-clause-err
returns-in_err-keys-clause-err c =
    let p = err_from_is_err_and c.from_residual-in_err-keys.result c.from_residual-in_err-keys.ensures.1 in
    rw (p.1, p.2) (refused_by (AreKeysAt c.in_ok-name.rest.now) (IsNameAt c.args.bytes.now) _
    (λ none n rest h. none n.keys rest (keys_of_name c.args.bytes.now c.in_ok-is_head.word.now c.in_ok-name.rest.now c.in_ok-name.name c.in_ok-is_head.is_head c.in_ok-is_head.ensures.ok c.in_ok-name.ensures.ok n rest h)) c.in_err-keys.ensures.err)

pub returns-then-not-are_ascending-clause-err : goal.returns-then-not-are_ascending-clause-err
returns-then-not-are_ascending-clause-err c = inr (
  refl,
  λ n rest h.
      let keys = keys_of_name c.args.bytes.now c.in_ok-is_head.word.now c.in_ok-name.rest.now c.in_ok-name.name c.in_ok-is_head.is_head c.in_ok-is_head.ensures.ok c.in_ok-name.ensures.ok n rest h in
      not_ascending c.in_ok-keys.keys n.keys (ap ascend (sym c.as_slice.ensures) ∙ sym c.are_ascending.ensures ∙ c.if-not-are_ascending.true) (keys_same c.in_ok-name.rest.now n.keys c.in_ok-keys.keys rest c.in_ok-keys.rest.now keys c.in_ok-keys.ensures.ok).0 h.ascending,
)
