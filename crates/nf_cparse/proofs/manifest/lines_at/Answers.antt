use Rattle.std.proofs.Common.{subst}
use Rattle.std.proofs.lemmas.Result.{err_from_is_err_and}
use Rattle.nf_cparse.specs.inner.ManifestParts.{IsVersionAt, AreLinesAt, AreNamesAt, AreTextsAt}
use Rattle.nf_cparse.proofs.ReadingLemmas.{refused_by}
use Rattle.nf_cparse.proofs.ManifestNameLemmas.{names_same}
use Rattle.nf_cparse.proofs.ManifestLemmas.{version_same}
use Rattle.nf_cparse.proofs.manifest.lines_at.Goals as goal

pub returns-in_err-version-clause-err : goal.returns-in_err-version-clause-err
returns-in_err-version-clause-err c =
    let p = err_from_is_err_and c.from_residual.result c.from_residual.ensures.1 in
    rw (p.1, p.2) (refused_by (IsVersionAt c.args.bytes.now) (AreLinesAt c.args.bytes.now) _ (λ none m rest h. none m.version h.after h.version) c.in_err-version.ensures.err)

pub returns-in_err-texts-clause-err : goal.returns-in_err-texts-clause-err
returns-in_err-texts-clause-err c =
    let p = err_from_is_err_and c.from_residual-in_err-texts.result c.from_residual-in_err-texts.ensures.1 in
    rw (p.1, p.2) (refused_by (AreTextsAt c.in_ok-names.rest.now) (AreLinesAt c.args.bytes.now) _
    (λ none m rest h.
    let v = version_same c.args.bytes.now h.after c.in_ok-version.rest.now m.version c.in_ok-version.version h.version c.in_ok-version.ensures.ok in
    let n = names_same c.in_ok-version.rest.now m.names c.in_ok-names.names h.behind c.in_ok-names.rest.now (subst (λ b. AreNamesAt b m.names h.behind) v.1 h.names) c.in_ok-names.ensures.ok in
    none m.texts rest (subst (λ b. AreTextsAt b m.texts rest) n.1 h.texts)) c.in_err-texts.ensures.err)
