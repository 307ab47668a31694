use Rattle.std.proofs.Common.{refl, sym, ◌∙◌, true≢false}
use Rattle.std.proofs.lemmas.Result.{err_from_is_err_and}
use Rattle.nf_cparse.specs.inner.ManifestParts.{IsNameAt, IsBehindNames, AreNamesAt}
use Rattle.nf_cparse.proofs.ReadingLemmas.{refused_by}
use Rattle.nf_cparse.proofs.ListedLemmas.{so_far_more, so_far_ends, so_far_stops}
use Rattle.nf_cparse.proofs.ManifestNameLemmas.{name_apart, name_same, behind_names_same, name_shorter}
use Rattle.nf_cparse.proofs.manifest_names.names_at.Goals as goal

pub returns-in_err-name-clause-err : goal.returns-in_err-name-clause-err
returns-in_err-name-clause-err c =
    let p = err_from_is_err_and c.from_residual.result c.from_residual.ensures.1 in
    rw (p.1, p.2) (refused_by (IsNameAt c.names.rest.now) (AreNamesAt c.args.bytes.now) _
    (λ none. so_far_stops IsNameAt IsBehindNames c.args.bytes.now c.names.names c.names.rest.now c.names.invariant none
    (λ rest e. true≢false (sym (sym c.begins_name.ensures ∙ c.names-test.true) ∙ e.none))) c.in_err-name.ensures.err)

pub names-smaller : goal.names-smaller
names-smaller c = name_shorter c.names.rest.now c.in_ok-name.next.now c.in_ok-name.name c.in_ok-name.ensures.ok

pub names-preserved : goal.names-preserved
names-preserved c = rw c.in_ok-push.ensures.ok (so_far_more IsNameAt IsBehindNames name_apart name_same behind_names_same c.args.bytes.now c.names.names c.names.rest.now c.in_ok-name.next.now c.in_ok-name.name c.names.invariant c.in_ok-name.ensures.ok)

pub returns-clause-ok : goal.returns-clause-ok
returns-clause-ok c = so_far_ends IsNameAt IsBehindNames c.args.bytes.now c.names.names c.names.rest.now c.names.rest.now c.names.invariant
    (record { stays = refl; none = sym c.begins_name.ensures ∙ c.names-test.false })
