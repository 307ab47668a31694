use Rattle.std.proofs.Common.{refl, inr, inl, ⊎_elim, ap, ◌∙◌, sym, true≢false, Ok, Err}
use Rattle.std.proofs.lemmas.Result.{err_from_is_err_and}
use Rattle.nf_cparse.specs.Manifests.{BeginsWith}
use Rattle.nf_cparse.specs.inner.ManifestParts.{AreLinesAt}
use Rattle.nf_cparse.proofs.ReadingLemmas.{refused_by}
use Rattle.nf_cparse.proofs.ManifestLemmas.{begins_lines, lines_begin, not_apart, rest_shorter, begins_at, same_place}
use Rattle.nf_cparse.proofs.manifest.read_manifest.Goals as goal

pub returns-in_err-manifest-clause-fault : goal.returns-in_err-manifest-clause-fault
returns-in_err-manifest-clause-fault c =
    let p = err_from_is_err_and c.from_residual.result c.from_residual.ensures.1 in
    rw (p.1, p.2) (refused_by (AreLinesAt c.args.source.now) (BeginsWith c.args.source.now) _ (λ none m rest h. none m rest (begins_lines c.args.source.now m rest h)) c.in_err-manifest.ensures.err)

pub returns-in_err-manifest-clause-exact : goal.returns-in_err-manifest-clause-exact
returns-in_err-manifest-clause-exact c = λ m rest h.
    let p = err_from_is_err_and c.from_residual.result c.from_residual.ensures.1 in
    ⊎_elim (λ memory. inr (p.1 ∙ ap Err (p.2 ∙ memory))) (λ none. absurd (none.1 m rest (begins_lines c.args.source.now m rest h))) c.in_err-manifest.ensures.err

pub returns-then-not-branch-clause-fault : goal.returns-then-not-branch-clause-fault
returns-then-not-branch-clause-fault c = inr (
  refl,
  not_apart c.args.source.now c.in_ok-manifest.manifest c.in_ok-manifest.rest.now c.in_ok-manifest.ensures.ok
      (λ apart. true≢false (sym (c.in_ok-are_apart.ensures.1 apart) ∙ c.if-not-branch.true)),
)

pub returns-then-not-branch-clause-exact : goal.returns-then-not-branch-clause-exact
returns-then-not-branch-clause-exact c = λ m rest h. absurd (not_apart c.args.source.now c.in_ok-manifest.manifest c.in_ok-manifest.rest.now c.in_ok-manifest.ensures.ok
    (λ apart. true≢false (sym (c.in_ok-are_apart.ensures.1 apart) ∙ c.if-not-branch.true)) m rest h)

pub overflow_sub-place : goal.overflow_sub-place
overflow_sub-place c =
    rest_shorter c.args.source.now c.in_ok-manifest.manifest c.in_ok-manifest.rest.now
    (lines_begin c.args.source.now c.in_ok-manifest.manifest c.in_ok-manifest.rest.now c.in_ok-manifest.ensures.ok (c.in_ok-are_apart.ensures.0 c.if-not-branch.false))

pub returns-clause-found : goal.returns-clause-found
returns-clause-found c =
    begins_at c.args.source.now c.in_ok-manifest.manifest c.in_ok-manifest.rest.now
    (lines_begin c.args.source.now c.in_ok-manifest.manifest c.in_ok-manifest.rest.now c.in_ok-manifest.ensures.ok (c.in_ok-are_apart.ensures.0 c.if-not-branch.false))

pub returns-clause-exact : goal.returns-clause-exact
returns-clause-exact c = λ m rest h. inl (ap Ok (same_place c.args.source.now c.in_ok-manifest.manifest m c.in_ok-manifest.rest.now rest
    (lines_begin c.args.source.now c.in_ok-manifest.manifest c.in_ok-manifest.rest.now c.in_ok-manifest.ensures.ok (c.in_ok-are_apart.ensures.0 c.if-not-branch.false)) h))
