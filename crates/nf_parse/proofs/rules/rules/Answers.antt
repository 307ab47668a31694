use Rattle.std.proofs.Common.{◌∙◌, sym, refl}
use Rattle.std.proofs.lemmas.Result.{err_from_is_err_and}
use Rattle.nf_grammar.proofs.Public.OutcomeLemmas.{stop_reads}
use Rattle.nf_parse.specs.inner.RuleReading as spec
use Rattle.nf_parse.specs.inner.RuleReading.{rules}
use Rattle.nf_parse.proofs.PartListLemmas.{list_stops, list_ends}
use Rattle.nf_parse.proofs.rules.rules.Goals as goal

pub returns-in_err-rule-clause-reads : goal.returns-in_err-rule-clause-reads
unfolding rules
returns-in_err-rule-clause-reads c =
    let p = err_from_is_err_and c.from_residual.result c.from_residual.ensures.1 in
    rw (p.1, p.2) (stop_reads (spec.rule spec.limited c.rules.reader) _ _ c.rule.new.reader _
    (λ f e. list_stops spec.is_ident (spec.rule spec.limited) _ c.rules.rules c.rules.reader f c.rules.invariant.0 refl (sym c.is_at.ensures ∙ c.rules-test.true) e)
    c.in_err-rule.ensures.reads)

pub returns-clause-reads : goal.returns-clause-reads
unfolding rules
returns-clause-reads c = list_ends spec.is_ident (spec.rule spec.limited) _ c.rules.rules c.rules.reader c.rules.invariant.0 (sym c.is_at.ensures ∙ c.rules-test.false)
