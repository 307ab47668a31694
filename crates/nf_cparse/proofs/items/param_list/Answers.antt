use Rattle.std.proofs.Common.{◌∙◌, sym, refl}
use Rattle.std.proofs.lemmas.Result.{err_from_is_err_and}
use Rattle.nf_grammar.proofs.Public.OutcomeLemmas.{stop_reads}
use Rattle.nf_cparse.specs.declared.symbol.Sym.TheVariants as kind
use Rattle.nf_cparse.specs.inner.Parsers.{is_kind}
use Rattle.nf_cparse.specs.inner.StatementReading.{declared}
use Rattle.nf_cparse.specs.inner.ItemReading as spec
use Rattle.nf_cparse.proofs.PartListLemmas.{separated_start, separated_stops, list_more, list_stops, list_ends, within_more}
use Rattle.nf_cparse.proofs.items.param_list.Goals as goal

pub params-init : goal.params-init
params-init c = rw (c.in_ok-push.ensures.ok, c.new-params.ensures) (
  separated_start kind.Comma (declared) c.args.reader.now c.declared.new.reader c.in_ok-first.first c.in_ok-first.ensures.reads,
  c.in_ok-first.ensures.within,
)

pub returns-in_err-param-clause-reads : goal.returns-in_err-param-clause-reads
returns-in_err-param-clause-reads c =
    let p = err_from_is_err_and c.from_residual-in_err-param.result c.from_residual-in_err-param.ensures.1 in
    rw (p.1, p.2) (stop_reads (spec.next_param c.params.reader) _ _ c.next_param.new.reader _
    (λ f e. list_stops (is_kind kind.Comma) (spec.next_param) _ c.params.params c.params.reader f c.params.invariant.0 refl (sym c.is_at.ensures ∙ c.params-test.true) e)
    c.in_err-param.ensures.reads)

pub params-preserved : goal.params-preserved
params-preserved c = rw c.in_ok-push-2.ensures.ok (
  list_more (is_kind kind.Comma) (spec.next_param) _ c.params.params c.params.reader c.next_param.new.reader c.in_ok-param.param
      c.params.invariant.0 (sym c.is_at.ensures ∙ c.params-test.true) c.in_ok-param.ensures.reads c.in_ok-param.ensures.shorter,
  within_more c.args.reader.now c.params.reader c.next_param.new.reader c.params.invariant.1 c.in_ok-param.ensures.within,
)

pub returns-clause-reads : goal.returns-clause-reads
returns-clause-reads c = list_ends (is_kind kind.Comma) (spec.next_param) _ c.params.params c.params.reader c.params.invariant.0 (sym c.is_at.ensures ∙ c.params-test.false)

pub returns-in_err-first-clause-reads : goal.returns-in_err-first-clause-reads
returns-in_err-first-clause-reads c =
    let p = err_from_is_err_and c.from_residual.result c.from_residual.ensures.1 in
    rw (p.1, p.2) (stop_reads (declared c.args.reader.now) _ _ c.declared.new.reader _
    (λ f e. separated_stops kind.Comma (declared) c.args.reader.now f e)
    c.in_err-first.ensures.reads)
