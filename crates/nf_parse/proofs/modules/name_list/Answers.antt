use Rattle.std.proofs.Common.{◌∙◌, sym, refl}
use Rattle.std.proofs.lemmas.Result.{err_from_is_err_and}
use Rattle.nf_grammar.proofs.Public.OutcomeLemmas.{stop_reads}
use Rattle.nf_parse.specs.declared.symbol.Sym.TheVariants as kind
use Rattle.nf_parse.specs.inner.Parsers.{is_kind, token}
use Rattle.nf_parse.specs.inner.RuleReading as spec
use Rattle.nf_parse.proofs.PartListLemmas.{separated_start, separated_stops, list_more, list_stops, list_ends, within_more}
use Rattle.nf_parse.proofs.modules.name_list.Goals as goal

pub names-init : goal.names-init
names-init c = rw (c.in_ok-push.ensures.ok, c.new-names.ensures) (
  separated_start kind.Comma (token kind.Ident) c.args.reader.now c.name.new.reader c.in_ok-first.first c.in_ok-first.ensures.reads,
  c.in_ok-first.ensures.within,
)

pub returns-in_err-first-clause-reads : goal.returns-in_err-first-clause-reads
returns-in_err-first-clause-reads c =
    let p = err_from_is_err_and c.from_residual.result c.from_residual.ensures.1 in
    rw (p.1, p.2) (stop_reads (token kind.Ident c.args.reader.now) _ _ c.name.new.reader _
    (λ f e. separated_stops kind.Comma (token kind.Ident) c.args.reader.now f e)
    c.in_err-first.ensures.reads)

pub returns-in_err-name-clause-reads : goal.returns-in_err-name-clause-reads
returns-in_err-name-clause-reads c =
    let p = err_from_is_err_and c.from_residual-in_err-name.result c.from_residual-in_err-name.ensures.1 in
    rw (p.1, p.2) (stop_reads (spec.next_name c.names.reader) _ _ c.next_name.new.reader _
    (λ f e. list_stops (is_kind kind.Comma) spec.next_name _ c.names.names c.names.reader f c.names.invariant.0 refl (sym c.is_at.ensures ∙ c.names-test.true) e)
    c.in_err-name.ensures.reads)

pub names-preserved : goal.names-preserved
names-preserved c = rw c.in_ok-push-2.ensures.ok (
  list_more (is_kind kind.Comma) spec.next_name _ c.names.names c.names.reader c.next_name.new.reader c.in_ok-name.name
      c.names.invariant.0 (sym c.is_at.ensures ∙ c.names-test.true) c.in_ok-name.ensures.reads c.in_ok-name.ensures.shorter,
  within_more c.args.reader.now c.names.reader c.next_name.new.reader c.names.invariant.1 c.in_ok-name.ensures.within,
)

pub returns-clause-reads : goal.returns-clause-reads
returns-clause-reads c = list_ends (is_kind kind.Comma) spec.next_name _ c.names.names c.names.reader c.names.invariant.0 (sym c.is_at.ensures ∙ c.names-test.false)
