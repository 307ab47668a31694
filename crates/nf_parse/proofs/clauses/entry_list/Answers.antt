use Rattle.std.proofs.Common.{◌∙◌, sym, [], refl}
use Rattle.std.proofs.lemmas.List.Elements.{All-nil, All-cons, All-push}
use Rattle.std.proofs.lemmas.Result.{err_from_is_err_and}
use Rattle.nf_grammar.proofs.Public.OutcomeLemmas.{stop_reads}
use Rattle.nf_parse.specs.declared.symbol.Sym.TheVariants as kind
use Rattle.nf_parse.specs.inner.Parsers.{is_kind}
use Rattle.nf_parse.specs.inner.RuleReading as spec
use Rattle.nf_parse.specs.inner.Limited.{HasLimitedValue}
use Rattle.nf_parse.proofs.PartListLemmas.{separated_start, separated_stops, list_more, list_stops, list_ends, within_more}
use Rattle.nf_parse.proofs.clauses.entry_list.Goals as goal

pub entries-init : goal.entries-init
entries-init c = rw (c.in_ok-push.ensures.ok, c.new-entries.ensures) (
  separated_start kind.Comma (spec.entry spec.limited) c.args.reader.now c.entry.new.reader c.in_ok-first.first c.in_ok-first.ensures.reads,
  c.in_ok-first.ensures.within,
  All-cons HasLimitedValue c.in_ok-first.first [] c.in_ok-first.ensures.limits (All-nil HasLimitedValue),
)

pub returns-in_err-entry-clause-reads : goal.returns-in_err-entry-clause-reads
returns-in_err-entry-clause-reads c =
    let p = err_from_is_err_and c.from_residual-in_err-entry.result c.from_residual-in_err-entry.ensures.1 in
    rw (p.1, p.2) (stop_reads (spec.next_entry spec.limited c.entries.reader) _ _ c.next_entry.new.reader _
    (λ f e. list_stops (is_kind kind.Comma) (spec.next_entry spec.limited) _ c.entries.entries c.entries.reader f c.entries.invariant.0 refl (sym c.is_at.ensures ∙ c.entries-test.true) e)
    c.in_err-entry.ensures.reads)

pub entries-preserved : goal.entries-preserved
entries-preserved c = rw c.in_ok-push-2.ensures.ok (
  list_more (is_kind kind.Comma) (spec.next_entry spec.limited) _ c.entries.entries c.entries.reader c.next_entry.new.reader c.in_ok-entry.entry
      c.entries.invariant.0 (sym c.is_at.ensures ∙ c.entries-test.true) c.in_ok-entry.ensures.reads c.in_ok-entry.ensures.shorter,
  within_more c.args.reader.now c.entries.reader c.next_entry.new.reader c.entries.invariant.1 c.in_ok-entry.ensures.within,
  All-push HasLimitedValue c.entries.entries c.in_ok-entry.entry c.entries.invariant.2 c.in_ok-entry.ensures.limits,
)

pub returns-clause-reads : goal.returns-clause-reads
returns-clause-reads c = list_ends (is_kind kind.Comma) (spec.next_entry spec.limited) _ c.entries.entries c.entries.reader c.entries.invariant.0 (sym c.is_at.ensures ∙ c.entries-test.false)

pub returns-in_err-first-clause-reads : goal.returns-in_err-first-clause-reads
returns-in_err-first-clause-reads c =
    let p = err_from_is_err_and c.from_residual.result c.from_residual.ensures.1 in
    rw (p.1, p.2) (stop_reads (spec.entry spec.limited c.args.reader.now) _ _ c.entry.new.reader _
    (λ f e. separated_stops kind.Comma (spec.entry spec.limited) c.args.reader.now f e)
    c.in_err-first.ensures.reads)
