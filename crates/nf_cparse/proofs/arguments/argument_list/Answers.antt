use Rattle.std.proofs.Common.{◌∙◌, sym, refl}
use Rattle.std.proofs.lemmas.Result.{err_from_is_err_and}
use Rattle.nf_grammar.proofs.Public.OutcomeLemmas.{stop_reads}
use Rattle.nf_cparse.specs.declared.symbol.Sym.TheVariants as kind
use Rattle.nf_cparse.specs.inner.Parsers.{is_kind}
use Rattle.nf_cparse.specs.inner.StatementReading as spec
use Rattle.nf_cparse.proofs.PartListLemmas.{separated_start, separated_stops, list_more, list_stops, list_ends, within_more}
use Rattle.nf_cparse.proofs.arguments.argument_list.Goals as goal

pub arguments-init : goal.arguments-init
arguments-init c = rw (c.in_ok-push.ensures.ok, c.new-arguments.ensures) (
  separated_start kind.Comma (spec.whole c.args.depth) c.args.reader.now c.whole.new.reader c.in_ok-first.first c.in_ok-first.ensures.reads,
  c.in_ok-first.ensures.within,
)

pub returns-in_err-argument-clause-reads : goal.returns-in_err-argument-clause-reads
returns-in_err-argument-clause-reads c =
    let p = err_from_is_err_and c.from_residual-in_err-argument.result c.from_residual-in_err-argument.ensures.1 in
    rw (p.1, p.2) (stop_reads (spec.next_argument c.args.depth c.arguments.reader) _ _ c.next_argument.new.reader _
    (λ f e. list_stops (is_kind kind.Comma) (spec.next_argument c.args.depth) _ c.arguments.arguments c.arguments.reader f c.arguments.invariant.0 refl (sym c.is_at.ensures ∙ c.arguments-test.true) e)
    c.in_err-argument.ensures.reads)

pub arguments-preserved : goal.arguments-preserved
arguments-preserved c = rw c.in_ok-push-2.ensures.ok (
  list_more (is_kind kind.Comma) (spec.next_argument c.args.depth) _ c.arguments.arguments c.arguments.reader c.next_argument.new.reader c.in_ok-argument.argument
      c.arguments.invariant.0 (sym c.is_at.ensures ∙ c.arguments-test.true) c.in_ok-argument.ensures.reads c.in_ok-argument.ensures.shorter,
  within_more c.args.reader.now c.arguments.reader c.next_argument.new.reader c.arguments.invariant.1 c.in_ok-argument.ensures.within,
)

pub returns-clause-reads : goal.returns-clause-reads
returns-clause-reads c = list_ends (is_kind kind.Comma) (spec.next_argument c.args.depth) _ c.arguments.arguments c.arguments.reader c.arguments.invariant.0 (sym c.is_at.ensures ∙ c.arguments-test.false)

pub returns-in_err-first-clause-reads : goal.returns-in_err-first-clause-reads
returns-in_err-first-clause-reads c =
    let p = err_from_is_err_and c.from_residual.result c.from_residual.ensures.1 in
    rw (p.1, p.2) (stop_reads (spec.whole c.args.depth c.args.reader.now) _ _ c.whole.new.reader _
    (λ f e. separated_stops kind.Comma (spec.whole c.args.depth) c.args.reader.now f e)
    c.in_err-first.ensures.reads)
