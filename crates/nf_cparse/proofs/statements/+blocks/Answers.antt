use Rattle.std.proofs.Common.{◌-◌, sym, ap, ◌∙◌, refl, arith}
use Rattle.std.proofs.lemmas.Result.{err_from_is_err_and}
use Rattle.nf_grammar.proofs.Public.OutcomeLemmas.{stop_reads}
use Rattle.nf_cparse.specs.declared.symbol.Sym.TheVariants as kind
use Rattle.nf_cparse.specs.inner.Parsers.{token}
use Rattle.nf_cparse.specs.inner.StatementReading as spec
use Rattle.nf_cparse.proofs.NestLemmas.{stops_read}
use Rattle.nf_cparse.proofs.BlockLemmas.{block_zero, brace_stops, stmts_stop, end_stops, block_read}
use Rattle.nf_cparse.proofs.PartListLemmas.{list_start, list_more, list_stops, list_ends, within_more}
use Rattle.nf_cparse.proofs.statements.+blocks.Goals as goal

pub block-returns-then-blocks-eq0-clause-reads : goal.block-returns-then-blocks-eq0-clause-reads
block-returns-then-blocks-eq0-clause-reads t c = rw c.nowhere.ensures (block_zero c.args.depth c.args.blocks c.args.reader.now (omega (arith, c.if-blocks-eq0.true)))

pub block-returns-in_err-skip-clause-reads : goal.block-returns-in_err-skip-clause-reads
block-returns-in_err-skip-clause-reads t c =
    let p = err_from_is_err_and c.from_residual.result c.from_residual.ensures.1 in
    rw (p.1, p.2) (stops_read (token kind.OpenBrace c.args.reader.now) _ _ _
    (λ f e. brace_stops c.args.depth c.args.blocks c.args.reader.now (omega (arith, c.if-blocks-eq0.false)) f e) c.in_err-skip.ensures.stops)

pub block-returns-in_err-stmts-clause-reads : goal.block-returns-in_err-stmts-clause-reads
block-returns-in_err-stmts-clause-reads t c =
    let p = err_from_is_err_and c.from_residual-in_err-stmts.result c.from_residual-in_err-stmts.ensures.1 in
    let first = c.in_ok-skip.ensures.reads in
    rw (p.1, p.2) (stop_reads (spec.statements_at c.args.depth (c.args.blocks - 1) c.skip.new.self) _ _ _ _
    (λ f e. stmts_stop c.args.depth c.args.blocks c.args.reader.now (omega (arith, c.if-blocks-eq0.false)) first.word c.skip.new.self first.is f e)
    c.in_err-stmts.ensures.reads)

pub block-returns-in_err-line-clause-reads : goal.block-returns-in_err-line-clause-reads
block-returns-in_err-line-clause-reads t c =
    let p = err_from_is_err_and c.from_residual-in_err-line.result c.from_residual-in_err-line.ensures.1 in
    let first = c.in_ok-skip.ensures.reads in
    rw (p.1, p.2) (stops_read (token kind.CloseBrace c.statements.new.reader) _ _ _
    (λ f e. end_stops c.args.depth c.args.blocks c.args.reader.now (omega (arith, c.if-blocks-eq0.false)) first.word c.skip.new.self first.is c.in_ok-stmts.stmts c.statements.new.reader c.in_ok-stmts.ensures.reads f e)
    c.in_err-line.ensures.stops)

pub block-returns-clause-reads : goal.block-returns-clause-reads
block-returns-clause-reads t c =
    let first = c.in_ok-skip.ensures.reads in
    block_read c.args.depth c.args.blocks c.args.reader.now (omega (arith, c.if-blocks-eq0.false)) first.word c.skip.new.self first.is c.in_ok-stmts.stmts c.statements.new.reader c.in_ok-stmts.ensures.reads
    _ c.take.new.self c.in_ok-line.ensures.reads

pub statements-statements-init : goal.statements-statements-init
statements-statements-init t c = rw c.new-stmts.ensures (
  list_start spec.begins_statement (spec.statement_at c.args.depth c.args.blocks) c.args.reader.now,
  record { words = omega arith; room = omega arith },
)

pub statements-returns-in_err-statement-clause-reads : goal.statements-returns-in_err-statement-clause-reads
statements-returns-in_err-statement-clause-reads t c =
    let p = err_from_is_err_and c.from_residual.result c.from_residual.ensures.1 in
    rw (p.1, p.2) (stop_reads (spec.statement_at c.args.depth c.args.blocks c.statements.reader) _ _ _ _
    (λ f e. list_stops spec.begins_statement (spec.statement_at c.args.depth c.args.blocks) _ c.statements.stmts c.statements.reader f c.statements.invariant.0 refl
    (ap spec.begins_with (sym c.next.ensures) ∙ sym c.begins_statement.ensures ∙ c.statements-test.true) e)
    c.in_err-statement.ensures.reads)

pub statements-statements-preserved : goal.statements-statements-preserved
statements-statements-preserved t c = rw c.in_ok-push.ensures.ok (
  list_more spec.begins_statement (spec.statement_at c.args.depth c.args.blocks) _ c.statements.stmts c.statements.reader c.statement.new.reader c.in_ok-statement.statement
      c.statements.invariant.0 (ap spec.begins_with (sym c.next.ensures) ∙ sym c.begins_statement.ensures ∙ c.statements-test.true) c.in_ok-statement.ensures.reads c.in_ok-statement.ensures.shorter,
  within_more c.args.reader.now c.statements.reader c.statement.new.reader c.statements.invariant.1 c.in_ok-statement.ensures.within,
)

pub statements-returns-clause-reads : goal.statements-returns-clause-reads
statements-returns-clause-reads t c = list_ends spec.begins_statement (spec.statement_at c.args.depth c.args.blocks) _ c.statements.stmts c.statements.reader c.statements.invariant.0
    (ap spec.begins_with (sym c.next.ensures) ∙ sym c.begins_statement.ensures ∙ c.statements-test.false)
