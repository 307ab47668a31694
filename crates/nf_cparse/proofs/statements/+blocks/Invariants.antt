use Rattle.std.proofs.Common.{◌+◌, ◌*◌, length}
use Rattle.nf_cparse.specs.inner.Parsers.{IsWithin}
use Rattle.nf_cparse.specs.inner.StatementReading as spec
use Rattle.nf_cparse.proofs.PartListLemmas.{IsListAt}
use Rattle.nf_cparse.proofs.statements.+blocks.Given as goal

abbrev pub decreases-block : goal.decreases-block
decreases-block l = 10 * l.blocks

abbrev pub decreases-otherwise : goal.decreases-otherwise
decreases-otherwise l = 10 * l.blocks + 1

abbrev pub decreases-conditional : goal.decreases-conditional
decreases-conditional l = 10 * l.blocks + 2

abbrev pub decreases-counted_loop : goal.decreases-counted_loop
decreases-counted_loop l = 10 * l.blocks + 2

abbrev pub decreases-statement : goal.decreases-statement
decreases-statement l = 10 * l.blocks + 3

abbrev pub decreases-statements : goal.decreases-statements
decreases-statements l = 10 * l.blocks + 4

abbrev pub invariant-statements-statements : goal.invariant-statements-statements
invariant-statements-statements l =
    IsListAt spec.begins_statement (spec.statement_at l.depth l.blocks)
    (spec.statements_at l.depth l.blocks l.fn.reader) l.stmts l.reader
    × IsWithin l.fn.reader l.reader

abbrev pub decreases-statements-statements : goal.decreases-statements-statements
decreases-statements-statements l = length l.reader.words
