use Rattle.std.proofs.Common.{length}
use Rattle.nf_cparse.specs.declared.symbol.Sym.TheVariants as sym
use Rattle.nf_cparse.specs.inner.Parsers.{IsWithin, is_kind}
use Rattle.nf_cparse.specs.inner.StatementReading as spec
use Rattle.nf_cparse.proofs.PartListLemmas.{IsListAt}
use Rattle.nf_cparse.proofs.arguments.argument_list.Given as goal

abbrev pub invariant-arguments : goal.invariant-arguments
invariant-arguments l =
    IsListAt (is_kind sym.Comma) (spec.next_argument l.depth)
    (spec.argument_list l.depth l.fn.reader) l.arguments l.reader
    × IsWithin l.fn.reader l.reader

abbrev pub decreases-arguments : goal.decreases-arguments
decreases-arguments l = length l.reader.words
