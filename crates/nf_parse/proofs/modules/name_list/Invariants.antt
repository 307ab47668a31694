use Rattle.std.proofs.Common.{length}
use Rattle.nf_parse.specs.declared.symbol.Sym.TheVariants as sym
use Rattle.nf_parse.specs.inner.Parsers.{IsWithin, is_kind}
use Rattle.nf_parse.specs.inner.RuleReading as spec
use Rattle.nf_parse.proofs.PartListLemmas.{IsListAt}
use Rattle.nf_parse.proofs.modules.name_list.Given as goal

abbrev pub invariant-names : goal.invariant-names
invariant-names l =
    IsListAt (is_kind sym.Comma) spec.next_name (spec.name_list l.fn.reader) l.names l.reader
    × IsWithin l.fn.reader l.reader

abbrev pub decreases-names : goal.decreases-names
decreases-names l = length l.reader.words
