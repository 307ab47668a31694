use Rattle.std.proofs.Common.{length}
use Rattle.std.specs.List.{All}
use Rattle.nf_parse.specs.declared.symbol.Sym.TheVariants as sym
use Rattle.nf_parse.specs.inner.Parsers.{IsWithin, is_kind}
use Rattle.nf_parse.specs.inner.RuleReading as spec
use Rattle.nf_parse.specs.inner.Limited.{HasLimitedValue}
use Rattle.nf_parse.proofs.PartListLemmas.{IsListAt}
use Rattle.nf_parse.proofs.clauses.entry_list.Given as goal

abbrev pub invariant-entries : goal.invariant-entries
invariant-entries l =
    IsListAt (is_kind sym.Comma) (spec.next_entry spec.limited)
    (spec.entry_list spec.limited l.fn.reader) l.entries l.reader
    × IsWithin l.fn.reader l.reader
    × All HasLimitedValue l.entries

abbrev pub decreases-entries : goal.decreases-entries
decreases-entries l = length l.reader.words
