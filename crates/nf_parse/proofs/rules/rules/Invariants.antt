use Rattle.std.proofs.Common.{◌≡◌, ◌<◌, ◌⊎◌, length}
use Rattle.nf_parse.specs.inner.Parsers.{IsWithin}
use Rattle.nf_grammar.specs.inner.Parsers as parser
use Rattle.nf_parse.specs.inner.RuleReading as spec
use Rattle.nf_parse.proofs.PartListLemmas.{IsListAt}
use Rattle.nf_parse.proofs.rules.rules.Given as goal

abbrev pub invariant-rules : goal.invariant-rules
invariant-rules l =
    IsListAt spec.is_ident (spec.rule spec.limited)
    (parser.repeated spec.is_ident (spec.rule spec.limited) l.fn.reader) l.rules l.reader
    × IsWithin l.fn.reader l.reader
    × ((l.reader ≡ l.fn.reader) ⊎ (length l.reader.words < length l.fn.reader.words))

abbrev pub decreases-rules : goal.decreases-rules
decreases-rules l = length l.reader.words
