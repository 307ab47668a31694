use Rattle.std.proofs.Common.{length}
use Rattle.nf_parse.specs.inner.Parsers.{IsWithin}
use Rattle.nf_parse.specs.inner.RuleReading as spec
use Rattle.nf_parse.proofs.FileLoopLemmas.{IsFileAt}
use Rattle.nf_parse.proofs.RuleReaderLemmas.{limited_shorter}
use Rattle.nf_parse.proofs.modules.file.Given as goal

abbrev pub invariant-modules : goal.invariant-modules
invariant-modules l =
    IsFileAt spec.limited limited_shorter (spec.file spec.limited l.fn.reader) l.modules l.reader
    × IsWithin l.fn.reader l.reader

abbrev pub decreases-modules : goal.decreases-modules
decreases-modules l = length l.reader.words
