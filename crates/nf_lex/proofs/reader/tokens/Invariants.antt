use Rattle.std.proofs.Common.{◌-◌, length}
use Rattle.nf_lex.proofs.ReaderLemmas.{IsSoFar}
use Rattle.nf_lex.proofs.reader.tokens.Given as goal

abbrev pub invariant-words : goal.invariant-words
invariant-words l = IsSoFar l.source l.place l.found

abbrev pub decreases-words : goal.decreases-words
decreases-words l = length l.source - l.place
