use Rattle.std.proofs.Common.{length}
use Rattle.nf_cparse.proofs.SourceLemmas.{IsPastSome}
use Rattle.nf_cparse.proofs.reading.line_left.Given as goal

abbrev pub invariant-words : goal.invariant-words
invariant-words l = IsPastSome l.fn.words l.left l.words

abbrev pub decreases-words : goal.decreases-words
decreases-words l = length l.words
