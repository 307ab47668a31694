use Rattle.std.proofs.Common.{length}
use Rattle.nf_cparse.specs.inner.Tokens.{place}
use Rattle.nf_cparse.proofs.LexingLemmas.{IsSoFar}
use Rattle.nf_cparse.proofs.lexer.next_token.Given as goal

abbrev pub invariant-pieces : goal.invariant-pieces
invariant-pieces l = IsSoFar (place l.fn.bytes l.fn.line) (place l.rest l.here)

abbrev pub decreases-pieces : goal.decreases-pieces
decreases-pieces l = length l.rest
