use Rattle.std.proofs.Common.{length}
use Rattle.nf_cparse.specs.inner.Tokens.{place}
use Rattle.nf_cparse.proofs.TokenLemmas.{IsReadSoFar}
use Rattle.nf_cparse.proofs.lexing.count_tokens.Given as goal

abbrev pub invariant-tokens : goal.invariant-tokens
invariant-tokens l = IsReadSoFar (place l.fn.bytes l.fn.line) l.count l.lexer

abbrev pub decreases-tokens : goal.decreases-tokens
decreases-tokens l = length l.lexer.rest
