use Rattle.std.proofs.Common.{subst, sym}
use Rattle.std.proofs.lemmas.Result.{err_from_is_err_and}
use Rattle.nf_cparse.specs.Lexing.{word_at}
use Rattle.nf_cparse.specs.inner.Tokens.{place}
use Rattle.nf_cparse.proofs.TokenLemmas.{IsReadSoFar, read_start, read_more, read_end, read_fault}
use Rattle.nf_cparse.proofs.lexing.count_tokens.Goals as goal

pub tokens-init : goal.tokens-init
tokens-init c = subst (λ now. IsReadSoFar (place c.args.bytes.now c.args.line) 0 now) (sym c.new-lexer.ensures) (read_start (place c.args.bytes.now c.args.line))

pub returns-in_err-_token-clause-fault : goal.returns-in_err-_token-clause-fault
returns-in_err-_token-clause-fault c =
    let p = err_from_is_err_and c.from_residual.result c.from_residual.ensures.1 in
    rw (p.1, p.2) (read_fault (place c.args.bytes.now c.args.line) c.tokens.count c.tokens.lexer _ c.tokens.invariant c.in_err-_token.ensures.fault)

pub tokens-preserved : goal.tokens-preserved
tokens-preserved c =
    let next = rw c.in-Some.is at c.in_ok-_token.ensures.next in
    read_more (place c.args.bytes.now c.args.line) c.tokens.lexer c.next.new.self c.tokens.count (word_at c.in-Some._token.sym c.in-Some._token.text.now c.in-Some._token.line) c.tokens.invariant next

pub returns-clause-tokens : goal.returns-clause-tokens
returns-clause-tokens c =
    let last = rw c.in_default.is at c.in_ok-_token.ensures.next in
    read_end (place c.args.bytes.now c.args.line) c.tokens.count c.tokens.lexer c.tokens.invariant last.ends
