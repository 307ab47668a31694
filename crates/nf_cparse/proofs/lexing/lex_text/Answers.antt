use Rattle.std.proofs.Common.{◌+◌, List, length, ◌∙◌, ap, Ok, subst, sym, arith, length-append}
use Rattle.std.proofs.lemmas.Result.{err_from_is_err_and}
use Rattle.nf_cast.specs.Text.{include_text}
use Rattle.nf_cparse.specs.Lexing.{Word, LexesText}
use Rattle.nf_cparse.specs.inner.Tokens.{place, IsBefore, words_at}
use Rattle.nf_cparse.proofs.TokenLemmas.{text_words, fault_behind, include_missing}
use Rattle.nf_cparse.proofs.WordLemmas.{tokens_before}
use Rattle.nf_cparse.proofs.lexing.lex_text.Goals as goal

pub returns-in_default-clause-fault : goal.returns-in_default-clause-fault
unfolding include_text
returns-in_default-clause-fault c = include_missing c.args.line c.args.bytes.now c.in_default.ensures

pub returns-in_err-count-clause-fault : goal.returns-in_err-count-clause-fault
unfolding include_text
returns-in_err-count-clause-fault c =
    let p = err_from_is_err_and c.from_residual.result c.from_residual.ensures.1 in
    rw (p.1, p.2) (fault_behind c.args.line _ c.args.bytes.now c.in-Some.rest.now c.in-Some.ensures c.in_err-count.ensures.fault)

pub new-requires-2 : goal.new-requires-2
unfolding include_text
new-requires-2 c =
    let len = ap length c.in-Some.ensures ∙ length-append include_text c.in-Some.rest.now in
    subst (λ at. IsBefore c.in_ok-count.count at) (sym c.new.ensures)
    (tokens_before (place c.in-Some.rest.now (c.args.line + 1)) c.in_ok-count.count c.in_ok-count.ensures.tokens (omega (arith, len, c.requires)) (omega arith))

pub returns-clause-tokens : goal.returns-clause-tokens
unfolding include_text
returns-clause-tokens c =
    let is = c.new-2.ensures ∙ ap words_at c.new.ensures in
    subst (λ (words : List Word). LexesText c.args.line c.args.bytes.now (Ok words)) (sym is) (text_words c.args.line c.in_ok-count.count c.args.bytes.now c.in-Some.rest.now c.in-Some.ensures c.in_ok-count.ensures.tokens)
