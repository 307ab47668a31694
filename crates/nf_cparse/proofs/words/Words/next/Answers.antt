use Rattle.std.proofs.Common.{length, ap, ◌∙◌, sym, arith}
use Rattle.nf_cparse.specs.Lexing.{word_at}
use Rattle.nf_cparse.specs.inner.Tokens.{words_at}
use Rattle.nf_cparse.proofs.WordLemmas.{first_word, words_behind, no_fault, at_end}
use Rattle.nf_cparse.proofs.words.Words.next.Goals as goal

pub overflow_sub-self : goal.overflow_sub-self
overflow_sub-self c =
    let next = rw c.in-Ok-Some.field-0-is at c.in-Ok-Some.ensures.next in
    let first = first_word c.self.inside.left c.self.inside.lexer c.self.invariant _ c.next.new.self next in
    omega (arith, c.self.invariant.counted, ap length first)

pub invariant_of-self : goal.invariant_of-self
invariant_of-self c =
    let next = rw c.in-Ok-Some.field-0-is at c.in-Ok-Some.ensures.next in
    let first = first_word c.self.inside.left c.self.inside.lexer c.self.invariant _ c.next.new.self next in
    words_behind c.self.inside.left c.self.inside.lexer c.self.invariant _ c.next.new.self next _ (omega (arith, c.self.invariant.counted, ap length first))

pub unreachable-requires : goal.unreachable-requires
unreachable-requires c = no_fault c.self.inside.left c.self.inside.lexer c.self.invariant _ c.in-Err.ensures.fault

pub returns-in-Ok-Some-clause-next : goal.returns-in-Ok-Some-clause-next
returns-in-Ok-Some-clause-next c =
    let next = rw c.in-Ok-Some.field-0-is at c.in-Ok-Some.ensures.next in
    sym c.self.view_is ∙ first_word c.self.inside.left c.self.inside.lexer c.self.invariant (word_at c.in-Ok-Some.token.sym c.in-Ok-Some.token.text.now c.in-Ok-Some.token.line) c.next.new.self next

pub returns-in-Ok-None-clause-next : goal.returns-in-Ok-None-clause-next
returns-in-Ok-None-clause-next c =
    let end = rw c.in-Ok-None.field-0-is at c.in-Ok-None.ensures.next in
    let none = at_end c.self.inside.lexer end.ends in
    (sym c.self.view_is ∙ none, ap words_at end.stays ∙ none)
