-- The readers within larger limits.
use Rattle.std.proofs.Common.{◌≡◌, ◌≤◌, ◌<◌, ◌+◌, ℕ, zero, suc, Bool, true, false, cond, List, [], ◌∷◌, ◌⊎◌, length, refl, arith, Option, Some, None}
use Rattle.nf_core.specs.declared.trees.Expr.{Expr}
use Rattle.nf_grammar.specs.State.{state}
use Rattle.nf_grammar.specs.inner.Parsers as parser
use Rattle.nf_grammar.specs.inner.Parsers.{Outcome, place, refuse, too_deep}
use Rattle.nf_grammar.proofs.Public.LimitLemmas.{IsLarger, IsLater, done_larger, token_larger, counted_larger, then_larger, choose_larger, repeated_larger, alone_larger}
use Rattle.nf_grammar.proofs.Public.ReaderLemmas.{always, forward, then_reader, done_reader}
use Rattle.nf_grammar.proofs.Public.PlaceLemmas.{AreReaders}
use Rattle.nf_parse.specs.Grammar as grammar
use Rattle.nf_parse.proofs.ExpressionReaderLemmas.{IsKind, after_reader, ends_at, close_is_none, expression_reader, paren_reader}
use Rattle.nf_parse.proofs.RuleReaderLemmas.{limited, file_reader, file_to_end}
use Rattle.std.specs.Prelude.{is_some}
use denote.Enum.Bare.{sameb}
use Rattle.nf_parse.specs.contracts.symbol.Sym.{the_type}
use Rattle.nf_parse.specs.declared.symbol.Sym.{Sym}
use Rattle.nf_parse.specs.declared.symbol.Sym.TheVariants as sym
use Rattle.nf_parse.specs.declared.level.Level.{Level}
use Rattle.nf_parse.specs.declared.level.Level.TheVariants as level
use Rattle.nf_parse.specs.State.{Word, State, of_kind}
use Rattle.nf_parse.specs.inner.Parsers.{Parser, is_kind}
use Rattle.nf_parse.specs.inner.Parsers as named
use Rattle.nf_parse.specs.inner.Reading as expressions
use Rattle.nf_parse.specs.inner.Reading.{is_operator, sign_of_word, is_sign}
use Rattle.nf_parse.specs.inner.RuleReading as reading
use Rattle.nf_parse.specs.inner.RuleReading.{op_of_word, xop_of_word, is_op, is_ident, ends_body}

word_larger : (k : Sym) → IsLarger (named.token k) (named.token k)
word_larger k = token_larger (of_kind k)

module _ {A : Type 0} {p q : Parser A} (larger : IsLarger p q) where
  after_larger : (k : Sym) → IsLarger (named.after k p) (named.after k q)
  after_larger k = then_larger (word_larger k) (λ bytes. larger)

  enclosed_larger : (opening closing : Sym)
      → IsLarger (named.enclosed opening p closing) (named.enclosed opening q closing)
  enclosed_larger opening closing = then_larger (word_larger opening) (λ bytes. then_larger larger (λ x. then_larger (word_larger closing) (λ bytes. done_larger x)))

  optional_larger : (test : Option Word → Bool)
      → IsLarger (named.optional test p) (named.optional test q)
  optional_larger test = choose_larger test (then_larger larger (λ x. done_larger (Some x))) (done_larger None)

  separated_larger : (k : Sym) → IsLarger (named.separated k p) (named.separated k q)
  separated_larger k = then_larger larger (λ x. then_larger (repeated_larger (is_kind k) (then_larger (word_larger k) (λ bytes. larger))) (λ xs. done_larger _))

module _ {p q : Parser Expr} (larger : IsLarger p q) where
  with_operand_larger : (l : Level)
      → IsLarger (expressions.with_operand l p) (expressions.with_operand l q)
  unfolding expressions.with_operand
  with_operand_larger l = then_larger (counted_larger (expressions.op_of_word l)) (λ o. then_larger larger (λ right. done_larger (o, right)))

  chain_larger : (l : Level) → IsLarger (expressions.chain l p) (expressions.chain l q)
  unfolding expressions.chain
  chain_larger l = then_larger larger (λ left. then_larger (repeated_larger (is_operator l) (with_operand_larger l)) (λ rest. done_larger _))

  single_larger : (l : Level) → IsLarger (expressions.single l p) (expressions.single l q)
  unfolding expressions.single
  single_larger l = then_larger larger (λ left. then_larger (optional_larger (with_operand_larger l) (is_operator l)) (λ rest. done_larger _))

  unary_larger : IsLarger (expressions.unary p) (expressions.unary q)
  unfolding expressions.unary
  unary_larger = then_larger (repeated_larger is_sign (counted_larger sign_of_word)) (λ signs. then_larger larger (λ x. done_larger _))

member_larger : (label : List ℕ) → IsLarger (expressions.member label) (expressions.member label)
unfolding expressions.member
member_larger label = choose_larger (is_kind sym.Ident) (then_larger (word_larger sym.Ident) (λ key. done_larger _))
    (choose_larger (is_kind sym.Begin) (after_larger (done_larger _) sym.Begin) (after_larger (done_larger _) sym.End))

read_larger : IsLarger expressions.read expressions.read
unfolding expressions.read
read_larger = then_larger (word_larger sym.Ident) (λ label. after_larger (member_larger label) sym.Dot)

module _ {p q : Parser Expr} (larger : IsLarger p q) where
  primary_larger : IsLarger (expressions.primary p) (expressions.primary q)
  unfolding expressions.primary
  primary_larger = choose_larger (is_kind sym.Number) (then_larger (word_larger sym.Number) (λ bytes. done_larger _))
      (choose_larger (is_kind sym.Text) (then_larger (word_larger sym.Text) (λ bytes. done_larger _))
      (choose_larger (is_kind sym.True) (after_larger (done_larger _) sym.True) (choose_larger (is_kind sym.False) (after_larger (done_larger _) sym.False)
      (choose_larger (is_kind sym.Ident) read_larger larger))))

  product_larger : IsLarger (expressions.product p) (expressions.product q)
  product_larger = chain_larger (unary_larger primary_larger) level.Product

  pub expression_larger : IsLarger (expressions.expression p) (expressions.expression q)
  expression_larger = chain_larger (chain_larger (single_larger (chain_larger product_larger level.Sum) level.Compare) level.And) level.Or

-- where no more parentheses may be open, a reader that may open more goes further
module _ (d : ℕ) where
  behind_open : (s : State)
      → place (parser.and_then (expressions.expression (expressions.paren d)) (λ x. named.after sym.Close (parser.done x)) s) ≤ length s.words
  behind_open s = forward (then_reader (expression_reader (paren_reader d)) (λ x. after_reader sym.Close (done_reader x always)) (ends_at sym.Close close_is_none)) s

  zero_larger : IsLarger (expressions.paren zero) (expressions.paren (suc d))
  unfolding expressions.paren parser.nowhere parser.token IsLater
  zero_larger = record { later = λ m s h. later m s.room s.words; forward = λ s. forward (paren_reader (suc d)) s }
    where
      opened : (m n : ℕ) (w : Word) (ws : List Word) (b : Bool) → sameb the_type w.0 sym.Open ≡ b
          → IsLater m (cond {A = Outcome Word Expr} b (too_deep (state n (w ∷ ws))) (refuse (state n (w ∷ ws)))) (expressions.paren (suc d) (state (n + m) (w ∷ ws)))
      opened m n w ws true e = rw e (omega (arith, behind_open (state (n + m) ws)))
      opened m n w ws false e = rw e refl

      later : (m n : ℕ) (words : List Word)
          → IsLater m (expressions.paren zero (state n words)) (expressions.paren (suc d) (state (n + m) words))
      later m n [] = refl
      later m n (w ∷ ws) = opened m n w ws (sameb the_type w.0 sym.Open) refl

-- parentheses, of which more may be open
deeper : (d e : ℕ) → d < e → IsLarger (expressions.paren d) (expressions.paren e)
unfolding expressions.paren
deeper d zero h = absurd (omega (arith, h))
deeper zero (suc e) h = zero_larger e
deeper (suc d) (suc e) h = enclosed_larger (expression_larger (deeper d e (omega (arith, h)))) sym.Open sym.Close

atom_larger : IsLarger reading.atom reading.atom
unfolding reading.atom
atom_larger = then_larger (word_larger sym.Ident) (λ label. then_larger (optional_larger (after_larger (word_larger sym.Ident) sym.Colon) (is_kind sym.Colon)) (λ name. done_larger _))

body_larger : IsLarger reading.rule_body reading.rule_body
unfolding reading.rule_body reading.pair reading.exclusive
body_larger = then_larger atom_larger (λ first. choose_larger ends_body (done_larger _) (choose_larger is_op
    (then_larger (token_larger op_of_word) (λ o. then_larger atom_larger (λ second. done_larger _)))
    (after_larger (then_larger (token_larger xop_of_word) (λ x. then_larger atom_larger (λ second. done_larger _))) sym.Unless)))

imports_larger : IsLarger reading.imports reading.imports
unfolding reading.imports
imports_larger = after_larger (then_larger (separated_larger (word_larger sym.Ident) sym.Comma) (λ names. after_larger (done_larger names) sym.Semicolon)) sym.Import

module _ {p q : Parser Expr} (larger : IsLarger p q) where
  clause_larger : (k : Sym) → IsLarger (reading.clause p k) (reading.clause q k)
  unfolding reading.clause
  clause_larger k = after_larger (alone_larger larger) k

  entry_larger : IsLarger (reading.entry p) (reading.entry q)
  unfolding reading.entry
  entry_larger = then_larger (word_larger sym.Ident) (λ key. then_larger (clause_larger sym.Arrow) (λ value. done_larger _))

  entries_larger : IsLarger (reading.entries p) (reading.entries q)
  unfolding reading.entries
  entries_larger = after_larger (then_larger (enclosed_larger (optional_larger (separated_larger entry_larger sym.Comma) is_ident) sym.OpenBrace sym.CloseBrace) (λ found. done_larger _)) sym.Map

  optional_clause_larger : (k : Sym)
      → IsLarger (named.optional (is_kind k) (reading.clause p k)) (named.optional (is_kind k) (reading.clause q k))
  optional_clause_larger k = optional_larger (clause_larger k) (is_kind k)

  rule_larger : IsLarger (reading.rule p) (reading.rule q)
  unfolding reading.rule
  rule_larger = then_larger (word_larger sym.Ident) (λ head. after_larger (then_larger body_larger (λ b. then_larger (optional_clause_larger sym.Where) (λ filter.
      then_larger (optional_larger entries_larger (is_kind sym.Map)) (λ found. then_larger (optional_clause_larger sym.Begin) (λ start. then_larger (optional_clause_larger sym.End) (λ stop. done_larger _)))))) sym.Defines)

  module_larger : IsLarger (reading.module_word p) (reading.module_word q)
  unfolding reading.module_word reading.rules
  module_larger = after_larger (then_larger (word_larger sym.Ident) (λ name. enclosed_larger (then_larger (optional_larger imports_larger (is_kind sym.Import)) (λ names. then_larger (repeated_larger is_ident rule_larger) (λ rules. done_larger _))) sym.OpenBrace sym.CloseBrace)) sym.Module

  file_larger : IsLarger (reading.file p) (reading.file q)
  unfolding reading.file reading.item
  file_larger = then_larger (repeated_larger is_some (choose_larger is_ident (then_larger rule_larger (λ r. done_larger _)) (then_larger module_larger (λ m. done_larger _)))) (λ items. done_larger _)

-- whole files are read within all limits
pub file_readers : AreReaders (λ d. reading.file (limited d)) grammar.file
file_readers = record {
  begin = λ d n. (IsKind sym.Ident n ⊎ IsKind sym.Module n) ⊎ (n ≡ None);
  stop = λ d n. n ≡ None;
  reads = file_reader;
  at_end = λ d. refl;
  to_end = file_to_end;
  larger = λ d m h. file_larger (expression_larger (deeper d (d + m) (omega (arith, h))));
}
