-- The readers of expressions within larger limits.
use Rattle.std.proofs.Common.{◌≡◌, ◌≤◌, ◌<◌, ◌+◌, ◌-◌, ℕ, zero, suc, Bool, true, false, cond, List, [], ◌∷◌, length, refl, arith}
use denote.Enum.Bare.{sameb}
use Rattle.nf_cast.specs.declared.placed.PlacedExpr.{PlacedExpr}
use Rattle.nf_cast.specs.declared.placed.PlacedExpr.TheVariants as node
use Rattle.nf_grammar.specs.State.{state}
use Rattle.nf_grammar.specs.inner.Parsers as parser
use Rattle.nf_grammar.specs.inner.Parsers.{place, refuse, too_deep, counting}
use Rattle.nf_grammar.proofs.Public.LimitLemmas.{IsLarger, IsLater, done_larger, token_larger, counted_larger, then_larger, choose_larger, repeated_larger}
use Rattle.nf_grammar.proofs.Public.ReaderLemmas.{always, forward, then_reader, done_reader}
use Rattle.nf_cparse.specs.contracts.symbol.Sym.{the_type}
use Rattle.nf_cparse.specs.declared.symbol.Sym.{Sym}
use Rattle.nf_cparse.specs.declared.symbol.Sym.TheVariants as sym
use Rattle.nf_cparse.specs.declared.level.Level.{Level}
use Rattle.nf_cparse.specs.declared.level.Level.TheVariants as level
use Rattle.nf_cparse.specs.Lexing.{Word}
use Rattle.nf_cparse.specs.Grammar.{of_kind, sign_of}
use Rattle.nf_cparse.specs.inner.Parsers.{State, Outcome, Parser, is_kind}
use Rattle.nf_cparse.specs.inner.Parsers as named
use Rattle.nf_cparse.specs.inner.ExpressionReading as reading
use Rattle.nf_cparse.specs.inner.ExpressionReading.{Nest, op_of_word, is_operator, is_sign}
use Rattle.nf_cparse.proofs.ExpressionReaderLemmas.{after_reader, expression_reader, nest_readers, ends_at, close_ends, bracket_ends}

pub word_larger : (k : Sym) → IsLarger (named.token k) (named.token k)
word_larger k = token_larger (of_kind k)

module _ {A : Type 0} {p q : Parser A} (larger : IsLarger p q) where
  pub after_larger : (k : Sym) → IsLarger (named.after k p) (named.after k q)
  after_larger k = then_larger (word_larger k) (λ word. larger)

module _ {p q : Parser PlacedExpr} (larger : IsLarger p q) where
  with_operand_larger : (l : Level) → IsLarger (reading.with_operand l p) (reading.with_operand l q)
  unfolding reading.with_operand
  with_operand_larger l = then_larger (counted_larger (op_of_word l)) (λ o. then_larger larger (λ right. done_larger (o, right)))

  chain_larger : (l : Level) → IsLarger (reading.chain l p) (reading.chain l q)
  unfolding reading.chain
  chain_larger l = then_larger larger (λ left. then_larger (repeated_larger (is_operator l) (with_operand_larger l)) (λ rest. done_larger _))

  unary_larger : IsLarger (reading.unary p) (reading.unary q)
  unfolding reading.unary
  unary_larger = then_larger (repeated_larger is_sign (counted_larger sign_of)) (λ signs. then_larger larger (λ x. done_larger _))

  name_or_cell_larger : IsLarger (reading.name_or_cell p) (reading.name_or_cell q)
  unfolding reading.name_or_cell reading.behind_name reading.named
  name_or_cell_larger = then_larger (then_larger (word_larger sym.Ident) (λ word. done_larger _))
      (λ name. choose_larger (is_kind sym.OpenBracket) (then_larger larger (λ i. done_larger _)) (done_larger _))

  closed_parens_larger : IsLarger (reading.closed_parens p) (reading.closed_parens q)
  unfolding reading.closed_parens
  closed_parens_larger = then_larger (word_larger sym.Open) (λ open'. then_larger larger (λ a. after_larger (done_larger _) sym.Close))

  closed_index_larger : IsLarger (reading.closed_index p) (reading.closed_index q)
  unfolding reading.closed_index
  closed_index_larger = then_larger (counted_larger (of_kind sym.OpenBracket)) (λ open'. then_larger larger (λ i. after_larger (done_larger i) sym.CloseBracket))

literal_larger : IsLarger reading.literal reading.literal
unfolding reading.literal
literal_larger = then_larger (word_larger sym.Lit) (λ word. done_larger _)

-- what opens one more parenthesis or bracket, within larger limits
pub record AreLarger (n m : Nest) : Type 0 where
  pub parens : IsLarger n.parens m.parens
  pub index : IsLarger n.index m.index

module _ {n m : Nest} (larger : AreLarger n m) where
  primary_larger : IsLarger (reading.primary n) (reading.primary m)
  unfolding reading.primary
  primary_larger = choose_larger (is_kind sym.Lit) literal_larger (choose_larger (is_kind sym.Ident) (name_or_cell_larger larger.index) larger.parens)

  pub expression_larger : IsLarger (reading.expression n) (reading.expression m)
  expression_larger =
      chain_larger (chain_larger (chain_larger (chain_larger (chain_larger (chain_larger (unary_larger primary_larger) level.Product) level.Sum) level.Relation) level.Equality) level.And) level.Or

-- where no more may be open, a reader that may open more goes further
module _ (d : ℕ) where
  abbrev inner : Parser PlacedExpr
  inner = reading.expression (reading.nest d)

  behind_open : (w : Word) (s : State)
      → place (parser.and_then inner (λ a. named.after sym.Close (parser.done (node.Parens w.line a))) s) ≤ length s.words
  behind_open w s = forward (then_reader (expression_reader (nest_readers d)) (λ a. after_reader sym.Close (done_reader (node.Parens w.line a) always)) (ends_at sym.Close close_ends)) s

  behind_bracket : (s : State)
      → place (parser.and_then inner (λ i. named.after sym.CloseBracket (parser.done i)) s) ≤ length s.words
  behind_bracket s = forward (then_reader (expression_reader (nest_readers d)) (λ i. after_reader sym.CloseBracket (done_reader i always)) (ends_at sym.CloseBracket bracket_ends)) s

  zero_parens : IsLarger (reading.parens_at zero) (reading.parens_at (suc d))
  unfolding reading.nest reading.closed_parens parser.nowhere parser.token IsLater
  zero_parens = record { later = λ m s h. later m s.room s.words; forward = λ s. forward (nest_readers (suc d)).parens s }
    where
      opened : (m n : ℕ) (w : Word) (ws : List Word) (b : Bool) → sameb the_type w.sym sym.Open ≡ b
          → IsLater m (cond {A = Outcome PlacedExpr} b (too_deep (state n (w ∷ ws))) (refuse (state n (w ∷ ws)))) (reading.parens_at (suc d) (state (n + m) (w ∷ ws)))
      opened m n w ws true e = rw e (omega (arith, behind_open w (state (n + m) ws)))
      opened m n w ws false e = rw e refl

      later : (m n : ℕ) (words : List Word)
          → IsLater m (reading.parens_at zero (state n words)) (reading.parens_at (suc d) (state (n + m) words))
      later m n [] = refl
      later m n (w ∷ ws) = opened m n w ws (sameb the_type w.sym sym.Open) refl

  zero_index : IsLarger (reading.index_at zero) (reading.index_at (suc d))
  unfolding reading.nest reading.closed_index parser.nowhere parser.counted IsLater
  zero_index = record { later = λ m s h. later m s.room s.words h; forward = λ s. forward (nest_readers (suc d)).index s }
    where
      opened : (m n : ℕ) (w : Word) (ws : List Word) (b : Bool) → 0 < m → sameb the_type w.sym sym.OpenBracket ≡ b
          → IsLater m (cond {A = Outcome PlacedExpr} b (too_deep (state n (w ∷ ws))) (refuse (state n (w ∷ ws)))) (reading.index_at (suc d) (state (n + m) (w ∷ ws)))
      opened m n w ws true h e =
          let some : n + m ≡ suc (n + m - 1) = omega arith in
          rw (e, some) (omega (arith, behind_bracket (state (n + m - 1) ws)))
      opened m n w ws false h e = rw e refl

      later : (m n : ℕ) (words : List Word) → 0 < m
          → IsLater m (reading.index_at zero (state n words)) (reading.index_at (suc d) (state (n + m) words))
      later m n [] h = refl
      later m n (w ∷ ws) h = opened m n w ws (sameb the_type w.sym sym.OpenBracket) h refl

-- parentheses and brackets, of which more may be open
pub deeper : (d e : ℕ) → d < e → AreLarger (reading.nest d) (reading.nest e)
unfolding reading.nest
deeper d zero h = absurd (omega (arith, h))
deeper zero (suc e) h = record { parens = zero_parens e; index = zero_index e }
deeper (suc d) (suc e) h =
    let larger = expression_larger (deeper d e (omega (arith, h))) in
    record { parens = closed_parens_larger larger; index = closed_index_larger larger }
