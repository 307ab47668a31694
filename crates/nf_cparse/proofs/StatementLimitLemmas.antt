-- The readers of statements and blocks within larger limits.
use Rattle.std.proofs.Common.{◌≡◌, ◌<◌, ◌+◌, ℕ, zero, suc, Bool, true, false, cond, List, [], ◌∷◌, refl, arith}
use denote.Enum.Bare.{sameb}
use Rattle.nf_cast.specs.declared.placed.PlacedName.{PlacedName}
use Rattle.nf_grammar.specs.State.{state}
use Rattle.nf_grammar.specs.inner.Parsers as parser
use Rattle.nf_grammar.specs.inner.Parsers.{place, refuse, too_deep}
use Rattle.nf_grammar.proofs.Public.LimitLemmas.{IsLarger, IsLater, done_larger, token_larger, then_larger, choose_larger, repeated_larger}
use Rattle.nf_grammar.proofs.Public.ReaderLemmas.{forward}
use Rattle.nf_cparse.specs.contracts.symbol.Sym.{the_type}
use Rattle.nf_cparse.specs.declared.symbol.Sym.TheVariants as kind
use Rattle.nf_cparse.specs.Lexing.{Word}
use Rattle.nf_cparse.specs.Grammar.{Closed, of_value}
use Rattle.nf_cparse.specs.inner.Parsers.{Outcome, Parser, is_kind}
use Rattle.nf_cparse.specs.inner.ExpressionReading as expressions
use Rattle.nf_cparse.specs.inner.ExpressionReading.{nest}
use Rattle.nf_cparse.specs.inner.StatementReading as reading
use Rattle.nf_cparse.specs.inner.StatementReading.{begins_local, begins_statement, is_no}
use Rattle.nf_cparse.proofs.LimitReaderLemmas.{AreLarger, word_larger, after_larger}
use Rattle.nf_cparse.proofs.PartReaderLemmas.{enclosed_larger, optional_larger}
use Rattle.nf_cparse.proofs.RightReaderLemmas.{whole_larger, arguments_larger, right_larger}
use Rattle.nf_cparse.proofs.StatementReaderLemmas.{block_reader, behind_brace}

pub named_larger : IsLarger expressions.named expressions.named
unfolding expressions.named
named_larger = then_larger (word_larger kind.Ident) (λ word. done_larger _)

pub declared_larger : IsLarger reading.declared reading.declared
unfolding reading.declared
declared_larger = after_larger named_larger kind.Int64

constant_larger : IsLarger reading.constant reading.constant
unfolding reading.constant
constant_larger = choose_larger (is_kind kind.Const) (after_larger (done_larger true) kind.Const) (done_larger false)

bound_larger : IsLarger reading.bound_of reading.bound_of
unfolding reading.bound_of
bound_larger = choose_larger (is_kind kind.Lit) (then_larger (word_larger kind.Lit) (λ word. done_larger _)) (then_larger named_larger (λ at. done_larger _))

start_larger : IsLarger reading.header_start reading.header_start
unfolding reading.header_start
start_larger = then_larger declared_larger (λ at. after_larger (then_larger (token_larger (of_value 0)) (λ word. after_larger (done_larger at) kind.Semicolon)) kind.Equal)

test_larger : IsLarger reading.header_test reading.header_test
unfolding reading.header_test
test_larger = then_larger named_larger (λ tested. after_larger (then_larger bound_larger (λ b. after_larger (done_larger _) kind.Semicolon)) kind.Less)

step_larger : IsLarger reading.header_step reading.header_step
unfolding reading.header_step
step_larger = then_larger named_larger (λ set. after_larger (then_larger named_larger (λ counted. after_larger (then_larger (token_larger (of_value 1)) (λ word. done_larger _)) kind.Plus)) kind.Equal)

module _ (d e : ℕ) (larger : AreLarger (nest d) (nest e)) where
  set_larger : IsLarger (reading.set_to d) (reading.set_to e)
  unfolding reading.set_to
  set_larger = after_larger (then_larger (right_larger d e larger) (λ r. after_larger (done_larger r) kind.Semicolon)) kind.Equal

  local_larger : IsLarger (reading.local d) (reading.local e)
  unfolding reading.local
  local_larger = then_larger constant_larger (λ fixed. then_larger declared_larger (λ at. then_larger set_larger (λ r. done_larger _)))

  assign_larger : (at : PlacedName) → IsLarger (reading.assign_behind d at) (reading.assign_behind e at)
  unfolding reading.assign_behind
  assign_larger at = then_larger set_larger (λ r. done_larger _)

  store_larger : (at : PlacedName) → IsLarger (reading.store_behind d at) (reading.store_behind e at)
  unfolding reading.store_behind reading.place
  store_larger at = then_larger (enclosed_larger (whole_larger d e larger) kind.OpenBracket kind.CloseBracket)
      (λ i. after_larger (then_larger (whole_larger d e larger) (λ a. after_larger (done_larger _) kind.Semicolon)) kind.Equal)

  call_larger : (at : PlacedName) → IsLarger (reading.call_behind d at) (reading.call_behind e at)
  unfolding reading.call_behind
  call_larger at = then_larger (arguments_larger d e larger) (λ found. after_larger (done_larger _) kind.Semicolon)

  named_statement_larger : IsLarger (reading.named_statement d) (reading.named_statement e)
  unfolding reading.named_statement reading.behind_name
  named_statement_larger = then_larger named_larger (λ at. choose_larger (is_kind kind.Open) (call_larger at) (choose_larger (is_kind kind.OpenBracket) (store_larger at) (assign_larger at)))

  exit_larger : IsLarger (reading.exit d) (reading.exit e)
  unfolding reading.exit
  exit_larger = then_larger (word_larger kind.Return) (λ word. then_larger (optional_larger (whole_larger d e larger) (is_no kind.Semicolon)) (λ a. after_larger (done_larger _) kind.Semicolon))

  -- blocks are given
  module _ (b c : Parser Closed) (block : IsLarger b c) where
    conditional_larger : IsLarger (reading.conditional d b) (reading.conditional e c)
    unfolding reading.conditional reading.condition
    conditional_larger = after_larger (then_larger (enclosed_larger (whole_larger d e larger) kind.Open kind.Close) (λ x. then_larger block (λ a.
        then_larger (optional_larger (after_larger block kind.Else) (is_kind kind.Else)) (λ o. done_larger _)))) kind.If

    loop_larger : IsLarger (reading.counted_loop d b) (reading.counted_loop e c)
    unfolding reading.counted_loop
    loop_larger = after_larger (after_larger (then_larger start_larger (λ at. then_larger test_larger (λ test. then_larger step_larger (λ step.
        after_larger (then_larger block (λ body. done_larger _)) kind.Close)))) kind.Open) kind.For

    statement_larger : IsLarger (reading.statement d b) (reading.statement e c)
    unfolding reading.statement
    statement_larger = choose_larger begins_local local_larger (choose_larger (is_kind kind.Ident) named_statement_larger
        (choose_larger (is_kind kind.If) conditional_larger (choose_larger (is_kind kind.For) loop_larger exit_larger)))

    closed_larger : IsLarger (reading.closed_block d b) (reading.closed_block e c)
    unfolding reading.closed_block
    closed_larger = after_larger (then_larger (repeated_larger begins_statement statement_larger) (λ stmts. then_larger (word_larger kind.CloseBrace) (λ word. done_larger _))) kind.OpenBrace

-- where no more blocks may be open, a reader that may open more goes further
module _ (d e n : ℕ) where
  zero_block : IsLarger (reading.block d zero) (reading.block e (suc n))
  unfolding reading.block reading.closed_block parser.nowhere parser.token IsLater
  zero_block = record { later = λ m s h. later m s.room s.words; forward = λ s. forward (block_reader e (suc n)) s }
    where
      opened : (m k : ℕ) (w : Word) (ws : List Word) (b : Bool) → sameb the_type w.sym kind.OpenBrace ≡ b
          → IsLater m (cond {A = Outcome Closed} b (too_deep (state k (w ∷ ws))) (refuse (state k (w ∷ ws)))) (reading.block e (suc n) (state (k + m) (w ∷ ws)))
      opened m k w ws true e' = rw e' (omega (arith, behind_brace e n (state (k + m) ws)))
      opened m k w ws false e' = rw e' refl

      later : (m k : ℕ) (words : List Word)
          → IsLater m (reading.block d zero (state k words)) (reading.block e (suc n) (state (k + m) words))
      later m k [] = refl
      later m k (w ∷ ws) = opened m k w ws (sameb the_type w.sym kind.OpenBrace) refl

-- blocks, of which more may be open
pub block_larger : (d e : ℕ) → AreLarger (nest d) (nest e) → (b c : ℕ) → b < c → IsLarger (reading.block d b) (reading.block e c)
unfolding reading.block
block_larger d e larger b zero h = absurd (omega (arith, h))
block_larger d e larger zero (suc c) h = zero_block d e c
block_larger d e larger (suc b) (suc c) h = closed_larger d e larger (reading.block d b) (reading.block e c) (block_larger d e larger b c (omega (arith, h)))
