-- Blocks, as the reader goes past them.
use Rattle.std.proofs.Common.{◌≡◌, ◌<◌, ◌-◌, ◌∙◌, ℕ, suc, Bool, true, false, cond, List, refl, subst, arith, length, Ok, Err}
use Rattle.nf_cast.specs.declared.placed.PlacedStmt.{PlacedStmt}
use Rattle.nf_grammar.specs.declared.fault.Fault.{Fault}
use Rattle.nf_grammar.specs.declared.fault.Fault.TheVariants as fault
use Rattle.nf_grammar.specs.inner.Parsers as parser
use Rattle.nf_grammar.specs.inner.Parsers.{refuse, too_deep}
use Rattle.nf_cparse.specs.declared.symbol.Sym.TheVariants as kind
use Rattle.nf_cparse.specs.Lexing.{Word}
use Rattle.nf_cparse.specs.Grammar.{Closed}
use Rattle.nf_cparse.specs.inner.Parsers.{State, Outcome, is_at, is_kind, token, fault_nowhere}
use Rattle.nf_cparse.specs.inner.StatementReading.{block, closed_block, statements_at}

module _ (depth : ℕ) where
  -- no more blocks may be open
  nowhere_is : (s : State) (o : Outcome Closed) → o ≡ parser.nowhere (is_kind kind.OpenBrace) s → o ≡ Err (fault_nowhere kind.OpenBrace s)
  unfolding parser.nowhere
  nowhere_is s o e = e ∙ go (is_at kind.OpenBrace s)
    where
      at : Bool → Fault
      at b = cond b (fault.TooDeep (length s.words)) (fault.Grammar (length s.words))

      go : (b : Bool) → ◌≡◌ {A = Outcome Closed} (cond b (too_deep s) (refuse s)) (Err (at b))
      go true = refl
      go false = refl

  pub block_zero : (blocks : ℕ) (s : State) → blocks ≡ 0 → block depth blocks s ≡ Err (fault_nowhere kind.OpenBrace s)
  unfolding block
  block_zero blocks s h = nowhere_is s (block depth blocks s) (rw h refl)

  one_less : (blocks : ℕ) → 0 < blocks → suc (blocks - 1) ≡ blocks
  one_less blocks h = omega arith

  block_suc : (blocks : ℕ) (s : State) → block depth (suc blocks) s ≡ closed_block depth (block depth blocks) s
  unfolding block
  block_suc blocks s = refl

  block_some : (blocks : ℕ) (s : State) → 0 < blocks → block depth blocks s ≡ closed_block depth (block depth (blocks - 1)) s
  block_some blocks s h = subst (λ n. block depth n s ≡ closed_block depth (block depth (blocks - 1)) s) (one_less blocks h) (block_suc (blocks - 1) s)

  module _ (blocks : ℕ) (s : State) (some : 0 < blocks) where
    pub brace_stops : (f : Fault) → token kind.OpenBrace s ≡ Err f → block depth blocks s ≡ Err f
    unfolding closed_block
    brace_stops f e = block_some blocks s some ∙ rw e refl

    module _ (word : Word) (m : State) (e : token kind.OpenBrace s ≡ Ok (word, m)) where
      pub stmts_stop : (f : Fault) → statements_at depth (blocks - 1) m ≡ Err f → block depth blocks s ≡ Err f
      unfolding closed_block
      stmts_stop f g = block_some blocks s some ∙ rw (e, g) refl

      module _ (stmts : List PlacedStmt) (u : State) (g : statements_at depth (blocks - 1) m ≡ Ok (stmts, u)) where
        pub end_stops : (f : Fault) → token kind.CloseBrace u ≡ Err f → block depth blocks s ≡ Err f
        unfolding closed_block
        end_stops f h = block_some blocks s some ∙ rw (e, g, h) refl

        pub block_read : (last : Word) (t : State) → token kind.CloseBrace u ≡ Ok (last, t)
            → block depth blocks s ≡ Ok ((record { stmts = stmts }, last.line), t)
        unfolding closed_block
        block_read last t h = block_some blocks s some ∙ rw (e, g, h) refl
