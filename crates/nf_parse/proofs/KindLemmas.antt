-- What is read at a word of a kind.
use Rattle.std.proofs.Common.{◌≡◌, ℕ, pos, Bool, true, false, List, refl, ap, Option, Some, None}
use Rattle.std.specs.Str.Parse.{digits_value}
use denote.Enum.Bare.{sameb}
use Rattle.nf_core.specs.declared.trees.Expr.{Expr}
use Rattle.nf_core.specs.declared.trees.Expr.TheVariants as node
use Rattle.nf_lex.specs.Faults.{body_of}
use Rattle.nf_grammar.specs.State.{next}
use Rattle.nf_grammar.specs.inner.Parsers.{and_then, done, choose}
use Rattle.nf_parse.specs.contracts.symbol.Sym.{the_type}
use Rattle.nf_parse.specs.declared.symbol.Sym.{Sym}
use Rattle.nf_parse.specs.declared.symbol.Sym.TheVariants as kind
use Rattle.nf_parse.specs.State.{Word, State, kind_of_next}
use Rattle.nf_parse.specs.inner.Parsers.{Parser, is_kind, token, after}
use Rattle.nf_parse.specs.inner.Reading.{member, read, primary}
use Rattle.nf_parse.proofs.ExpressionReaderLemmas.{same_is}
use Rattle.nf_parse.proofs.StepLemmas.{kind_is}

-- a next word that is of no such kind
kind_not : (n : Option Word) (k : Sym) → (kind_of_next n ≡ Some k → ⊥) → is_kind k n ≡ false
kind_not None k h = refl
kind_not (Some w) k h = go (sameb the_type w.0 k) refl
  where
    go : (b : Bool) → sameb the_type w.0 k ≡ b → b ≡ false
    go true e = absurd (h (ap Some (same_is w.0 k e)))
    go false e = refl

module _ (label : List ℕ) (s : State) where
  pub key_member : kind_of_next (next s) ≡ Some kind.Ident
      → member label s ≡ and_then (token kind.Ident) (λ key. done (node.Key label key)) s
  unfolding member choose
  key_member h = let a = kind_is (next s) kind.Ident h kind.Ident in rw a refl

  pub start_member : kind_of_next (next s) ≡ Some kind.Begin
      → member label s ≡ after kind.Begin (done (node.Start label)) s
  unfolding member choose
  start_member h = let a = kind_is (next s) kind.Begin h kind.Ident in let b = kind_is (next s) kind.Begin h kind.Begin in rw (a, b) refl

  pub stop_member : (kind_of_next (next s) ≡ Some kind.Ident → ⊥)
      → (kind_of_next (next s) ≡ Some kind.Begin → ⊥)
      → member label s ≡ after kind.End (done (node.Stop label)) s
  unfolding member choose
  stop_member i j = let a = kind_not (next s) kind.Ident i in let b = kind_not (next s) kind.Begin j in rw (a, b) refl

module _ (p : Parser Expr) (s : State) where
  pub number_primary : kind_of_next (next s) ≡ Some kind.Number
      → primary p s ≡ and_then (token kind.Number) (λ bytes. done (node.Int (pos (digits_value 10 bytes)))) s
  unfolding primary choose
  number_primary h = let a = kind_is (next s) kind.Number h kind.Number in rw a refl

  pub text_primary : kind_of_next (next s) ≡ Some kind.Text
      → primary p s ≡ and_then (token kind.Text) (λ bytes. done (node.Text (body_of bytes))) s
  unfolding primary choose
  text_primary h = let a = kind_is (next s) kind.Text h in let b = a kind.Number in let c = a kind.Text in rw (b, c) refl

  pub true_primary : kind_of_next (next s) ≡ Some kind.True
      → primary p s ≡ after kind.True (done (node.Bool true)) s
  unfolding primary choose
  true_primary h = let a = kind_is (next s) kind.True h in let b = a kind.Number in let c = a kind.Text in let d = a kind.True in rw (b, c, d) refl

  pub false_primary : kind_of_next (next s) ≡ Some kind.False
      → primary p s ≡ after kind.False (done (node.Bool false)) s
  unfolding primary choose
  false_primary h = let a = kind_is (next s) kind.False h in let b = a kind.Number in let c = a kind.Text in let d = a kind.True in let e = a kind.False in rw (b, c, d, e) refl

  pub read_primary : kind_of_next (next s) ≡ Some kind.Ident → primary p s ≡ read s
  unfolding primary choose
  read_primary h = let a = kind_is (next s) kind.Ident h in let b = a kind.Number in let c = a kind.Text in let d = a kind.True in let e = a kind.False in let f = a kind.Ident in rw (b, c, d, e, f) refl

  pub paren_primary : (kind_of_next (next s) ≡ Some kind.Number → ⊥)
      → (kind_of_next (next s) ≡ Some kind.Text → ⊥) → (kind_of_next (next s) ≡ Some kind.True → ⊥)
      → (kind_of_next (next s) ≡ Some kind.False → ⊥)
      → (kind_of_next (next s) ≡ Some kind.Ident → ⊥) → primary p s ≡ p s
  unfolding primary choose
  paren_primary i j k l m =
      let b = kind_not (next s) kind.Number i in let c = kind_not (next s) kind.Text j in let d = kind_not (next s) kind.True k in let e = kind_not (next s) kind.False l in let f = kind_not (next s) kind.Ident m in
      rw (b, c, d, e, f) refl

-- what is read, by the next word
pub ruleset member_words = (key_member, start_member, stop_member)

pub ruleset primary_words = (number_primary, text_primary, true_primary, false_primary, read_primary, paren_primary)
