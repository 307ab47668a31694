-- What is read at a word of a kind.
use Rattle.std.proofs.Common.{◌≡◌, refl, Some}
use Rattle.nf_grammar.specs.State.{next}
use Rattle.nf_grammar.specs.inner.Parsers.{choose}
use Rattle.nf_cparse.specs.declared.symbol.Sym.TheVariants as kind
use Rattle.nf_cparse.specs.inner.Parsers.{State, kind_of_next}
use Rattle.nf_cparse.specs.inner.ExpressionReading.{Nest, literal, name_or_cell, primary}
use Rattle.nf_cparse.proofs.StepLemmas.{kind_is, kind_not}

module _ (n : Nest) (s : State) where
  pub literal_primary : kind_of_next (next s) ≡ Some kind.Lit → primary n s ≡ literal s
  unfolding primary choose
  literal_primary h = let a = kind_is (next s) kind.Lit h kind.Lit in rw a refl

  pub name_primary : kind_of_next (next s) ≡ Some kind.Ident → primary n s ≡ name_or_cell n.index s
  unfolding primary choose
  name_primary h = let a = kind_is (next s) kind.Ident h in let b = a kind.Lit in let c = a kind.Ident in rw (b, c) refl

  pub parens_primary : (kind_of_next (next s) ≡ Some kind.Lit → ⊥) → (kind_of_next (next s) ≡ Some kind.Ident → ⊥)
      → primary n s ≡ n.parens s
  unfolding primary choose
  parens_primary i j = let b = kind_not (next s) kind.Lit i in let c = kind_not (next s) kind.Ident j in rw (b, c) refl

-- what is read, by the next word
pub ruleset primary_words = (literal_primary, name_primary, parens_primary)
