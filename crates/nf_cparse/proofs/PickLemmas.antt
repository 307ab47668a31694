-- Words that are told by their bytes, as the reader goes past them.
use Rattle.std.proofs.Common.{◌≡◌, ◌<◌, ℕ, Bool, true, false, ◌&&◌, eqb, cond, List, [], ◌∷◌, length, refl, subst, arith, Option, Some, None, Ok, bytes_eq}
use denote.Enum.Bare.{sameb}
use Rattle.nf_grammar.specs.State.{state, next, next_of}
use Rattle.nf_grammar.specs.inner.Parsers as parser
use Rattle.nf_grammar.specs.inner.Parsers.{refuse, in_table, given}
use Rattle.nf_cparse.specs.contracts.symbol.Sym.{the_type}
use Rattle.nf_cparse.specs.declared.symbol.Sym.TheVariants as kind
use Rattle.nf_cparse.specs.Lexing.{Word}
use Rattle.nf_cparse.specs.Grammar.{literal_value, of_value, is_written}
use Rattle.nf_cparse.specs.inner.Parsers.{State, GoesPast}
use Rattle.nf_cparse.specs.inner.Picking.{is_value, is_name}

-- a word that passes a test
module _ (test : Word → Bool) where
  abbrev picked : Word → Option Word
  picked word = cond (test word) (Some word) None

  abbrev passes : Option Word → Bool
  passes None = false
  passes (Some word) = test word

  picked_read : (word : Word) (s t : State) → GoesPast word s t → passes (next s) ≡ true → parser.token picked s ≡ Ok (word, t)
  unfolding parser.token
  picked_read word s t g h =
      let e : test word ≡ true = subst (λ ws. passes (next_of ws) ≡ true) g.first h in
      rw (g.first, e, ← g.room) refl

  picked_refused : (s : State) → passes (next s) ≡ false → parser.token picked s ≡ refuse s
  unfolding parser.token
  picked_refused s h = go s.room s.words h
    where
      go : (n : ℕ) (words : List Word) → passes (next_of words) ≡ false
          → given (in_table picked (next_of words)) (state n words) ≡ refuse (state n words)
      go n [] h = refl
      go n (w ∷ ws) h = rw h refl

  picked_some : (s : State) → passes (next s) ≡ true → 0 < length s.words
  picked_some s h = go s.words h
    where
      go : (ws : List Word) → passes (next_of ws) ≡ true → 0 < length ws
      go [] h = absurd (cc)
      go (w ∷ ws) h = omega arith

module _ (n : ℕ) where
  abbrev valued : Word → Bool
  valued word = sameb the_type word.sym kind.Lit && eqb (literal_value word.text) n

  value_test : (o : Option Word) → is_value n o ≡ passes valued o
  value_test None = refl
  value_test (Some w) = refl

  pub value_read : (word : Word) (s t : State) → GoesPast word s t → is_value n (next s) ≡ true → parser.token (of_value n) s ≡ Ok (word, t)
  value_read word s t g h = picked_read valued word s t g (rw (value_test (next s)) at h)

  pub value_refused : (s : State) → is_value n (next s) ≡ false → parser.token (of_value n) s ≡ refuse s
  value_refused s h = picked_refused valued s (rw (value_test (next s)) at h)

  pub value_some : (s : State) → is_value n (next s) ≡ true → 0 < length s.words
  value_some s h = picked_some valued s (rw (value_test (next s)) at h)

module _ (text : List ℕ) where
  abbrev written : Word → Bool
  written word = sameb the_type word.sym kind.Ident && bytes_eq word.text text

  name_test : (o : Option Word) → is_name text o ≡ passes written o
  name_test None = refl
  name_test (Some w) = refl

  pub name_read : (word : Word) (s t : State) → GoesPast word s t → is_name text (next s) ≡ true → parser.token (is_written text) s ≡ Ok (word, t)
  name_read word s t g h = picked_read written word s t g (rw (name_test (next s)) at h)

  pub name_refused : (s : State) → is_name text (next s) ≡ false → parser.token (is_written text) s ≡ refuse s
  name_refused s h = picked_refused written s (rw (name_test (next s)) at h)

  pub name_some : (s : State) → is_name text (next s) ≡ true → 0 < length s.words
  name_some s h = picked_some written s (rw (name_test (next s)) at h)

-- what a word of a value is, by the next word
pub ruleset value_steps = (value_read, value_refused, value_some)

pub ruleset name_steps = (name_read, name_refused, name_some)
