-- The tokens that are left.
use Rattle.std.proofs.Common.{◌≡◌, ℕ, ◌+◌, ◌^◌, ◌<◌, List, [], ◌∷◌, length, refl, sym, ap, ◌∙◌, subst, arith, Ok, Err}
use Rattle.nf_cparse.specs.Lexing.{Word, Answer, in_front, Lexes}
use Rattle.nf_cparse.specs.inner.Tokens.{Place, IsNext, answer_at, words_in, words_at, IsBefore, AreTokens}
use Rattle.nf_cparse.proofs.LexingLemmas.{lexes_one, lexed_at}

abbrev ok : List Word → Answer
ok words = Ok words

-- an answer with tokens has those that are left
are_words : (at : Place) (words : List Word) → answer_at at ≡ ok words → answer_at at ≡ ok (words_at at)
unfolding words_at
are_words at words e = e ∙ ap (λ a. ok (words_in a)) (sym e)

pub are_tokens : (at : Place) (words : List Word) → Lexes at.line at.rest (Ok words) → answer_at at ≡ Ok (words_at at)
are_tokens at words l = are_words at words (lexes_one at.line at.rest (answer_at at) (Ok words) (lexed_at at) l)

-- and these are all of them
words_are : (at : Place) (words : List Word) → answer_at at ≡ ok words → words_at at ≡ words
unfolding words_at
words_are at words e = ap words_in e

pub tokens_are : (at : Place) (words : List Word) → Lexes at.line at.rest (Ok words) → words_at at ≡ words
tokens_are at words l = words_are at words (lexes_one at.line at.rest (answer_at at) (Ok words) (lexed_at at) l)

pub at_end : (at : Place) → Lexes at.line at.rest (Ok []) → words_at at ≡ []
at_end at l = tokens_are at [] l

pub tokens_before : (at : Place) (count : ℕ) → AreTokens at.line at.rest count → at.line + length at.rest < 2 ^ 64 → 0 < at.line → IsBefore count at
tokens_before at count t fits some = record {
  tokens = are_tokens at t.words t.tokens;
  counted = ap length (tokens_are at t.words t.tokens) ∙ t.counted;
  few = omega (arith, t.few, fits, some);
}

-- a token that is read is the first of them
in_front_is : (word : Word) (words : List Word) (answer : Answer) → in_front word answer ≡ ok words → (rest : List Word) × (answer ≡ ok rest) × (words ≡ word ∷ rest)
in_front_is word words (Ok rest) e = (rest, refl, cc)
in_front_is word words (Err line) e = absurd (cc)

module _ (count : ℕ) (old : Place) (before : IsBefore count old) where
  module _ (word : Word) (new : Place) (next : IsNext old word new) where
    front : (rest : List Word) × (answer_at new ≡ ok rest) × (words_at old ≡ word ∷ rest)
    front = in_front_is word (words_at old) (answer_at new) (lexes_one old.line old.rest (in_front word (answer_at new)) (Ok (words_at old))
        (next.goes_on (answer_at new) (lexed_at new)) (subst (Lexes old.line old.rest) before.tokens (lexed_at old)))

    pub first_word : words_at old ≡ word ∷ words_at new
    first_word = front.2 ∙ ap (λ ws. word ∷ ws) (sym (words_are new front.0 front.1))

    pub words_behind : (left : ℕ) → count ≡ left + 1 → IsBefore left new
    words_behind left e = record {
      tokens = are_words new front.0 front.1;
      counted = omega (arith, before.counted, ap length first_word, e);
      few = omega (arith, before.few, e);
    }

  pub no_fault : (line : ℕ) → Lexes old.line old.rest (Err line) → ⊥
  no_fault line l =
      let bad : ok (words_at old) ≡ Err line = lexes_one old.line old.rest (Ok (words_at old)) (Err line) (subst (Lexes old.line old.rest) before.tokens (lexed_at old)) l in
      absurd (cc)
