-- Readers of one word: of one that a table has, and of one that is counted as well.
use Rattle.std.proofs.Common.{◌≡◌, ◌≤◌, ◌⊎◌, inl, inr, ℕ, zero, suc, List, [], ◌∷◌, length, refl, sym, ap, ◌∙◌, subst, arith, Option, Some, None, Ok, Err}
use Rattle.nf_grammar.specs.State.{State, state, next, next_of}
use Rattle.nf_grammar.specs.Parts.{Part, IsToken, IsTokenFront, none, whole, IsCounted, IsCountedFront}
use Rattle.nf_grammar.specs.Parts as part
use Rattle.nf_grammar.specs.declared.fault.Fault.{Fault}
use Rattle.nf_grammar.specs.inner.Parsers.{Outcome, Parser, place_of, place, in_table, behind, given, use_up, counting}
use Rattle.nf_grammar.specs.inner.Parsers as parser
use Rattle.nf_grammar.proofs.Public.OutcomeLemmas.{ok_is, no_ok, no_err}
use Rattle.nf_grammar.proofs.Public.ReaderLemmas.{Next, always, IsBehind, IsReader, IsShorter, IsBehind-same, IsBehind-next, same_place}

-- a word that a table has
abbrev pub Has : {W A : Type 0} → (W → Option A) → Next W
Has {W} {A} table n = (x : A) × (in_table table n ≡ Some x)

-- a parser goes by a part whose words are one word each, which a table has. It takes such a word, and stops at every other one
record IsOneWord {W A : Type 0} (table : W → Option A) (p : Parser W A) (P : Part W A) : Type 0 where
  pub sound : (s t : State W) (x : A) → p s ≡ Ok (x, t) → P.word s x t
  pub complete : (s t : State W) (x : A) → P.word s x t → p s ≡ Ok (x, t)
  pub takes : (s t : State W) (x : A) → P.word s x t
      → (w : W) × (s.words ≡ w ∷ t.words) × (table w ≡ Some x)
  pub front : (s v : State W) → P.front s v → (v ≡ s) ⊎ ((x : A) × P.word s x v)
  pub empty : (s : State W) → P.front s s
  pub whole : (s t : State W) (x : A) → P.word s x t → P.front s t
  pub at : (s : State W) (f : Fault) → p s ≡ Err f → place_of f ≡ length s.words

module _ {W A : Type 0} {table : W → Option A} {p : Parser W A} {P : Part W A} (one : IsOneWord table p P) where
  one_word_has : (s t : State W) (x : A) → P.word s x t → Has table (next s)
  one_word_has s t x w = let h = one.takes s t x w in (x, ap (λ ws. in_table table (next_of ws)) h.1 ∙ h.2)

  one_word_behind : (s v : State W) → (v ≡ s) ⊎ ((x : A) × P.word s x v) → IsBehind s v
  one_word_behind s v (inl e) = subst (λ u. IsBehind s u) (sym e) (IsBehind-same s)
  one_word_behind s v (inr w) = let h = one.takes s v w.0 w.1 in IsBehind-next s v h.0 h.1

  one_word_shorter : IsShorter p
  one_word_shorter = record { fewer = λ s t x e. let h = one.takes s t x (one.sound s t x e) in let l = ap length h.1 in omega (arith, l) }

  one_word_forward : (s : State W) (o : Outcome W A) → p s ≡ o → place o ≤ length s.words
  one_word_forward s (Ok read) e = omega (arith, one_word_shorter.fewer s read.1 read.0 e)
  one_word_forward s (Err f) e = omega (arith, one.at s f e)

  one_word_reach : (s v : State W) → (v ≡ s) ⊎ ((x : A) × P.word s x v)
      → place (p s) ≤ length v.words
  one_word_reach s v (inl e) = omega (arith, one_word_forward s (p s) refl, same_place s v e)
  one_word_reach s v (inr w) = let h = ap place (one.complete s v w.0 w.1) in omega (arith, h)

  one_word_reader : IsReader p P (Has table) always
  one_word_reader = record {
    sound = one.sound;
    complete = λ s t x w h. one.complete s t x w;
    begins = λ s t x w h. one_word_has s t x w;
    empty = one.empty;
    whole = one.whole;
    starts = λ s v f. elim (one.front s v f) [ inl e ↦ inl e | inr w ↦ inr (one_word_has s v w.0 w.1) ];
    behind = λ s v f. one_word_behind s v (one.front s v f);
    reach = λ s v f. one_word_reach s v (one.front s v f);
    at = λ s f e. record { end = s; front = one.empty s; here = sym (one.at s f e) };
  }

-- a word
module _ {W A : Type 0} (table : W → Option A) where
  token_sound : (n : ℕ) (words : List W) (t : State W) (x : A)
      → given (in_table table (next_of words)) (state n words) ≡ Ok (x, t)
      → IsToken table (state n words) x t
  token_sound n [] t x e = absurd (no_ok _ (x, t) e)
  token_sound n (w ∷ ws) t x e = go (table w) refl e
    where
      go : (o : Option A) → table w ≡ o → given o (state n (w ∷ ws)) ≡ Ok (x, t)
          → IsToken table (state n (w ∷ ws)) x t
      go None h e = absurd (no_ok _ (x, t) e)
      go (Some y) h e =
          let r = ok_is (y, state n ws) (x, t) (Ok (y, state n ws)) refl e in
          record {
            token = w;
            first = ap (λ (r : A × State W). w ∷ r.1.words) r;
            gives = h ∙ ap (λ (r : A × State W). Some r.0) r;
            room = sym (ap (λ (r : A × State W). r.1.room) r);
          }

  token_complete : (s t : State W) (x : A) → IsToken table s x t → parser.token table s ≡ Ok (x, t)
  unfolding parser.token
  token_complete s t x w = rw (w.first, w.gives) (rw (← w.room) refl)

  token_front : (s v : State W) → IsTokenFront table s v → (v ≡ s) ⊎ ((x : A) × IsToken table s x v)
  token_front s v (none e) = inl e
  token_front s v (whole {x} w) = inr (x, w)

  token_at : (s : State W) (f : Fault) (o : Option A) → given o s ≡ Err f
      → place_of f ≡ length s.words
  token_at s f None e = sym (ap place e)
  token_at s f (Some x) e = absurd (no_err f _ e)

  token_word : IsOneWord table (parser.token table) (part.token table)
  unfolding parser.token
  token_word = record {
    sound = λ s t x e. token_sound s.room s.words t x e;
    complete = token_complete;
    takes = λ s t x w. (w.token, w.first, w.gives);
    front = token_front;
    empty = λ s. none refl;
    whole = λ s t x w. whole w;
    at = λ s f e. token_at s f (in_table table (next s)) e;
  }

  pub token_reader : IsReader (parser.token table) (part.token table) (Has table) always
  token_reader = one_word_reader token_word

  pub token_shorter : IsShorter (parser.token table)
  token_shorter = one_word_shorter token_word

-- a counted word
module _ {W A : Type 0} (table : W → Option A) where
  counted_sound : (n : ℕ) (words : List W) (t : State W) (x : A)
      → counting (in_table table (next_of words)) (state n words) ≡ Ok (x, t)
      → IsCounted table (state n words) x t
  counted_sound n [] t x e = absurd (no_ok _ (x, t) e)
  counted_sound n (w ∷ ws) t x e = go (table w) refl e
    where
      used : (m : ℕ) (y : A) → table w ≡ Some y → use_up y m (w ∷ ws) ≡ Ok (x, t)
          → IsCounted table (state m (w ∷ ws)) x t
      used zero y h e = absurd (no_ok _ (x, t) e)
      used (suc m) y h e =
          let r = ok_is (y, state m ws) (x, t) (Ok (y, state m ws)) refl e in
          record {
            token = w;
            first = ap (λ (r : A × State W). w ∷ r.1.words) r;
            gives = h ∙ ap (λ (r : A × State W). Some r.0) r;
            room = ap (λ (r : A × State W). suc r.1.room) r;
          }

      go : (o : Option A) → table w ≡ o → counting o (state n (w ∷ ws)) ≡ Ok (x, t)
          → IsCounted table (state n (w ∷ ws)) x t
      go None h e = absurd (no_ok _ (x, t) e)
      go (Some y) h e = used n y h e

  counted_complete : (s t : State W) (x : A) → IsCounted table s x t
      → parser.counted table s ≡ Ok (x, t)
  unfolding parser.counted
  counted_complete s t x w = rw (w.first, w.gives, w.room) refl

  counted_front : (s v : State W) → IsCountedFront table s v
      → (v ≡ s) ⊎ ((x : A) × IsCounted table s x v)
  counted_front s v (none e) = inl e
  counted_front s v (whole {x} w) = inr (x, w)

  counted_at : (n : ℕ) (words : List W) (f : Fault) (o : Option A)
      → in_table table (next_of words) ≡ o → counting o (state n words) ≡ Err f
      → place_of f ≡ length words
  counted_at n words f None h e = sym (ap place e)
  counted_at n words f (Some x) h e = used n e
    where
      used : (m : ℕ) → use_up x m words ≡ Err f → place_of f ≡ length words
      used zero e = sym (ap place e)
      used (suc m) e = absurd (no_err f _ e)

  counted_word : IsOneWord table (parser.counted table) (part.counted table)
  unfolding parser.counted
  counted_word = record {
    sound = λ s t x e. counted_sound s.room s.words t x e;
    complete = counted_complete;
    takes = λ s t x w. (w.token, w.first, w.gives);
    front = counted_front;
    empty = λ s. none refl;
    whole = λ s t x w. whole w;
    at = λ s f e. counted_at s.room s.words f (in_table table (next s)) refl e;
  }

  pub counted_reader : IsReader (parser.counted table) (part.counted table) (Has table) always
  counted_reader = one_word_reader counted_word

  pub counted_shorter : IsShorter (parser.counted table)
  counted_shorter = one_word_shorter counted_word
