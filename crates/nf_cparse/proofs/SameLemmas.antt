-- Parts in another order, with the same words and the same fronts.
use Rattle.std.proofs.Common.{◌⊎◌, inl, inr, refl, sym, subst}
use Rattle.nf_grammar.specs.State.{State}
use Rattle.nf_grammar.specs.Parts.{Part, IsThen, IsThenFront, and_then, either, done, first, rest}
use Rattle.nf_cparse.proofs.FactorLemmas.{IsSame}

pub same_as : {W A : Type 0} (P : Part W A) → IsSame P P
same_as P = record { word = λ s t x w. w; word_back = λ s t x w. w; front = λ s t f. f; front_back = λ s t f. f }

pub same_back : {W A : Type 0} {P Q : Part W A} → IsSame P Q → IsSame Q P
same_back a = record { word = a.word_back; word_back = a.word; front = a.front_back; front_back = a.front }

pub same_then_same : {W A : Type 0} {P Q R : Part W A} → IsSame P Q → IsSame Q R → IsSame P R
same_then_same a b = record {
  word = λ s t x w. b.word s t x (a.word s t x w);
  word_back = λ s t x w. a.word_back s t x (b.word_back s t x w);
  front = λ s t f. b.front s t (a.front s t f);
  front_back = λ s t f. a.front_back s t (b.front_back s t f);
}

-- what follows a part
module _ {W A B : Type 0} (P : Part W A) {K L : A → Part W B} where
  then_word : ((x : A) → IsSame (K x) (L x)) → (s t : State W) (y : B) → IsThen P K s y t → IsThen P L s y t
  then_word h s t y w = record { given = w.given; middle = w.middle; first = w.first; rest = (h w.given).word w.middle t y w.rest }

  then_front : ((x : A) → IsSame (K x) (L x)) → (s t : State W) → IsThenFront P K s t → IsThenFront P L s t
  then_front h s t (first f) = first f
  then_front h s t (rest {x} {middle} w f) = rest w ((h x).front middle t f)

pub same_rest : {W A B : Type 0} (P : Part W A) {K L : A → Part W B} → ((x : A) → IsSame (K x) (L x)) → IsSame (and_then P K) (and_then P L)
same_rest P {K} {L} h = record {
  word = then_word P h;
  word_back = then_word P (λ x. same_back (h x));
  front = then_front P h;
  front_back = then_front P (λ x. same_back (h x));
}

-- one of two parts
either_map : {A B C D : Type 0} → (A → C) → (B → D) → A ⊎ B → C ⊎ D
either_map f g (inl a) = inl (f a)
either_map f g (inr b) = inr (g b)

pub same_either : {W A : Type 0} {P Q R S : Part W A} → IsSame P R → IsSame Q S → IsSame (either P Q) (either R S)
same_either a b = record {
  word = λ s t x. either_map (a.word s t x) (b.word s t x);
  word_back = λ s t x. either_map (a.word_back s t x) (b.word_back s t x);
  front = λ s t. either_map (a.front s t) (b.front s t);
  front_back = λ s t. either_map (a.front_back s t) (b.front_back s t);
}

-- the first of three parts as the second one
last_first : {A B C D : Type 0} → A ⊎ (B ⊎ (C ⊎ D)) → (B ⊎ (C ⊎ A)) ⊎ D
last_first (inl a) = inl (inr (inr a))
last_first (inr (inl b)) = inl (inl b)
last_first (inr (inr (inl c))) = inl (inr (inl c))
last_first (inr (inr (inr d))) = inr d

first_last : {A B C D : Type 0} → (B ⊎ (C ⊎ A)) ⊎ D → A ⊎ (B ⊎ (C ⊎ D))
first_last (inl (inl b)) = inr (inl b)
first_last (inl (inr (inl c))) = inr (inr (inl c))
first_last (inl (inr (inr a))) = inl a
first_last (inr d) = inr (inr (inr d))

pub same_turned : {W A : Type 0} (P Q R S : Part W A) → IsSame (either P (either Q (either R S))) (either (either Q (either R P)) S)
same_turned P Q R S = record {
  word = λ s t x. last_first;
  word_back = λ s t x. first_last;
  front = λ s t. last_first;
  front_back = λ s t. first_last;
}

-- one of two parts, and then another one
module _ {W A B : Type 0} (P Q : Part W A) (K : A → Part W B) where
  split_word : (s t : State W) (y : B) → (and_then (either P Q) K).word s y t → (either (and_then P K) (and_then Q K)).word s y t
  split_word s t y w = elim w.first [
    | inl p ↦ inl (record { given = w.given; middle = w.middle; first = p; rest = w.rest })
    | inr q ↦ inr (record { given = w.given; middle = w.middle; first = q; rest = w.rest })
  ]

  join_word : (s t : State W) (y : B) → (either (and_then P K) (and_then Q K)).word s y t → (and_then (either P Q) K).word s y t
  join_word s t y (inl w) = record { given = w.given; middle = w.middle; first = inl w.first; rest = w.rest }
  join_word s t y (inr w) = record { given = w.given; middle = w.middle; first = inr w.first; rest = w.rest }

  split_front : (s t : State W) → (and_then (either P Q) K).front s t → (either (and_then P K) (and_then Q K)).front s t
  split_front s t (first (inl f)) = inl (first f)
  split_front s t (first (inr f)) = inr (first f)
  split_front s t (rest (inl w) f) = inl (rest w f)
  split_front s t (rest (inr w) f) = inr (rest w f)

  join_front : (s t : State W) → (either (and_then P K) (and_then Q K)).front s t → (and_then (either P Q) K).front s t
  join_front s t (inl (first f)) = first (inl f)
  join_front s t (inl (rest w f)) = rest (inl w) f
  join_front s t (inr (first f)) = first (inr f)
  join_front s t (inr (rest w f)) = rest (inr w) f

  pub either_then : IsSame (and_then (either P Q) K) (either (and_then P K) (and_then Q K))
  either_then = record { word = split_word; word_back = join_word; front = split_front; front_back = join_front }

-- a part, and then one of two
module _ {W A B : Type 0} (P : Part W A) (K L : A → Part W B) where
  apart_word : (s t : State W) (y : B) → (and_then P (λ x. either (K x) (L x))).word s y t → (either (and_then P K) (and_then P L)).word s y t
  apart_word s t y w = elim w.rest [
    | inl k ↦ inl (record { given = w.given; middle = w.middle; first = w.first; rest = k })
    | inr l ↦ inr (record { given = w.given; middle = w.middle; first = w.first; rest = l })
  ]

  together_word : (s t : State W) (y : B) → (either (and_then P K) (and_then P L)).word s y t → (and_then P (λ x. either (K x) (L x))).word s y t
  together_word s t y (inl w) = record { given = w.given; middle = w.middle; first = w.first; rest = inl w.rest }
  together_word s t y (inr w) = record { given = w.given; middle = w.middle; first = w.first; rest = inr w.rest }

  apart_front : (s t : State W) → (and_then P (λ x. either (K x) (L x))).front s t → (either (and_then P K) (and_then P L)).front s t
  apart_front s t (first f) = inl (first f)
  apart_front s t (rest w (inl f)) = inl (rest w f)
  apart_front s t (rest w (inr f)) = inr (rest w f)

  together_front : (s t : State W) → (either (and_then P K) (and_then P L)).front s t → (and_then P (λ x. either (K x) (L x))).front s t
  together_front s t (inl (first f)) = first f
  together_front s t (inl (rest w f)) = rest w (inl f)
  together_front s t (inr (first f)) = first f
  together_front s t (inr (rest w f)) = rest w (inr f)

  pub then_either : IsSame (and_then P (λ x. either (K x) (L x))) (either (and_then P K) (and_then P L))
  then_either = record { word = apart_word; word_back = together_word; front = apart_front; front_back = together_front }

-- three parts one after the other
module _ {W A B C : Type 0} (P : Part W A) (K : A → Part W B) (L : B → Part W C) where
  pub then_then : IsSame (and_then (and_then P K) L) (and_then P (λ x. and_then (K x) L))
  then_then = record {
    word = λ s t y w. record { given = w.first.given; middle = w.first.middle; first = w.first.first; rest = record { given = w.given; middle = w.middle; first = w.first.rest; rest = w.rest } };
    word_back = λ s t y w. record { given = w.rest.given; middle = w.rest.middle; first = record { given = w.given; middle = w.middle; first = w.first; rest = w.rest.first }; rest = w.rest.rest };
    front = to;
    front_back = from;
  }
    where
      to : (s t : State W) → (and_then (and_then P K) L).front s t → (and_then P (λ x. and_then (K x) L)).front s t
      to s t (first (first f)) = first f
      to s t (first (rest w f)) = rest w (first f)
      to s t (rest w f) = rest w.first (rest w.rest f)

      from : (s t : State W) → (and_then P (λ x. and_then (K x) L)).front s t → (and_then (and_then P K) L).front s t
      from s t (first f) = first (first f)
      from s t (rest w (first f)) = first (rest w f)
      from s t (rest {x} {middle} w (rest {x = y} {middle = m} v f)) = rest (record { given = x; middle = middle; first = w; rest = v }) f

-- nothing, and then a part that may be empty up to here
module _ {W A B : Type 0} (x : A) (K : A → Part W B) (empty : (s : State W) → (K x).front s s) where
  pub done_then : IsSame (and_then (done x) K) (K x)
  done_then = record {
    word = λ s t y w. subst (λ m. (K x).word m y t) w.first.stays (subst (λ z. (K z).word w.middle y t) w.first.gives w.rest);
    word_back = λ s t y w. record { given = x; middle = s; first = record { gives = refl; stays = refl }; rest = w };
    front = to;
    front_back = λ s t f. rest (record { gives = refl; stays = refl }) f;
  }
    where
      to : (s t : State W) → (and_then (done x) K).front s t → (K x).front s t
      to s t (first e) = subst (λ u. (K x).front s u) (sym e) (empty s)
      to s t (rest {x = z} {middle} w f) = subst (λ m. (K x).front m t) w.stays (subst (λ y. (K y).front middle t) w.gives f)
