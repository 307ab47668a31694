-- The parts of a grammar, each with its words and its fronts. A word of a part is a list of tokens that it gives whole; a front of it is a list of tokens with which one of its words may begin.
use Rattle.std.specs.Prelude.{◌≡◌, ◌⊎◌, ℕ, suc, List, [], ◌∷◌, Option, Some, None}
use Rattle.nf_grammar.specs.State.{State, state}

-- `word` holds between two states and a tree where the words from the first state up to the second are a word that gives this tree; `front` holds between two states where the words from the first up to the second are a front
pub record Part (W A : Type 0) : Type 1 where
  pub word : State W → A → State W → Type 0
  pub front : State W → State W → Type 0

-- one token, of which a table says what it gives
pub record IsToken {W A : Type 0} (table : W → Option A)
    (s : State W) (x : A) (t : State W) : Type 0 where
  pub token : W
  pub first : s.words ≡ token ∷ t.words
  pub gives : table token ≡ Some x
  pub room : t.room ≡ s.room

-- a single token has itself as a front, and the empty list is a front of everything
pub data IsTokenFront {W A : Type 0} (table : W → Option A) (s t : State W) : Type 0 where
  none : t ≡ s → IsTokenFront table s t
  whole : {x : A} → IsToken table s x t → IsTokenFront table s t

abbrev pub token : {W A : Type 0} → (W → Option A) → Part W A
token table = record { word = IsToken table; front = IsTokenFront table }

-- one token that is counted: one fewer may follow
pub record IsCounted {W A : Type 0} (table : W → Option A)
    (s : State W) (x : A) (t : State W) : Type 0 where
  pub token : W
  pub first : s.words ≡ token ∷ t.words
  pub gives : table token ≡ Some x
  pub room : s.room ≡ suc t.room

pub data IsCountedFront {W A : Type 0} (table : W → Option A) (s t : State W) : Type 0 where
  none : t ≡ s → IsCountedFront table s t
  whole : {x : A} → IsCounted table s x t → IsCountedFront table s t

abbrev pub counted : {W A : Type 0} → (W → Option A) → Part W A
counted table = record { word = IsCounted table; front = IsCountedFront table }

-- no token, which gives this; its one front is the empty list
pub record IsDone {W A : Type 0} (given : A) (s : State W) (x : A) (t : State W) : Type 0 where
  pub gives : x ≡ given
  pub stays : t ≡ s

abbrev pub done : {W A : Type 0} → A → Part W A
done given = record { word = IsDone given; front = λ s t. t ≡ s }

-- a part of which there is no word here, since a limit is reached; its one front is the empty list
abbrev pub nowhere : {W A : Type 0} → Part W A
nowhere = record { word = λ s x t. ⊥; front = λ s t. t ≡ s }

-- a part, and then another one, which may look at what the first part gave
pub record IsThen {W A B : Type 0} (p : Part W A) (k : A → Part W B)
    (s : State W) (y : B) (t : State W) : Type 0 where
  pub given : A
  pub middle : State W
  pub first : p.word s given middle
  pub rest : (k given).word middle y t

-- a front of a sequence is a front of its first part, or a word of its first part followed by a front of the rest
pub data IsThenFront {W A B : Type 0} (p : Part W A) (k : A → Part W B)
    (s t : State W) : Type 0 where
  first : p.front s t → IsThenFront p k s t
  rest : {x : A} {middle : State W} → p.word s x middle → (k x).front middle t → IsThenFront p k s t

abbrev pub and_then : {W A B : Type 0} → Part W A → (A → Part W B) → Part W B
and_then p k = record { word = IsThen p k; front = IsThenFront p k }

-- one part or another; a front of a choice is a front of one of its alternatives
abbrev pub either : {W A : Type 0} → Part W A → Part W A → Part W A
either p q = record {
  word = λ s x t. p.word s x t ⊎ q.word s x t;
  front = λ s t. p.front s t ⊎ q.front s t;
}

-- a number of words of a part, one after the other
pub data IsRepeated {W A : Type 0} (p : Part W A) : State W → List A → State W → Type 0 where
  none : {s : State W} → IsRepeated p s [] s
  more : {s t u : State W} {x : A} {xs : List A} → p.word s x t → IsRepeated p t xs u
      → IsRepeated p s (x ∷ xs) u

-- a front of a repetition is a number of words of its part, one after the other, followed by a front of the part
pub data IsRepeatedFront {W A : Type 0} (p : Part W A) : State W → State W → Type 0 where
  here : {s t : State W} → p.front s t → IsRepeatedFront p s t
  more : {s t u : State W} {x : A} → p.word s x t → IsRepeatedFront p t u → IsRepeatedFront p s u

abbrev pub repeated : {W A : Type 0} → Part W A → Part W (List A)
repeated p = record { word = IsRepeated p; front = IsRepeatedFront p }

-- a part by itself: how many counted tokens it has says nothing of what stands behind it
pub record IsAlone {W A : Type 0} (p : Part W A) (s : State W) (x : A) (t : State W) : Type 0 where
  pub left : ℕ
  pub word : p.word s x (state left t.words)
  pub room : t.room ≡ s.room

pub record IsAloneFront {W A : Type 0} (p : Part W A) (s t : State W) : Type 0 where
  pub left : ℕ
  pub front : p.front s (state left t.words)
  pub room : t.room ≡ s.room

abbrev pub alone : {W A : Type 0} → Part W A → Part W A
alone p = record { word = IsAlone p; front = IsAloneFront p }

-- a token and then a part
abbrev pub after : {W A B : Type 0} → (W → Option B) → Part W A → Part W A
after table p = and_then (token table) (λ x. p)

-- a part between two tokens
abbrev pub between : {W A B C : Type 0} → (W → Option B) → Part W A → (W → Option C) → Part W A
between opening p closing = after opening (and_then p (λ x. after closing (done x)))

-- [ part ]; a front of an optional part is a front of that part
abbrev pub optional : {W A : Type 0} → Part W A → Part W (Option A)
optional p = either (and_then p (λ x. done (Some x))) (done None)

-- part { separator part }
abbrev pub separated : {W A B : Type 0} → (W → Option B) → Part W A → Part W (List A)
separated separator p = and_then p (λ x.
    and_then (repeated (after separator p)) (λ xs. done (x ∷ xs)))
