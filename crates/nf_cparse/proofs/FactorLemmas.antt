-- Parts that have the same words and the same fronts.
use Rattle.std.proofs.Common.{◌⊎◌, inl, inr}
use Rattle.nf_grammar.specs.State.{State}
use Rattle.nf_grammar.specs.Parts.{Part, and_then, either, first, rest}
use Rattle.nf_grammar.specs.inner.Parsers.{Parser}
use Rattle.nf_grammar.proofs.Public.ReaderLemmas.{Next, IsReader}

pub record IsSame {W A : Type 0} (P Q : Part W A) : Type 0 where
  pub word : (s t : State W) (x : A) → P.word s x t → Q.word s x t
  pub word_back : (s t : State W) (x : A) → Q.word s x t → P.word s x t
  pub front : (s t : State W) → P.front s t → Q.front s t
  pub front_back : (s t : State W) → Q.front s t → P.front s t

-- a reader that goes by the one goes by the other
pub same_reader : {W A : Type 0} {p : Parser W A} {P Q : Part W A} {begin stop : Next W} → IsSame P Q → IsReader p P begin stop → IsReader p Q begin stop
same_reader same r = record {
  sound = λ s t x e. same.word s t x (r.sound s t x e);
  complete = λ s t x w h. r.complete s t x (same.word_back s t x w) h;
  begins = λ s t x w h. r.begins s t x (same.word_back s t x w) h;
  empty = λ s. same.front s s (r.empty s);
  whole = λ s t x w. same.front s t (r.whole s t x (same.word_back s t x w));
  starts = λ s v f. r.starts s v (same.front_back s v f);
  behind = λ s v f. r.behind s v (same.front_back s v f);
  reach = λ s v f. r.reach s v (same.front_back s v f);
  at = λ s f e. let a = r.at s f e in record { end = a.end; front = same.front s a.end a.front; here = a.here };
}

-- two parts that begin alike, the second of which is looked for first
module _ {W A B : Type 0} (P : Part W A) (F G : A → Part W B) (Q : Part W B) where
  abbrev pub Factored : Part W B
  Factored = either (and_then P (λ x. either (G x) (F x))) Q

  abbrev pub Listed : Part W B
  Listed = either (and_then P F) (either (and_then P G) Q)

  apart : (s m t : State W) (x : A) (y : B) → P.word s x m → (G x).word m y t ⊎ (F x).word m y t → Listed.word s y t
  apart s m t x y w (inl g) = inr (inl (record { given = x; middle = m; first = w; rest = g }))
  apart s m t x y w (inr f) = inl (record { given = x; middle = m; first = w; rest = f })

  word_listed : (s t : State W) (y : B) → Factored.word s y t → Listed.word s y t
  word_listed s t y (inl w) = apart s w.middle t w.given y w.first w.rest
  word_listed s t y (inr w) = inr (inr w)

  word_factored : (s t : State W) (y : B) → Listed.word s y t → Factored.word s y t
  word_factored s t y (inl w) = inl (record { given = w.given; middle = w.middle; first = w.first; rest = inr w.rest })
  word_factored s t y (inr (inl w)) = inl (record { given = w.given; middle = w.middle; first = w.first; rest = inl w.rest })
  word_factored s t y (inr (inr w)) = inr w

  front_listed : (s t : State W) → Factored.front s t → Listed.front s t
  front_listed s t (inl (first f)) = inl (first f)
  front_listed s t (inl (rest w (inl g))) = inr (inl (rest w g))
  front_listed s t (inl (rest w (inr f))) = inl (rest w f)
  front_listed s t (inr q) = inr (inr q)

  front_factored : (s t : State W) → Listed.front s t → Factored.front s t
  front_factored s t (inl (first f)) = inl (first f)
  front_factored s t (inl (rest w f)) = inl (rest w (inr f))
  front_factored s t (inr (inl (first f))) = inl (first f)
  front_factored s t (inr (inl (rest w g))) = inl (rest w (inl g))
  front_factored s t (inr (inr q)) = inr q

  pub factored : IsSame Factored Listed
  factored = record { word = word_listed; word_back = word_factored; front = front_listed; front_back = front_factored }
