-- What readings of the parts of rules leave and give.
use Rattle.std.proofs.Common.{◌≡◌, ℕ, zero, suc, ◌≤◌, Bool, true, false, cond, List, [], ◌∷◌, ◌++◌, length, refl, sym, ap, ◌∙◌, subst, arith, append_assoc, length-append, Option, Some, None, Ok, Err}
use Rattle.std.specs.List.{All}
use Rattle.std.proofs.lemmas.List.Elements.{All-nil, All-cons, All-head, All-tail}
use denote.Enum.Bare.{sameb}
use Rattle.nf_grammar.specs.State.{state, next}
use Rattle.nf_grammar.specs.inner.Parsers as parser
use Rattle.nf_grammar.specs.inner.Parsers.{bind, and_then, done, choose, restored, in_list, repeated_from, repeated}
use Rattle.nf_grammar.proofs.Public.OutcomeLemmas.{ok_value, no_ok}
use Rattle.nf_grammar.proofs.Public.TokenReaderLemmas.{token_reader}
use Rattle.nf_parse.specs.contracts.symbol.Sym.{the_type}
use Rattle.nf_parse.specs.declared.symbol.Sym.{Sym}
use Rattle.nf_parse.specs.State.{Word, State, of_kind}
use Rattle.nf_parse.specs.inner.Parsers.{Outcome, Parser, is_kind, token, after, optional, separated}
use Rattle.nf_parse.proofs.ExpressionReaderLemmas.{same_is}

-- one state stands behind another one: some words later, with as many operators
pub record IsBehind (s t : State) : Type 0 where
  pub before : List Word
  pub words : s.words ≡ before ++ t.words
  pub room : t.room ≡ s.room

pub stays : (s : State) → IsBehind s s
stays s = record { before = []; words = refl; room = refl }

pub further : (s t u : State) → IsBehind s t → IsBehind t u → IsBehind s u
further s t u a b = record {
  before = a.before ++ b.before;
  words = a.words ∙ ap (λ ws. a.before ++ ws) b.words ∙ sym (append_assoc a.before b.before u.words);
  room = b.room ∙ a.room;
}

pub not_longer : (s t : State) → IsBehind s t → length t.words ≤ length s.words
not_longer s t b = omega (arith, ap length b.words, length-append b.before t.words)

all_behind : (P : Word → Type 0) (before ws : List Word) → All P (before ++ ws) → All P ws
all_behind P [] ws h = h
all_behind P (w ∷ before) ws h = all_behind P before ws (All-tail P w (before ++ ws) h)

pub fits_behind : (P : Word → Type 0) (s t : State) → IsBehind s t → All P s.words → All P t.words
fits_behind P s t b h = all_behind P b.before t.words (subst (All P) b.words h)

-- what holds of a value where there is one
abbrev pub OfSome : {A : Type 0} → (A → Type 0) → Option A → Type 0
OfSome Good None = Unit
OfSome Good (Some x) = Good x

-- a reading goes forward, and what it gives is good where the words fit
pub record IsReading {A : Type 0} (fits : Word → Type 0) (p : Parser A) (Good : A → Type 0) : Type 0 where
  pub behind : (s t : State) (x : A) → p s ≡ Ok (x, t) → IsBehind s t
  pub given : (s t : State) (x : A) → p s ≡ Ok (x, t) → All fits s.words → Good x

-- a word of a kind
pub kind_word : (k : Sym) (w : Word) (bytes : List ℕ) → of_kind k w ≡ Some bytes → w ≡ (k, bytes)
kind_word k w bytes e = go (sameb the_type w.0 k) refl e
  where
    go : (b : Bool) → sameb the_type w.0 k ≡ b → cond b (Some w.1) None ≡ Some bytes
        → w ≡ (k, bytes)
    go true h e = let f : w.1 ≡ bytes = cc in λ i. (same_is w.0 k h i, f i)
    go false h e = absurd (cc)

module _ (fits : Word → Type 0) where
  -- a word that a table has
  module _ {A : Type 0} (table : Word → Option A) where
    table_behind : (s t : State) (x : A) → parser.token table s ≡ Ok (x, t) → IsBehind s t
    table_behind s t x e = let w = (token_reader table).sound s t x e in record { before = w.token ∷ []; words = w.first; room = w.room }

    pub table_reading : IsReading fits (parser.token table) (λ x. Unit)
    table_reading = record { behind = table_behind; given = λ s t x e h. tt }

  -- one word of a kind
  pub token_reading : (k : Sym) → IsReading fits (token k) (λ bytes. fits (k, bytes))
  token_reading k = record {
    behind = table_behind (of_kind k);
    given = λ s t x e h. let w = (token_reader (of_kind k)).sound s t x e in subst fits (kind_word k w.token x w.gives) (All-head fits w.token t.words (subst (All fits) w.first h));
  }

  -- nothing
  module _ {A : Type 0} {Good : A → Type 0} where
    pub done_reading : (x : A) → Good x → IsReading fits (done x) Good
    done_reading x g = record {
      behind = λ s t y e. subst (λ u. IsBehind s u) (ok_value x y s t e).1 (stays s);
      given = λ s t y e h. subst Good (ok_value x y s t e).0 g;
    }

    pub looser : {p : Parser A} {Better : A → Type 0} → ((x : A) → Better x → Good x)
        → IsReading fits p Better → IsReading fits p Good
    looser f r = record { behind = r.behind; given = λ s t x e h. f x (r.given s t x e h) }

  -- one part after another
  module _ {A B : Type 0} {p : Parser A} {k : A → Parser B} {Fine : A → Type 0} {Good : B → Type 0}
      (part : IsReading fits p Fine) (rest : (x : A) → IsReading fits (k x) (λ y. Fine x → Good y)) where
    then_behind : (s t : State) (y : B) (o : Outcome A) → p s ≡ o → bind o k ≡ Ok (y, t)
        → IsBehind s t
    then_behind s t y (Ok read) e f = further s read.1 t (part.behind s read.1 read.0 e) ((rest read.0).behind read.1 t y f)
    then_behind s t y (Err f) e g = absurd (no_ok f (y, t) g)

    then_given : (s t : State) (y : B) (o : Outcome A) → p s ≡ o → bind o k ≡ Ok (y, t)
        → All fits s.words → Good y
    then_given s t y (Ok read) e f h = (rest read.0).given read.1 t y f (fits_behind fits s read.1 (part.behind s read.1 read.0 e) h) (part.given s read.1 read.0 e h)
    then_given s t y (Err f) e g h = absurd (no_ok f (y, t) g)

    pub then_reading : IsReading fits (and_then p k) Good
    then_reading = record { behind = λ s t y e. then_behind s t y (p s) refl e; given = λ s t y e. then_given s t y (p s) refl e }

  -- after a word of a kind
  module _ {A : Type 0} {p : Parser A} {Good : A → Type 0} (k : Sym) (part : IsReading fits p Good) where
    pub after_reading : IsReading fits (after k p) Good
    after_reading = then_reading (token_reading k) (λ bytes. looser (λ x g f. g) part)

  -- one part or another
  module _ {A : Type 0} {p q : Parser A} {Good : A → Type 0} (test : Option Word → Bool) (yes : IsReading fits p Good) (no : IsReading fits q Good) where
    choose_behind : (s t : State) (x : A) (b : Bool) → cond b (p s) (q s) ≡ Ok (x, t) → IsBehind s t
    choose_behind s t x true e = yes.behind s t x e
    choose_behind s t x false e = no.behind s t x e

    choose_given : (s t : State) (x : A) (b : Bool) → cond b (p s) (q s) ≡ Ok (x, t)
        → All fits s.words → Good x
    choose_given s t x true e = yes.given s t x e
    choose_given s t x false e = no.given s t x e

    pub choose_reading : IsReading fits (choose test p q) Good
    unfolding choose
    choose_reading = record { behind = λ s t x e. choose_behind s t x (test (next s)) e; given = λ s t x e. choose_given s t x (test (next s)) e }

  -- [ part ]
  module _ {A : Type 0} {p : Parser A} {Good : A → Type 0} (test : Option Word → Bool) (part : IsReading fits p Good) where
    pub optional_reading : IsReading fits (optional test p) (OfSome Good)
    optional_reading = choose_reading test (then_reading part (λ x. done_reading (Some x) (λ h. h))) (done_reading None tt)

  -- an item in front of those that are read later
  module _ {A : Type 0} {q : Parser (List A)} (Good : A → Type 0) (x : A) (later : IsReading fits q (All Good)) where
    in_list_is : (s t : State) (ys : List A) (o : Outcome (List A)) → q s ≡ o
        → in_list x o ≡ Ok (ys, t) → IsBehind s t × (All fits s.words → Good x → All Good ys)
    in_list_is s t ys (Ok read) e f =
        let g = ok_value (x ∷ read.0) ys read.1 t f in
        (subst (λ u. IsBehind s u) g.1 (later.behind s read.1 read.0 e), λ h k. subst (All Good) g.0 (All-cons Good x read.0 k (later.given s read.1 read.0 e h)))
    in_list_is s t ys (Err f) e g = absurd (no_ok f (ys, t) g)

    pub in_list_reading : IsReading fits (λ s. in_list x (q s)) (λ ys. Good x → All Good ys)
    in_list_reading = record { behind = λ s t ys e. (in_list_is s t ys (q s) refl e).0; given = λ s t ys e. (in_list_is s t ys (q s) refl e).1 }

  -- { part }
  module _ {A : Type 0} {p : Parser A} {Good : A → Type 0} (test : Option Word → Bool) (part : IsReading fits p Good) where
    nothing : IsReading fits (done []) (All Good)
    nothing = done_reading [] (All-nil Good)

    turn_reading : (turns : ℕ)
        → IsReading fits (choose test (and_then p (λ x s. in_list x (repeated_from test p turns s))) (done [])) (All Good)
        → IsReading fits (repeated_from test p (suc turns)) (All Good)
    unfolding choose repeated_from
    turn_reading turns r = record { behind = r.behind; given = r.given }

    from_reading : (turns : ℕ) → IsReading fits (repeated_from test p turns) (All Good)
    unfolding repeated_from
    from_reading zero = nothing
    from_reading (suc turns) = turn_reading turns (choose_reading test (then_reading part (λ x. in_list_reading Good x (from_reading turns))) nothing)

    pub repeated_reading : IsReading fits (repeated test p) (All Good)
    unfolding repeated
    repeated_reading = record { behind = λ s. (from_reading (length s.words)).behind s; given = λ s. (from_reading (length s.words)).given s }

  -- part { separator part }
  module _ {A : Type 0} {p : Parser A} {Good : A → Type 0} (separator : Sym) (part : IsReading fits p Good) where
    pub separated_reading : IsReading fits (separated separator p) (All Good)
    separated_reading = then_reading part (λ x. then_reading (repeated_reading (is_kind separator) (after_reading separator part)) (λ xs. done_reading (x ∷ xs) (λ h g. All-cons Good x xs g h)))

  -- an expression by itself, of which the words that it takes are known
  pub record IsReadingAlone {A : Type 0} (p : Parser A) (Good : A → Type 0) : Type 0 where
    pub before : (s t : State) (x : A) → p s ≡ Ok (x, t)
        → (taken : List Word) × (s.words ≡ taken ++ t.words)
    pub given : (s t : State) (x : A) → p s ≡ Ok (x, t) → All fits s.words → Good x

  module _ {A : Type 0} {p : Parser A} {Good : A → Type 0} (part : IsReadingAlone p Good) where
    alone_is : (s t : State) (x : A) (o : Outcome A) → p s ≡ o → restored s.room o ≡ Ok (x, t)
        → IsBehind s t × (All fits s.words → Good x)
    alone_is s t x (Ok read) e f =
        let g = ok_value read.0 x (state s.room read.1.words) t f in
        let b = part.before s read.1 read.0 e in
        (subst (λ u. IsBehind s u) g.1 (record { before = b.0; words = b.1; room = refl }), λ h. subst Good g.0 (part.given s read.1 read.0 e h))
    alone_is s t x (Err f) e g = absurd (no_ok f (x, t) g)

    pub alone_reading : IsReading fits (parser.alone p) Good
    unfolding parser.alone
    alone_reading = record { behind = λ s t x e. (alone_is s t x (p s) refl e).0; given = λ s t x e. (alone_is s t x (p s) refl e).1 }
