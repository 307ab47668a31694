-- Readers that go by the parts of a grammar: what each reads and where it stops.
use Rattle.std.proofs.Common.{◌≡◌, ◌≤◌, ◌<◌, ◌-◌, ◌+◌, ◌⊎◌, inl, inr, ℕ, suc, Bool, true, false, cond, ◌∷◌, length, drop, refl, sym, ap, ◌∙◌, subst, arith, Option, Ok, Err}
use Rattle.std.proofs.lemmas.List.{drop-drop, length-drop}
use Rattle.nf_grammar.specs.State.{State, state, next}
use Rattle.nf_grammar.specs.Parts.{Part, whole, IsThen, IsThenFront, first, rest, here, IsAlone}
use Rattle.nf_grammar.specs.Parts as part
use Rattle.nf_grammar.specs.declared.fault.Fault.{Fault}
use Rattle.nf_grammar.specs.inner.Parsers.{Outcome, Parser, place_of, place, refuse, too_deep, bind, behind, given, restored}
use Rattle.nf_grammar.specs.inner.Parsers as parser
use Rattle.nf_grammar.proofs.Public.OutcomeLemmas.{ok_is, no_ok, no_err, err_is, bind_place, choose_place, restored_place}

-- what the next word may be
abbrev pub Next : Type 0 → Type 1
Next W = Option W → Type 0

abbrev pub always : {W : Type 0} → Next W
always n = Unit {0}

-- a front that ends with so many words left
pub record IsAtFront {W A : Type 0} (P : Part W A) (s : State W) (left : ℕ) : Type 0 where
  pub end : State W
  pub front : P.front s end
  pub here : length end.words ≡ left

-- the words of one state are those of another behind so many
pub record IsBehind {W : Type 0} (s t : State W) : Type 0 where
  pub count : ℕ
  pub few : count ≤ length s.words
  pub last : t.words ≡ drop count s.words

-- a parser goes by a part. What it reads is a word, and a word before a place where it may stop is read; such a word begins with one of some words. It reads as far as every front goes, and a fault stands at the end of a front
pub record IsReader {W A : Type 0} (p : Parser W A) (P : Part W A) (begin stop : Next W) : Type 0 where
  pub sound : (s t : State W) (x : A) → p s ≡ Ok (x, t) → P.word s x t
  pub complete : (s t : State W) (x : A) → P.word s x t → stop (next t) → p s ≡ Ok (x, t)
  pub begins : (s t : State W) (x : A) → P.word s x t → stop (next t) → begin (next s)
  pub empty : (s : State W) → P.front s s
  pub whole : (s t : State W) (x : A) → P.word s x t → P.front s t
  pub starts : (s v : State W) → P.front s v → (v ≡ s) ⊎ begin (next s)
  pub behind : (s v : State W) → P.front s v → IsBehind s v
  pub reach : (s v : State W) → P.front s v → place (p s) ≤ length v.words
  pub at : (s : State W) (f : Fault) → p s ≡ Err f → IsAtFront P s (place_of f)

-- words behind others
pub IsBehind-same : {W : Type 0} (s : State W) → IsBehind s s
IsBehind-same s = record { count = 0; few = omega arith; last = refl }

pub IsBehind-then : {W : Type 0} (s m t : State W) → IsBehind s m → IsBehind m t → IsBehind s t
IsBehind-then s m t a b = record {
  count = a.count + b.count;
  few = let h : length m.words ≡ length s.words - a.count = ap length a.last ∙ length-drop a.count s.words in omega (arith, a.few, b.few, h);
  last = b.last ∙ ap (drop b.count) a.last ∙ drop-drop b.count a.count s.words;
}

pub IsBehind-next : {W : Type 0} (s t : State W) (w : W) → s.words ≡ w ∷ t.words → IsBehind s t
IsBehind-next s t w e = record {
  count = 1;
  few = let h : length s.words ≡ suc (length t.words) = ap length e in omega (arith, h);
  last = sym (ap (drop 1) e);
}

-- where the same words are left
pub same_place : {W : Type 0} (s t : State W) → t ≡ s → length t.words ≡ length s.words
same_place s t e = ap (λ u. length u.words) e

-- a reader goes no way back
pub forward : {W A : Type 0} {p : Parser W A} {P : Part W A} {begin stop : Next W}
    → IsReader p P begin stop → (s : State W) → place (p s) ≤ length s.words
forward r s = r.reach s s (r.empty s)

-- nothing
pub done_reader : {W A : Type 0} (x : A) (stop : Next W)
    → IsReader (parser.done x) (part.done x) stop stop
done_reader x stop = record {
  sound = λ s t y e. let h = ok_is (x, s) (y, t) (Ok (x, s)) refl e in record { gives = sym (ap (λ r. r.0) h); stays = sym (ap (λ r. r.1) h) };
  complete = λ s t y w h. rw (w.gives, w.stays) refl;
  begins = λ s t y w h. subst (λ u. stop (next u)) w.stays h;
  empty = λ s. refl;
  whole = λ s t y w. w.stays;
  starts = λ s v f. inl f;
  behind = λ s v f. subst (λ u. IsBehind s u) (sym f) (IsBehind-same s);
  reach = λ s v f. omega (arith, same_place s v f);
  at = λ s f e. absurd (no_err f (x, s) e);
}

-- a limit is reached
nowhere_at : {W A : Type 0} (s : State W) (b : Bool) (o : Outcome W A)
    → cond b (too_deep s) (refuse s) ≡ o → place o ≡ length s.words
nowhere_at s true o e = sym (ap place e)
nowhere_at s false o e = sym (ap place e)

nowhere_ok : {W A : Type 0} (s : State W) (b : Bool) (a : A × State W)
    → cond {A = Outcome W A} b (too_deep s) (refuse s) ≡ Ok a → ⊥
nowhere_ok s true a e = no_ok _ a e
nowhere_ok s false a e = no_ok _ a e

module _ {W A : Type 0} (test : Option W → Bool) (begin stop : Next W) where
  pub nowhere_reader : IsReader {A = A} (parser.nowhere test) part.nowhere begin stop
  unfolding parser.nowhere
  nowhere_reader = record {
    sound = λ s t x e. absurd (nowhere_ok s (test (next s)) (x, t) e);
    complete = λ s t x w h. absurd w;
    begins = λ s t x w h. absurd w;
    empty = λ s. refl;
    whole = λ s t x w. absurd w;
    starts = λ s v f. inl f;
    behind = λ s v f. subst (λ u. IsBehind s u) (sym f) (IsBehind-same s);
    reach = λ s v f. omega (arith, same_place s v f, nowhere_at {A = A} s (test (next s)) _ refl);
    at = λ s f e. record { end = s; front = refl; here = sym (nowhere_at s (test (next s)) _ e) };
  }

-- a part and then another one
module _ {W A B : Type 0} {p : Parser W A} {k : A → Parser W B} {P : Part W A} {K : A → Part W B} {begin stop begin_rest stop_rest : Next W}
    (part_of : IsReader p P begin stop) (rest_of : (x : A) → IsReader (k x) (K x) begin_rest stop_rest) (joins : (n : Option W) → begin_rest n → stop n) where
  then_sound : (s t : State W) (y : B) (o : Outcome W A) → p s ≡ o → bind o k ≡ Ok (y, t)
      → IsThen P K s y t
  then_sound s t y (Ok read) e f = record { given = read.0; middle = read.1; first = part_of.sound s read.1 read.0 e; rest = (rest_of read.0).sound read.1 t y f }
  then_sound s t y (Err f) e g = absurd (no_ok f (y, t) g)

  then_stop : (s t : State W) (y : B) (w : IsThen P K s y t) → stop_rest (next t)
      → stop (next w.middle)
  then_stop s t y w h = joins (next w.middle) ((rest_of w.given).begins w.middle t y w.rest h)

  -- the rest reads no way back
  rest_place : (o : Outcome W A) → place (bind o k) ≤ place o
  rest_place o = bind_place o k (λ x. forward (rest_of x))

  then_starts : (s v : State W) → IsThenFront P K s v → (v ≡ s) ⊎ begin (next s)
  then_starts s v (first f) = part_of.starts s v f
  then_starts s v (rest {x} {middle} w f) = elim ((rest_of x).starts middle v f) [
    | inl e ↦ elim (part_of.starts s middle (part_of.whole s middle x w)) [ inl d ↦ inl (e ∙ d) | inr b ↦ inr b ]
    | inr b ↦ inr (part_of.begins s middle x w (joins (next middle) b))
  ]

  then_behind : (s v : State W) → IsThenFront P K s v → IsBehind s v
  then_behind s v (first f) = part_of.behind s v f
  then_behind s v (rest {x} {middle} w f) = IsBehind-then s middle v (part_of.behind s middle (part_of.whole s middle x w)) ((rest_of x).behind middle v f)

  then_reach : (s v : State W) → IsThenFront P K s v → place (bind (p s) k) ≤ length v.words
  then_reach s v (first f) = omega (arith, rest_place (p s), part_of.reach s v f)
  then_reach s v (rest {x} {middle} w f) = go ((rest_of x).starts middle v f)
    where
      go : (v ≡ middle) ⊎ begin_rest (next middle) → place (bind (p s) k) ≤ length v.words
      go (inl e) = omega (arith, rest_place (p s), part_of.reach s middle (part_of.whole s middle x w), same_place middle v e)
      go (inr b) = rw (part_of.complete s middle x w (joins (next middle) b)) ((rest_of x).reach middle v f)

  then_at : (s : State W) (f : Fault) (o : Outcome W A) → p s ≡ o → bind o k ≡ Err f
      → IsAtFront (part.and_then P K) s (place_of f)
  then_at s f (Ok read) e g = let a = (rest_of read.0).at read.1 f g in record { end = a.end; front = rest (part_of.sound s read.1 read.0 e) a.front; here = a.here }
  then_at s f (Err h) e g = let a = part_of.at s h e in record { end = a.end; front = first a.front; here = a.here ∙ ap place_of (err_is h f g) }

  pub then_reader : IsReader (parser.and_then p k) (part.and_then P K) begin stop_rest
  then_reader = record {
    sound = λ s t y e. then_sound s t y (p s) refl e;
    complete = λ s t y w h. ap (λ o. bind o k) (part_of.complete s w.middle w.given w.first (then_stop s t y w h)) ∙ (rest_of w.given).complete w.middle t y w.rest h;
    begins = λ s t y w h. part_of.begins s w.middle w.given w.first (then_stop s t y w h);
    empty = λ s. first (part_of.empty s);
    whole = λ s t y w. rest w.first ((rest_of w.given).whole w.middle t y w.rest);
    starts = then_starts;
    behind = then_behind;
    reach = then_reach;
    at = λ s f e. then_at s f (p s) refl e;
  }

-- one part or another, by the next word
module _ {W A : Type 0} {test : Option W → Bool} {p q : Parser W A} {P Q : Part W A} {begin other stop : Next W}
    (yes : IsReader p P begin stop) (no : IsReader q Q other stop) (takes : (n : Option W) → begin n → test n ≡ true) (leaves : (n : Option W) → other n → test n ≡ false) where
  choose_sound : (s t : State W) (x : A) (b : Bool) → cond b (p s) (q s) ≡ Ok (x, t)
      → (part.either P Q).word s x t
  choose_sound s t x true e = inl (yes.sound s t x e)
  choose_sound s t x false e = inr (no.sound s t x e)

  choose_complete : (s t : State W) (x : A) → (part.either P Q).word s x t → stop (next t)
      → parser.choose test p q s ≡ Ok (x, t)
  unfolding parser.choose
  choose_complete s t x (inl w) h = let b = takes (next s) (yes.begins s t x w h) in rw b (yes.complete s t x w h)
  choose_complete s t x (inr w) h = let b = leaves (next s) (no.begins s t x w h) in rw b (no.complete s t x w h)

  choose_begins : (s t : State W) (x : A) → (part.either P Q).word s x t → stop (next t)
      → begin (next s) ⊎ other (next s)
  choose_begins s t x (inl w) h = inl (yes.begins s t x w h)
  choose_begins s t x (inr w) h = inr (no.begins s t x w h)

  choose_whole : (s t : State W) (x : A) → (part.either P Q).word s x t
      → (part.either P Q).front s t
  choose_whole s t x (inl w) = inl (yes.whole s t x w)
  choose_whole s t x (inr w) = inr (no.whole s t x w)

  choose_starts : (s v : State W) → (part.either P Q).front s v
      → (v ≡ s) ⊎ (begin (next s) ⊎ other (next s))
  choose_starts s v (inl f) = elim (yes.starts s v f) [ inl e ↦ inl e | inr b ↦ inr (inl b) ]
  choose_starts s v (inr f) = elim (no.starts s v f) [ inl e ↦ inl e | inr b ↦ inr (inr b) ]

  choose_behind : (s v : State W) → (part.either P Q).front s v → IsBehind s v
  choose_behind s v (inl f) = yes.behind s v f
  choose_behind s v (inr f) = no.behind s v f

  choose_forward : (s : State W) → place (cond (test (next s)) (p s) (q s)) ≤ length s.words
  choose_forward s = choose_place (test (next s)) (p s) (q s) (forward yes s) (forward no s)

  choose_reach : (s v : State W) → (part.either P Q).front s v
      → place (parser.choose test p q s) ≤ length v.words
  unfolding parser.choose
  choose_reach s v (inl f) = go (yes.starts s v f)
    where
      go : (v ≡ s) ⊎ begin (next s) → place (parser.choose test p q s) ≤ length v.words
      go (inl e) = omega (arith, choose_forward s, same_place s v e)
      go (inr b) = rw (takes (next s) b) (yes.reach s v f)
  choose_reach s v (inr f) = go (no.starts s v f)
    where
      go : (v ≡ s) ⊎ other (next s) → place (parser.choose test p q s) ≤ length v.words
      go (inl e) = omega (arith, choose_forward s, same_place s v e)
      go (inr b) = rw (leaves (next s) b) (no.reach s v f)

  choose_at : (s : State W) (f : Fault) (b : Bool) → cond b (p s) (q s) ≡ Err f
      → IsAtFront (part.either P Q) s (place_of f)
  choose_at s f true e = let a = yes.at s f e in record { end = a.end; front = inl a.front; here = a.here }
  choose_at s f false e = let a = no.at s f e in record { end = a.end; front = inr a.front; here = a.here }

  pub choose_reader : IsReader (parser.choose test p q) (part.either P Q) (λ n. begin n ⊎ other n) stop
  unfolding parser.choose
  choose_reader = record {
    sound = λ s t x e. choose_sound s t x (test (next s)) e;
    complete = choose_complete;
    begins = choose_begins;
    empty = λ s. inl (yes.empty s);
    whole = choose_whole;
    starts = choose_starts;
    behind = choose_behind;
    reach = choose_reach;
    at = λ s f e. choose_at s f (test (next s)) e;
  }

-- a part by itself
module _ {W A : Type 0} {p : Parser W A} {P : Part W A} {begin stop : Next W} (part_of : IsReader p P begin stop) where
  alone_sound : (s t : State W) (x : A) (o : Outcome W A) → p s ≡ o → restored s.room o ≡ Ok (x, t)
      → IsAlone P s x t
  alone_sound s t x (Ok read) h e =
      let r = ok_is (read.0, state s.room read.1.words) (x, t) (Ok (read.0, state s.room read.1.words)) refl e in
      let w : read.1.words ≡ t.words = ap (λ (r : A × State W). r.1.words) r in
      let y : read.0 ≡ x = ap (λ (r : A × State W). r.0) r in
      record {
        left = read.1.room;
        word = subst (λ z. P.word s z (state read.1.room t.words)) y (subst (λ ws. P.word s read.0 (state read.1.room ws)) w (part_of.sound s read.1 read.0 h));
        room = sym (ap (λ (r : A × State W). r.1.room) r);
      }
  alone_sound s t x (Err f) h e = absurd (no_ok f (x, t) e)

  alone_at : (s : State W) (f : Fault) (o : Outcome W A) → p s ≡ o → restored s.room o ≡ Err f
      → IsAtFront (part.alone P) s (place_of f)
  alone_at s f (Ok read) h e = absurd (no_err f _ e)
  alone_at s f (Err g) h e =
      let a = part_of.at s g h in
      record { end = state s.room a.end.words; front = record { left = a.end.room; front = a.front; room = refl }; here = a.here ∙ ap place_of (err_is g f e) }

  pub alone_reader : IsReader (parser.alone p) (part.alone P) begin stop
  unfolding parser.alone
  alone_reader = record {
    sound = λ s t x e. alone_sound s t x (p s) refl e;
    complete = λ s t x w h. ap (restored s.room) (part_of.complete s (state w.left t.words) x w.word h) ∙ rw (← w.room) refl;
    begins = λ s t x w h. part_of.begins s (state w.left t.words) x w.word h;
    empty = λ s. record { left = s.room; front = part_of.empty s; room = refl };
    whole = λ s t x w. record { left = w.left; front = part_of.whole s (state w.left t.words) x w.word; room = w.room };
    starts = λ s v f. elim (part_of.starts s (state f.left v.words) f.front) [ inl e ↦ inl (λ i. state (f.room i) (e i).words) | inr b ↦ inr b ];
    behind = λ s v f. let b = part_of.behind s (state f.left v.words) f.front in record { count = b.count; few = b.few; last = b.last };
    reach = λ s v f. omega (arith, restored_place s.room (p s), part_of.reach s (state f.left v.words) f.front);
    at = λ s f e. alone_at s f (p s) refl e;
  }

-- a reader with more words to begin with, and fewer places where it may stop
pub weaken : {W A : Type 0} {p : Parser W A} {P : Part W A} {begin stop more_begin fewer_stop : Next W}
    → ((n : Option W) → begin n → more_begin n) → ((n : Option W) → fewer_stop n → stop n)
    → IsReader p P begin stop → IsReader p P more_begin fewer_stop
weaken wider fewer r = record {
  sound = r.sound;
  complete = λ s t x w h. r.complete s t x w (fewer (next t) h);
  begins = λ s t x w h. wider (next s) (r.begins s t x w (fewer (next t) h));
  empty = r.empty;
  whole = r.whole;
  starts = λ s v f. elim (r.starts s v f) [ inl e ↦ inl e | inr b ↦ inr (wider (next s) b) ];
  behind = r.behind;
  reach = r.reach;
  at = r.at;
}

-- a parser takes a word at least
pub record IsShorter {W A : Type 0} (p : Parser W A) : Type 0 where
  pub fewer : (s t : State W) (x : A) → p s ≡ Ok (x, t) → length t.words < length s.words
