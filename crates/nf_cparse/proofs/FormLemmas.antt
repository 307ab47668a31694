-- What holds of all that a production gives, where the tokens have their form.
use Rattle.std.proofs.Common.{◌≡◌, ◌⊎◌, ℕ, ◌+◌, ◌≤◌, Bool, true, false, cond, inl, inr, List, [], ◌∷◌, Option, Some, None, All, refl, sym, ap, subst, arith}
use denote.Enum.Bare.{sameb}
use Rattle.std.proofs.lemmas.List.Elements.{All-head, All-tail}
use Rattle.nf_grammar.specs.State.{State, state}
use Rattle.nf_grammar.specs.Parts as part
use Rattle.nf_grammar.specs.Parts.{Part, IsRepeated, none, more}
use Rattle.nf_cast.specs.declared.limits.TheConstants.{MOST_OPERATORS}
use Rattle.nf_cparse.specs.contracts.symbol.Sym.{the_type}
use Rattle.nf_cparse.specs.declared.symbol.Sym.{Sym}
use Rattle.nf_cparse.specs.Lexing.{Word}
use Rattle.nf_cparse.specs.inner.Tokens.{IsToken}
use Rattle.nf_cparse.specs.Grammar.{Production, of_kind, word, behind}
use Rattle.nf_cparse.proofs.StepLemmas.{same_is}

-- the tokens that are left have their form
abbrev pub AreTokens : List Word → Type 0
AreTokens words = All (λ (w : Word). IsToken w.sym w.text) words

-- a state before tokens that have their form, with room for so many operators at most
pub record IsSound (s : State Word) : Type 0 where
  pub tokens : AreTokens s.words
  pub room : s.room ≤ MOST_OPERATORS

-- from one state to another so many counted tokens were taken
pub record Takes (s : State Word) (n : ℕ) (t : State Word) : Type 0 where
  pub counted : n + t.room ≡ s.room
  pub sound : IsSound t

-- what is given from one state to another, with so many counted tokens
pub record IsGiven {A : Type 0} (Q : A → ℕ → Type 0) (s : State Word) (x : A) (t : State Word) : Type 0 where
  pub count : ℕ
  pub takes : Takes s count t
  pub holds : Q x count

-- all that a production gives holds
pub record Gives {A : Type 0} (Q : A → ℕ → Type 0) (p : Production A) : Type 0 where
  pub each : (s t : State Word) (x : A) → IsSound s → p.word s x t → IsGiven Q s x t

past_tokens : (words rest : List Word) (w : Word) → words ≡ w ∷ rest → AreTokens words → AreTokens rest
past_tokens words rest w e a = All-tail (λ (v : Word). IsToken v.sym v.text) w rest (subst AreTokens e a)

first_token : (words rest : List Word) (w : Word) → words ≡ w ∷ rest → AreTokens words → IsToken w.sym w.text
first_token words rest w e a = All-head (λ (v : Word). IsToken v.sym v.text) w rest (subst AreTokens e a)

-- a token of a table
pub gives_token : {A : Type 0} (table : Word → Option A) (Q : A → ℕ → Type 0)
    → ((w : Word) (x : A) → IsToken w.sym w.text → table w ≡ Some x → Q x 0) → Gives Q (part.token table)
gives_token table Q f = record {
  each = λ s t x h w.
      let step : 0 + t.room ≡ s.room = omega (arith, w.room) in
      record {
        count = 0;
        takes = record {
          counted = step;
          sound = record { tokens = past_tokens s.words t.words w.token w.first h.tokens; room = omega (arith, w.room, h.room) };
        };
        holds = f w.token x (first_token s.words t.words w.token w.first h.tokens) w.gives;
      };
}

-- a token that is counted
pub gives_counted : {A : Type 0} (table : Word → Option A) (Q : A → ℕ → Type 0)
    → ((w : Word) (x : A) → IsToken w.sym w.text → table w ≡ Some x → Q x 1) → Gives Q (part.counted table)
gives_counted table Q f = record {
  each = λ s t x h w.
      let step : 1 + t.room ≡ s.room = omega (arith, w.room) in
      record {
        count = 1;
        takes = record {
          counted = step;
          sound = record { tokens = past_tokens s.words t.words w.token w.first h.tokens; room = omega (arith, w.room, h.room) };
        };
        holds = f w.token x (first_token s.words t.words w.token w.first h.tokens) w.gives;
      };
}

-- no token
pub gives_done : {A : Type 0} (Q : A → ℕ → Type 0) (x : A) → Q x 0 → Gives Q (part.done x)
gives_done Q x q = record {
  each = λ s t y h w.
      let step : 0 + t.room ≡ s.room = omega (arith, ap (λ (u : State Word). u.room) w.stays) in
      record {
        count = 0;
        takes = record { counted = step; sound = subst IsSound (sym w.stays) h };
        holds = subst (λ z. Q z 0) (sym w.gives) q;
      };
}

pub gives_nowhere : {A : Type 0} (Q : A → ℕ → Type 0) → Gives Q part.nowhere
gives_nowhere Q = record { each = λ s t x h w. absurd w }

-- one part and then another one
pub gives_then : {A B : Type 0} {p : Production A} {k : A → Production B} (P : A → ℕ → Type 0) (Q : B → ℕ → Type 0)
    → Gives P p → ((x : A) (n : ℕ) → P x n → Gives (λ y m. Q y (n + m)) (k x)) → Gives Q (part.and_then p k)
gives_then P Q f g = record {
  each = λ s t y h w.
      let a = f.each s w.middle w.given h w.first in
      let b = (g w.given a.count a.holds).each w.middle t y a.takes.sound w.rest in
      record {
        count = a.count + b.count;
        takes = record { counted = omega (arith, a.takes.counted, b.takes.counted); sound = b.takes.sound };
        holds = b.holds;
      };
}

-- one part or another
pub gives_either : {A : Type 0} {p q : Production A} (Q : A → ℕ → Type 0) → Gives Q p → Gives Q q → Gives Q (part.either p q)
gives_either {A} {p} {q} Q f g = record { each = by }
  where
    by : (s t : State Word) (x : A) → IsSound s → p.word s x t ⊎ q.word s x t → IsGiven Q s x t
    by s t x h (inl w) = f.each s t x h w
    by s t x h (inr w) = g.each s t x h w

-- what holds of each of a list, with so many counted tokens in all
pub data AreGiven {A : Type 0} (P : A → ℕ → Type 0) : List A → ℕ → Type 0 where
  no_more : AreGiven P [] 0
  one_more : {x : A} {xs : List A} {n m : ℕ} → P x n → AreGiven P xs m → AreGiven P (x ∷ xs) (n + m)

pub gives_repeated : {A : Type 0} {p : Production A} (P : A → ℕ → Type 0) → Gives P p → Gives (AreGiven P) (part.repeated p)
gives_repeated {A} {p} P f = record { each = by }
  where
    by : (s t : State Word) (xs : List A) → IsSound s → IsRepeated p s xs t → IsGiven (AreGiven P) s xs t
    by s t xs h none =
        let step : 0 + s.room ≡ s.room = omega arith in
        record { count = 0; takes = record { counted = step; sound = h }; holds = no_more }
    by s t xs h (more {t = m} {x} {xs = ys} first rest) =
        let a = f.each s m x h first in
        let b = by m t ys a.takes.sound rest in
        record {
          count = a.count + b.count;
          takes = record { counted = omega (arith, a.takes.counted, b.takes.counted); sound = b.takes.sound };
          holds = one_more a.holds b.holds;
        }

-- a part by itself: its counted tokens are as many as an expression may have, and say nothing of what stands behind it
pub record IsAnyShort {A : Type 0} (P : A → ℕ → Type 0) (x : A) (n : ℕ) : Type 0 where
  pub count : ℕ
  pub few : count ≤ MOST_OPERATORS
  pub holds : P x count

pub gives_alone : {A : Type 0} {p : Production A} (P : A → ℕ → Type 0) → Gives P p → Gives (IsAnyShort P) (part.alone p)
gives_alone P f = record {
  each = λ s t x h w.
      let a = f.each s (state w.left t.words) x h w.word in
      let step : 0 + t.room ≡ s.room = omega (arith, w.room) in
      record {
        count = 0;
        takes = record { counted = step; sound = record { tokens = a.takes.sound.tokens; room = omega (arith, w.room, h.room) } };
        holds = record { count = a.count; few = omega (arith, a.takes.counted, h.room); holds = a.holds };
      };
}

-- a weaker thing holds too
pub gives_weaker : {A : Type 0} {p : Production A} (P Q : A → ℕ → Type 0) → ((x : A) (n : ℕ) → P x n → Q x n) → Gives P p → Gives Q p
gives_weaker P Q f g = record {
  each = λ s t x h w.
      let a = g.each s t x h w in
      record { count = a.count; takes = a.takes; holds = f x a.count a.holds };
}

-- a token of a kind
pub record IsOfKind (k : Sym) (w : Word) (n : ℕ) : Type 0 where
  pub text : IsToken k w.text
  pub none : n ≡ 0

pub kept : {A : Type 0} (b : Bool) (w x : A) → cond b (Some w) None ≡ Some x → (b ≡ true) × (w ≡ x)
kept true w x e = (refl, cc)
kept false w x e = absurd (cc)

pub gives_word : (k : Sym) → Gives (IsOfKind k) (word k)
gives_word k = gives_token (of_kind k) (IsOfKind k) (λ w x t e.
    let is = kept (sameb the_type w.sym k) w x e in
    record {
      text = subst (λ (v : Word). IsToken k v.text) is.1 (subst (λ j. IsToken j w.text) (same_is w.sym k is.0) t);
      none = refl;
    })

-- a token of a kind, and then a part
pub gives_behind : {A : Type 0} {p : Production A} (k : Sym) (Q : A → ℕ → Type 0) → Gives Q p → Gives Q (behind k p)
gives_behind k Q f = record {
  each = λ s t y h w.
      let a = (gives_word k).each s w.middle w.given h w.first in
      let b = f.each w.middle t y a.takes.sound w.rest in
      record {
        count = b.count;
        takes = record { counted = omega (arith, a.takes.counted, a.holds.none, b.takes.counted); sound = b.takes.sound };
        holds = b.holds;
      };
}
