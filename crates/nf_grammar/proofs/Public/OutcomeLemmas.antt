-- Outcomes of readers: what they are, and at which place they stand.
use Rattle.std.proofs.Common.{◌≡◌, ◌≤◌, ℕ, Bool, true, false, cond, List, length, refl, ap, arith, Ok, Err}
use Rattle.nf_grammar.specs.State.{State}
use Rattle.nf_grammar.specs.declared.fault.Fault.{Fault}
use Rattle.nf_grammar.specs.declared.fault.Halt.{Halt}
use Rattle.nf_grammar.specs.declared.fault.Halt.TheVariants as halt
use Rattle.nf_grammar.specs.inner.Parsers.{Outcome, Parser, place, bind, in_list, restored, Reads}

-- two readings of one outcome
pub ok_is : {W A : Type 0} (a b : A × State W) (o : Outcome W A) → o ≡ Ok a → o ≡ Ok b → a ≡ b
ok_is a b o p q = cc

pub ok_value : {W A : Type 0} (x y : A) (s t : State W)
    → ◌≡◌ {A = Outcome W A} (Ok (x, s)) (Ok (y, t)) → (x ≡ y) × (s ≡ t)
ok_value {W} {A} x y s t e =
    let r = ok_is (x, s) (y, t) (Ok (x, s)) refl e in
    (ap (λ (read : A × State W). read.0) r, ap (λ (read : A × State W). read.1) r)

pub no_ok : {W A : Type 0} (f : Fault) (a : A × State W) → ◌≡◌ {A = Outcome W A} (Err f) (Ok a) → ⊥
no_ok f a e = cc

pub no_err : {W A : Type 0} (f : Fault) (a : A × State W) → ◌≡◌ {A = Outcome W A} (Ok a) (Err f) → ⊥
no_err f a e = cc

pub err_is : {W A : Type 0} (f g : Fault) → ◌≡◌ {A = Outcome W A} (Err f) (Err g) → f ≡ g
err_is f g e = cc

pub same_fault : {W A B : Type 0} (f g : Fault) → ◌≡◌ {A = Outcome W A} (Err f) (Err g)
    → ◌≡◌ {A = Outcome W B} (Err f) (Err g)
same_fault f g e = ap Err (err_is f g e)

-- a call that stops where its parser does
pub stop_reads : {W A B : Type 0} (o : Outcome W A) (r : Outcome W B) (h : Halt) (s t : State W)
    → ((f : Fault) → o ≡ Err f → r ≡ Err f) → Reads o (Err h) s → Reads r (Err h) t
stop_reads o r halt.NoMemory s t g e = tt
stop_reads o r (halt.At f) s t g e = g f e

-- what follows an outcome reads no way back
pub bind_place : {W A B : Type 0} (o : Outcome W A) (k : A → Parser W B)
    → ((x : A) (s : State W) → place (k x s) ≤ length s.words) → place (bind o k) ≤ place o
bind_place (Ok read) k h = h read.0 read.1
bind_place (Err f) k h = omega arith

pub choose_place : {W A : Type 0} {n : ℕ} (b : Bool) (o r : Outcome W A) → place o ≤ n → place r ≤ n
    → place (cond b o r) ≤ n
choose_place true o r h i = h
choose_place false o r h i = i

-- an item in front of a list
pub list_place : {W A : Type 0} (x : A) (o : Outcome W (List A)) → place (in_list x o) ≡ place o
list_place x (Ok read) = refl
list_place x (Err f) = refl

pub list_err : {W A : Type 0} (x : A) (f : Fault) (o : Outcome W (List A)) → in_list x o ≡ Err f
    → o ≡ Err f
list_err x f (Ok read) e = absurd (no_err f _ e)
list_err x f (Err g) e = ap Err (err_is g f e)

-- a part by itself
pub restored_place : {W A : Type 0} (n : ℕ) (o : Outcome W A) → place (restored n o) ≡ place o
restored_place n (Ok read) = refl
restored_place n (Err f) = refl
