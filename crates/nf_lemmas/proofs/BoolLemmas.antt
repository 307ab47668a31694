-- Both of two tests, either, neither, and the answers of a choice.
use Rattle.std.proofs.Common.{◌≡◌, Bool, true, false, ◌&&◌, ◌||◌, cond, Some, None, refl}

pub both : (a b : Bool) → (a && b) ≡ true → (a ≡ true) × (b ≡ true)
both true true e = (refl, refl)
both true false e = cc
both false b e = cc

pub neither : (a b : Bool) → (a || b) ≡ false → (a ≡ false) × (b ≡ false)
neither true b e = cc
neither false true e = cc
neither false false e = (refl, refl)

pub and_false : (b : Bool) → (b && false) ≡ false
and_false true = refl
and_false false = refl

pub and_true : (b : Bool) → (b && true) ≡ b
and_true true = refl
and_true false = refl

-- of three tests the first two may change places
pub or_swapped : (a b c : Bool) → (a || (b || c)) ≡ (b || (a || c))
or_swapped true true c = refl
or_swapped true false c = refl
or_swapped false true c = refl
or_swapped false false c = refl

-- a test that is made twice
pub or_once : (a b : Bool) → (a || b) ≡ (a || (a || b))
or_once true b = refl
or_once false b = refl

-- the two answers of a choice
pub choose_first : {A : Type 0} (b : Bool) (x y : A) → b ≡ true → cond b x y ≡ x
choose_first b x y e = rw e

pub choose_second : {A : Type 0} (b : Bool) (x y : A) → b ≡ false → cond b x y ≡ y
choose_second b x y e = rw e

-- what is none unless a test fails is none where the test passes
pub passed_where_none : {A : Type 0} (b : Bool) (x : A) → cond b None (Some x) ≡ None → b ≡ true
passed_where_none true x e = refl
passed_where_none false x e = absurd cc
