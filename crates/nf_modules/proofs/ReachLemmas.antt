-- Whether a module is reached can be decided.
use Rattle.std.proofs.Common.{◌≡◌, inl, inr, ◌↔◌, ℕ, zero, suc, ◌+◌, ◌≤◌, Bool, true, false, not, cond, ◌||◌, ◌&&◌, List, [], ◌∷◌, length, count_by, map, Option, Some, None, IsTrue, Contains, bytes_eq, refl, sym, ap, ◌∙◌, arith}
use Rattle.std.specs.List.{list_any}
use Rattle.std.proofs.lemmas.Bool.{cases_Bool, or_cases, and_parts, and_from, not-true}
use Rattle.std.proofs.Math.Bool.{or-true}
use Rattle.std.proofs.lemmas.List.Folds.{list_any_at}
use Rattle.std.proofs.lemmas.List.Sums.{count_by-le-length, sum_by-cons}
use Rattle.std.proofs.lemmas.Slice.Eq.{bytes_eq-Decides}
use Rattle.nf_core.specs.declared.trees.Module.{Module}
use Rattle.nf_modules.specs.Selection.{Reached, AreReached, every, asked, imported}
use Rattle.nf_modules.proofs.ListLemmas.{AllZip-map}

any_true : {X : Type 0} (p : X → Bool) (xs : List X) → list_any p xs ≡ true → (x : X) × Contains xs x × (p x ≡ true)
any_true p [] h = cc
any_true {X} p (x ∷ xs) h = elim (or_cases (p x) (list_any p xs) h) [
  | inl e ↦ (x, (0, omega arith, refl), e)
  | inr t ↦ let r : (y : X) × Contains xs y × (p y ≡ true) = any_true p xs t in (r.0, (suc r.1.0, omega arith, r.1.2), r.2)
]

any_from : {X : Type 0} (p : X → Bool) (xs : List X) (x : X) → Contains xs x → p x ≡ true → list_any p xs ≡ true
any_from p xs x among e = list_any_at p xs among.0 x among.1 (ap p among.2 ∙ e)

-- 1 for what passes a test
abbrev bit : Bool → ℕ
bit b = cond b 1 0

bit_le : (a b : Bool) → (a ≡ true → b ≡ true) → bit a ≤ bit b
bit_le false b h = omega arith
bit_le true b h = let e : bit b ≡ 1 = ap bit (h refl) in omega arith

count_le : {X : Type 0} (p q : X → Bool) (xs : List X) → ((x : X) → p x ≡ true → q x ≡ true) → count_by p xs ≤ count_by q xs
count_le p q [] h = omega arith
count_le p q (x ∷ xs) h =
    let head : bit (p x) ≤ bit (q x) = bit_le (p x) (q x) (h x) in
    let rest : count_by p xs ≤ count_by q xs = count_le p q xs h in
    let left : count_by p (x ∷ xs) ≡ bit (p x) + count_by p xs = sum_by-cons (λ y. bit (p y)) x xs in
    let right : count_by q (x ∷ xs) ≡ bit (q x) + count_by q xs = sum_by-cons (λ y. bit (q y)) x xs in
    omega arith

-- a test that more items pass
grows : {X : Type 0} (p q : X → Bool) (xs : List X) → ((x : X) → p x ≡ true → q x ≡ true) → list_any (λ x. not (p x) && q x) xs ≡ true → count_by p xs + 1 ≤ count_by q xs
grows p q [] h some = cc
grows p q (x ∷ xs) h some =
    let left : count_by p (x ∷ xs) ≡ bit (p x) + count_by p xs = sum_by-cons (λ y. bit (p y)) x xs in
    let right : count_by q (x ∷ xs) ≡ bit (q x) + count_by q xs = sum_by-cons (λ y. bit (q y)) x xs in
    elim (or_cases (not (p x) && q x) (list_any (λ y. not (p y) && q y) xs) some) [
      | inl here ↦
          let parts : (not (p x) ≡ true) × (q x ≡ true) = and_parts (not (p x)) (q x) here in
          let no : bit (p x) ≡ 0 = ap bit (not-true (p x) parts.0) in
          let yes : bit (q x) ≡ 1 = ap bit parts.1 in
          let rest : count_by p xs ≤ count_by q xs = count_le p q xs h in
          omega arith
      | inr later ↦
          let head : bit (p x) ≤ bit (q x) = bit_le (p x) (q x) (h x) in
          let rest : count_by p xs + 1 ≤ count_by q xs = grows p q xs h later in
          omega arith
    ]

-- whether a name that there may be is one of these
name_in : Option (List ℕ) → List (List ℕ) → Bool
name_in None names = false
name_in (Some name) names = list_any (bytes_eq name) names

-- and which one
name_in-true : (o : Option (List ℕ)) (names : List (List ℕ)) → name_in o names ≡ true → (name : List ℕ) × (o ≡ Some name) × Contains names name
unfolding name_in
name_in-true None names h = cc
name_in-true (Some name) names h =
    let r : (other : List ℕ) × Contains names other × (bytes_eq name other ≡ true) = any_true (bytes_eq name) names h in
    (r.0, ap Some ((bytes_eq-Decides name r.0).0 r.2), r.1)

-- as it is where the name is one of them
name_in-from : (o : Option (List ℕ)) (name : List ℕ) (names : List (List ℕ)) → o ≡ Some name → Contains names name → name_in o names ≡ true
unfolding name_in
name_in-from None name names e among = cc
name_in-from (Some x) name names e among = let same : x ≡ name = cc in any_from (bytes_eq x) names name among ((bytes_eq-Decides x name).1 same)

module _ (modules : List Module) (root : List ℕ) where
  imported_by : (Module → Bool) → Module → Module → Bool
  imported_by test n m = test m && name_in n.name m.imports

  -- what is reached by one import more
  step : (Module → Bool) → Module → Bool
  step test n = test n || (name_in n.name (root ∷ []) || list_any (imported_by test n) modules)

  Sound : (Module → Bool) → Type 0
  Sound test = (n : Module) → Contains modules n → test n ≡ true → Reached modules (Some root) n

  step-sound : (test : Module → Bool) → Sound test → Sound (step test)
  unfolding step Sound imported_by
  step-sound test sound n among h = elim (or_cases (test n) (name_in n.name (root ∷ []) || list_any (imported_by test n) modules) h) [
    | inl old ↦ sound n among old
    | inr new ↦ elim (or_cases (name_in n.name (root ∷ [])) (list_any (imported_by test n) modules) new) [
      | inl is ↦
          let r : (name : List ℕ) × (n.name ≡ Some name) × Contains (root ∷ []) name = name_in-true n.name (root ∷ []) is in
          asked (ap Some (only r.0 r.2)) r.1
      | inr by ↦
          let r : (m : Module) × Contains modules m × ((test m && name_in n.name m.imports) ≡ true) = any_true (imported_by test n) modules by in
          let parts : (test r.0 ≡ true) × (name_in n.name r.0.imports ≡ true) = and_parts (test r.0) (name_in n.name r.0.imports) r.2 in
          let s : (name : List ℕ) × (n.name ≡ Some name) × Contains r.0.imports name = name_in-true n.name r.0.imports parts.1 in
          imported r.1 (sound r.0 r.1 parts.0) s.2 s.1
    ]
  ]
    where
      only : (name : List ℕ) → Contains (root ∷ []) name → root ≡ name
      only name (zero, h, e) = e
      only name (suc k, h, e) = absurd (omega arith)

  step-kept : (test : Module → Bool) (n : Module) → test n ≡ true → step test n ≡ true
  unfolding step
  step-kept test n h = ap (λ b. b || (name_in n.name (root ∷ []) || list_any (imported_by test n) modules)) h

  -- no step reaches more
  IsClosed : (Module → Bool) → Type 0
  IsClosed test = list_any (λ n. not (test n) && step test n) modules ≡ false

  closed_at : (test : Module → Bool) (n : Module) → IsClosed test → Contains modules n → step test n ≡ true → test n ≡ true
  unfolding IsClosed
  closed_at test n closed among h = elim (cases_Bool (test n)) [
    | inl t ↦ t
    | inr f ↦ let more : list_any (λ k. not (test k) && step test k) modules ≡ true = any_from (λ k. not (test k) && step test k) modules n among (and_from (not (test n)) (step test n) (ap not f) h) in cc
  ]

  closed_complete : (test : Module → Bool) → IsClosed test → (n : Module) → Reached modules (Some root) n → Contains modules n → test n ≡ true
  unfolding step imported_by
  closed_complete test closed n (every none) among = cc
  closed_complete test closed n (asked {name} e named) among =
      let same : root ≡ name = cc in
      let is : name_in n.name (root ∷ []) ≡ true = name_in-from n.name root (root ∷ []) (named ∙ ap Some (sym same)) (0, omega arith, refl) in
      closed_at test n closed among (ap (λ b. test n || (b || list_any (imported_by test n) modules)) is ∙ or-true (test n))
  closed_complete test closed n (imported {m} {n = k} {name} known reached imports named) among =
      let by : list_any (imported_by test n) modules ≡ true = any_from (imported_by test n) modules m known
      (and_from (test m) (name_in n.name m.imports) (closed_complete test closed m reached known) (name_in-from n.name name m.imports named imports)) in
      closed_at test n closed among (ap (λ b. test n || (name_in n.name (root ∷ []) || b)) by ∙ ap (λ b. test n || b) (or-true (name_in n.name (root ∷ []))) ∙ or-true (test n))

  Decision : Type 0
  Decision = (test : Module → Bool) × ((m : Module) → Contains modules m → IsTrue (test m) ↔ Reached modules (Some root) m)

  done : (test : Module → Bool) → Sound test → IsClosed test → Decision
  unfolding Decision Sound
  done test sound closed = (test, λ m among. (λ h. sound m among h, λ r. closed_complete test closed m r among))

  -- by how many modules may still be reached
  decide : (n : ℕ) (test : Module → Bool) → Sound test → length modules ≤ count_by test modules + n → Decision
  unfolding IsClosed
  decide zero test sound few = elim (cases_Bool (list_any (λ n. not (test n) && step test n) modules)) [
    | inl more ↦
        let grown : count_by test modules + 1 ≤ count_by (step test) modules = grows test (step test) modules (step-kept test) more in
        let all : count_by (step test) modules ≤ length modules = count_by-le-length (step test) modules in
        absurd (omega arith)
    | inr closed ↦ done test sound closed
  ]
  decide (suc n) test sound few = elim (cases_Bool (list_any (λ k. not (test k) && step test k) modules)) [
    | inl more ↦
        let grown : count_by test modules + 1 ≤ count_by (step test) modules = grows test (step test) modules (step-kept test) more in
        decide n (step test) (step-sound test sound) (omega arith)
    | inr closed ↦ done test sound closed
  ]

  from_root : (reached : List Bool) × AreReached modules (Some root) reached
  unfolding Decision Sound
  from_root =
      let d : Decision = decide (length modules) (λ m. false) (λ n among h. cc) (omega arith) in
      (map d.0 modules, AllZip-map (λ m is_reached. IsTrue is_reached ↔ Reached modules (Some root) m) d.0 modules d.1)

-- which modules are reached can be told
pub told : (modules : List Module) (root : Option (List ℕ)) → (reached : List Bool) × AreReached modules root reached
told modules None = (map (λ m. true) modules, AllZip-map (λ m is_reached. IsTrue is_reached ↔ Reached modules None m) (λ m. true) modules (λ m among. (λ h. every refl, λ r. refl)))
told modules (Some root) = from_root modules root
