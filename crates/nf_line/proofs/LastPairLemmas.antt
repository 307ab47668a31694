-- The last pair with a key.
use Rattle.std.proofs.Common.{◌≡◌, ℕ, Bool, true, false, cond, List, [], ◌∷◌, ◌++◌, reverse, refl, sym, ap, ◌∙◌, Option, Some, None, bytes_eq}
use Rattle.std.specs.List.{list_all}
use Rattle.std.specs.Map.{lookup}
use Rattle.std.specs.Option.{option_or, IfSome}
use Rattle.std.proofs.lemmas.Bool.{and_parts}
use Rattle.std.proofs.lemmas.Grind.{reverse_onto}

-- the value of the last of some pairs with a key, or else the one that was found before
abbrev pub last_from : List ℕ → Option (List ℕ) → List (List ℕ × List ℕ) → Option (List ℕ)
last_from key last [] = last
last_from key last (pair ∷ pairs) = last_from key (cond (bytes_eq key pair.0) (Some pair.1) last) pairs

module _ (key : List ℕ) where
  or_here : (found : Option (List ℕ)) (here : Bool) (value : List ℕ) (last : Option (List ℕ)) → option_or found (cond here (Some value) last) ≡ option_or (option_or found (cond here (Some value) None)) last
  or_here None true value last = refl
  or_here None false value last = refl
  or_here (Some v) true value last = refl
  or_here (Some v) false value last = refl

  or_none : (found : Option (List ℕ)) → option_or found None ≡ found
  or_none None = refl
  or_none (Some v) = refl

  lookup-append : (xs : List (List ℕ × List ℕ)) (pair : List ℕ × List ℕ) → lookup (bytes_eq key) (xs ++ pair ∷ []) ≡ option_or (lookup (bytes_eq key) xs) (cond (bytes_eq key pair.0) (Some pair.1) None)
  lookup-append [] pair = refl
  lookup-append (x ∷ xs) pair = here (lookup-append xs pair) (bytes_eq key x.0)
    where
      here : lookup (bytes_eq key) (xs ++ pair ∷ []) ≡ option_or (lookup (bytes_eq key) xs) (cond (bytes_eq key pair.0) (Some pair.1) None) → (b : Bool) → cond b (Some x.1) (lookup (bytes_eq key) (xs ++ pair ∷ [])) ≡ option_or (cond b (Some x.1) (lookup (bytes_eq key) xs)) (cond (bytes_eq key pair.0) (Some pair.1) None)
      here later true = refl
      here later false = later

  last_is : (pairs : List (List ℕ × List ℕ)) (last : Option (List ℕ)) → last_from key last pairs ≡ option_or (lookup (bytes_eq key) (reverse pairs)) last
  last_is [] last = refl
  last_is (pair ∷ pairs) last =
      last_is pairs (cond (bytes_eq key pair.0) (Some pair.1) last)
      ∙ or_here (lookup (bytes_eq key) (reverse pairs)) (bytes_eq key pair.0) pair.1 last
      ∙ ap (λ found. option_or found last) (sym (lookup-append (reverse pairs) pair) ∙ ap (lookup (bytes_eq key)) (sym (reverse_onto pairs pair [])))

  -- the value of the last pair with a key is the first from behind
  pub last_looked_up : (pairs : List (List ℕ × List ℕ)) → last_from key None pairs ≡ lookup (bytes_eq key) (reverse pairs)
  last_looked_up pairs = last_is pairs None ∙ or_none (lookup (bytes_eq key) (reverse pairs))

  -- what holds of each value holds of the one that is found
  pub last_holds : (test : List ℕ → Bool) (pairs : List (List ℕ × List ℕ)) (last : Option (List ℕ)) → list_all (λ (pair : List ℕ × List ℕ). test pair.1) pairs ≡ true
      → IfSome last (λ value. test value ≡ true) → IfSome (last_from key last pairs) (λ value. test value ≡ true)
  last_holds test [] last h l = l
  last_holds test (pair ∷ pairs) last h l =
      let parts = and_parts (test pair.1) (list_all (λ (pair : List ℕ × List ℕ). test pair.1) pairs) h in
      last_holds test pairs (cond (bytes_eq key pair.0) (Some pair.1) last) parts.1 (here (bytes_eq key pair.0) parts.0)
    where
      here : (b : Bool) → test pair.1 ≡ true → IfSome (cond b (Some pair.1) last) (λ value. test value ≡ true)
      here true is = is
      here false is = l
