-- Whether one name depends on another can be told, by the names that a walk may go through.
use Rattle.std.proofs.Common.{◌≡◌, ℕ, suc, Bool, true, false, ◌&&◌, ◌||◌, List, [], ◌∷◌, map, take, slice_get, Some, All, Contains, bytes_eq, refl, sym, ap, subst, ◌∙◌, ◌⊎◌, inl, inr, true≢false, arith}
use Rattle.std.specs.List.{list_any}
use Rattle.std.specs.Cmp.Lexicographic.{nat_list_eq_equiv}
use Rattle.std.proofs.lemmas.Bool.{and_from, or_left, or_right}
use Rattle.std.proofs.lemmas.List.Elements.{All-nil, All-cons}
use Rattle.nf_core.specs.Trees.{Rule}
use Rattle.nf_core.specs.Written.{names_of, names_below}
use Rattle.nf_core.proofs.Public.EachOnceLemmas.{same}
use Rattle.nf_order.specs.Dependence.{Walk, Reads, DependsOn, IsAcyclic, IsFirstCycle}
use Rattle.nf_order.specs.Dependence.Walk.{Last, More}
use Rattle.nf_order.proofs.ListLemmas.{Contains-cases, Contains-first, Contains-later}
use Rattle.nf_order.proofs.WalkLemmas.{below_from_reads, reads_from_below, read_known}

or_cases : (x y : Bool) → (x || y) ≡ true → (x ≡ true) ⊎ (y ≡ true)
or_cases true y h = inl refl
or_cases false y h = inr h

and_both : (x y : Bool) → (x && y) ≡ true → (x ≡ true) × (y ≡ true)
and_both true y h = (refl, h)
and_both false y h = absurd (true≢false (sym h))

any_from : (xs : List (List ℕ)) (x : List ℕ) → Contains xs x → list_any (bytes_eq x) xs ≡ true
any_from [] x h = absurd (omega (arith, h.1))
any_from (y ∷ ys) x h = elim (Contains-cases y ys x h) [
  | inl is ↦ or_left (bytes_eq x y) (list_any (bytes_eq x) ys) (ap (bytes_eq x) is ∙ nat_list_eq_equiv.refl x)
  | inr c ↦ or_right (bytes_eq x y) (list_any (bytes_eq x) ys) (any_from ys x c)
]

any_to : (xs : List (List ℕ)) (x : List ℕ) → list_any (bytes_eq x) xs ≡ true → Contains xs x
any_to [] x h = absurd (true≢false (sym h))
any_to (y ∷ ys) x h = elim (or_cases (bytes_eq x y) (list_any (bytes_eq x) ys) h) [
  | inl e ↦ subst (Contains (y ∷ ys)) (sym (same x y e)) (Contains-first y ys)
  | inr e ↦ Contains-later y ys x (any_to ys x e)
]

-- a walk and then another one
pub walk_join : {A : Type 0} (R : A → A → Type 0) (x y z : A) → Walk R x y → Walk R y z → Walk R x z
walk_join R _ _ z (Last x y step) next = More x y z step next
walk_join R _ _ z (More x w y step rest) next = More x w z step (walk_join R w y z rest next)

module _ (rules : List Rule) where
  -- whether a walk leads from one name to the other through some names alone
  abbrev walks : List (List ℕ) → List ℕ → List ℕ → Bool
  walks [] a b = list_any (bytes_eq b) (names_below rules a)
  walks (v ∷ vs) a b = walks vs a b || (walks vs a v && walks vs v b)

  walks_sound : (vs : List (List ℕ)) (a b : List ℕ) → walks vs a b ≡ true → DependsOn rules a b
  walks_sound [] a b e = Last a b (reads_from_below rules a b (any_to (names_below rules a) b e))
  walks_sound (v ∷ vs) a b e = elim (or_cases (walks vs a b) (walks vs a v && walks vs v b) e) [
    | inl direct ↦ walks_sound vs a b direct
    | inr by_v ↦ let parts = and_both (walks vs a v) (walks vs v b) by_v in walk_join (Reads rules) a v b (walks_sound vs a v parts.0) (walks_sound vs v b parts.1)
  ]

  direct_walks : (vs : List (List ℕ)) (a b : List ℕ) → walks [] a b ≡ true → walks vs a b ≡ true
  direct_walks [] a b e = e
  direct_walks (v ∷ vs) a b e = or_left (walks vs a b) (walks vs a v && walks vs v b) (direct_walks vs a b e)

  by_way : (v : List ℕ) (vs : List (List ℕ)) (a b : List ℕ) → walks vs a v ≡ true → walks vs v b ≡ true → walks (v ∷ vs) a b ≡ true
  by_way v vs a b first then = or_right (walks vs a b) (walks vs a v && walks vs v b) (and_from (walks vs a v) (walks vs v b) first then)

  -- how a walk comes to its end: directly, or by one name more
  ways : (v : List ℕ) (vs : List (List ℕ)) (a b : List ℕ) → walks (v ∷ vs) a b ≡ true → (walks vs a b ≡ true) ⊎ ((walks vs a v ≡ true) × (walks vs v b ≡ true))
  ways v vs a b e = elim (or_cases (walks vs a b) (walks vs a v && walks vs v b) e) [ inl direct ↦ inl direct | inr by_v ↦ inr (and_both (walks vs a v) (walks vs v b) by_v) ]

  to_last : (v : List ℕ) (vs : List (List ℕ)) (a : List ℕ) → walks (v ∷ vs) a v ≡ true → walks vs a v ≡ true
  to_last v vs a e = elim (ways v vs a v e) [ inl direct ↦ direct | inr by_v ↦ by_v.0 ]

  from_last : (v : List ℕ) (vs : List (List ℕ)) (b : List ℕ) → walks (v ∷ vs) v b ≡ true → walks vs v b ≡ true
  from_last v vs b e = elim (ways v vs v b e) [ inl direct ↦ direct | inr by_v ↦ by_v.1 ]

  -- two walks meet in a name that they may go through
  meet : (vs : List (List ℕ)) (m a b : List ℕ) → Contains vs m → walks vs a m ≡ true → walks vs m b ≡ true → walks vs a b ≡ true
  meet [] m a b there first then = absurd (omega (arith, there.1))
  meet (v ∷ vs) m a b there first then = at (Contains-cases v vs m there) (meet vs) (ways v vs a m first) (ways v vs m b then)
    where
      at : (v ≡ m) ⊎ Contains vs m → ((n x y : List ℕ) → Contains vs n → walks vs x n ≡ true → walks vs n y ≡ true → walks vs x y ≡ true)
          → (walks vs a m ≡ true) ⊎ ((walks vs a v ≡ true) × (walks vs v m ≡ true)) → (walks vs m b ≡ true) ⊎ ((walks vs m v ≡ true) × (walks vs v b ≡ true)) → walks (v ∷ vs) a b ≡ true
      at (inl is) shorter to from =
          by_way v vs a b (to_last v vs a (subst (λ n. walks (v ∷ vs) a n ≡ true) (sym is) first)) (from_last v vs b (subst (λ n. walks (v ∷ vs) n b ≡ true) (sym is) then))
      at (inr c) shorter (inl to) (inl from) = or_left (walks vs a b) (walks vs a v && walks vs v b) (shorter m a b c to from)
      at (inr c) shorter (inl to) (inr from) = by_way v vs a b (shorter m a v c to from.0) from.1
      at (inr c) shorter (inr to) (inl from) = by_way v vs a b to.0 (shorter m v b c to.1 from)
      at (inr c) shorter (inr to) (inr from) = by_way v vs a b to.0 from.1

  -- whether one name depends on another
  abbrev pub depends : List ℕ → List ℕ → Bool
  depends = walks (names_of rules)

  pub depends_sound : (a b : List ℕ) → depends a b ≡ true → DependsOn rules a b
  depends_sound = walks_sound (names_of rules)

  one_step : (a b : List ℕ) → Reads rules a b → depends a b ≡ true
  one_step a b reads = direct_walks (names_of rules) a b (any_from (names_below rules a) b (below_from_reads rules a b reads))

  pub depends_complete : (a b : List ℕ) → DependsOn rules a b → depends a b ≡ true
  depends_complete _ _ (Last a b reads) = one_step a b reads
  depends_complete _ _ (More a m b reads rest) = meet (names_of rules) m a b (read_known rules a m reads).1 (one_step a m reads) (depends_complete m b rest)

  pub decided : (a b : List ℕ) → DependsOn rules a b ⊎ ¬ DependsOn rules a b
  decided a b = by (depends a b) refl
    where
      by : (t : Bool) → depends a b ≡ t → DependsOn rules a b ⊎ ¬ DependsOn rules a b
      by true e = inl (depends_sound a b e)
      by false e = inr (λ w. true≢false (sym (depends_complete a b w) ∙ e))

-- the first item that has a property, where it can be told which have it
module _ {A B : Type 0} (f : A → B) (P : A → Type 0) (tell : (x : A) → P x ⊎ ¬ P x) where
  abbrev First : List A → Type 0
  First xs = (k : ℕ) × (x : A) × (slice_get (map f xs) k ≡ Some (f x)) × (P x) × All (λ y. ¬ P y) (take k xs)

  first_one : (xs : List A) → All (λ y. ¬ P y) xs ⊎ First xs
  first_one [] = inl (All-nil (λ y. ¬ P y))
  first_one (x ∷ xs) = by (tell x) (first_one xs)
    where
      by : P x ⊎ ¬ P x → All (λ y. ¬ P y) xs ⊎ First xs → All (λ y. ¬ P y) (x ∷ xs) ⊎ First (x ∷ xs)
      by (inl has) rest = inr (0, x, refl, has, All-nil (λ y. ¬ P y))
      by (inr never) (inl all) = inl (All-cons (λ y. ¬ P y) x xs never all)
      by (inr never) (inr r) = inr (suc r.0, r.1, r.2, r.3, All-cons (λ y. ¬ P y) x (take r.0 xs) never r.4)

-- no head depends on itself, or there is a first one that does
pub acyclic_or_cycle : (rules : List Rule) → IsAcyclic rules ⊎ ((name : List ℕ) × IsFirstCycle rules name)
acyclic_or_cycle rules = elim (first_one (λ (rule : Rule). rule.head) (λ (rule : Rule). DependsOn rules rule.head rule.head) (λ (rule : Rule). decided rules rule.head rule.head) rules) [
  | inl all ↦ inl all
  | inr r ↦ inr (r.1.head, record { place = r.0; head = r.2; cycle = r.3; first = r.4 })
]
