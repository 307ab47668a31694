-- Walks fall in level, so what has levels has no cycle, and there is one answer.
use Rattle.std.proofs.Common.{◌≡◌, ℕ, zero, suc, ◌<◌, ◌≤◌, List, get_or, map, Some, All, Contains, bytes_eq, unwrap_or, sym, ap, subst, ◌∙◌, inl, inr, arith, length-take}
use Rattle.std.specs.Cmp.Lexicographic.{nat_list_eq_equiv}
use Rattle.std.proofs.lemmas.Bool.{cases_lt}
use Rattle.std.proofs.lemmas.List.{get_or-take}
use Rattle.std.proofs.lemmas.List.Elements.{All-contains, Contains-get_or}
use Rattle.nf_core.specs.Plan.{greatest}
use Rattle.nf_core.specs.Trees.{Rule}
use Rattle.nf_core.specs.Written.{Levels, names_of, names_read, names_in, names_below, level_of_name, IsLevelOf, AreLevels}
use Rattle.nf_core.proofs.Public.EachOnceLemmas.{same}
use Rattle.nf_core.proofs.Public.NameLemmas.{Contains-names_of}
use Rattle.nf_lemmas.proofs.ListLemmas.{Contains-flat_map, Contains-map}
use Rattle.nf_order.specs.Dependence.{Walk, Reads, DependsOn, IsAcyclic, IsFirstCycle}
use Rattle.nf_order.specs.Dependence.Walk.{Last, More}
use Rattle.nf_order.proofs.ListLemmas.{Contains-first, Contains-later, Contains-passed, Contains-passed_from, map_alike, greatest-each, All-slice_get}

-- a walk by one relation is one by another, where each step is
pub walk_along : {A B : Type 0} (f : A → B) (R : A → A → Type 0) (S : B → B → Type 0) → ((x y : A) → R x y → S (f x) (f y)) → (x y : A) → Walk R x y → Walk S (f x) (f y)
walk_along f R S each _ _ (Last x y step) = Last (f x) (f y) (each x y step)
walk_along f R S each _ _ (More x z y step rest) = More (f x) (f z) (f y) (each x z step) (walk_along f R S each z y rest)

-- one step more at the end
pub walk_on : {A : Type 0} (R : A → A → Type 0) (x y z : A) → Walk R x y → R y z → Walk R x z
walk_on R _ _ z (Last x y step) next = More x y z step (Last y z next)
walk_on R _ _ z (More x w y step rest) next = More x w z step (walk_on R w y z rest next)

-- the names that a rule reads
abbrev pub names_read_by : Rule → List (List ℕ)
names_read_by rule = names_read rule.body

module _ (rules : List Rule) where
  pub below_from_reads : (head name : List ℕ) → Reads rules head name → Contains (names_below rules head) name
  below_from_reads head name (k, x, h, is, (e, c)) =
      Contains-passed names_read_by (λ (rule : Rule). bytes_eq rule.head head) rules x name (k, h, is) (ap (λ t. bytes_eq t head) e ∙ nat_list_eq_equiv.refl head) c

  pub reads_from_below : (head name : List ℕ) → Contains (names_below rules head) name → Reads rules head name
  reads_from_below head name c =
      let r = Contains-passed_from names_read_by (λ (rule : Rule). bytes_eq rule.head head) rules name c in
      (r.1.0, r.0, r.1.1, r.1.2, (same r.0.head head r.2, r.3))

  -- the names of a rule are names of the rules
  pub head_known : (rule : Rule) → Contains rules rule → Contains (names_of rules) rule.head
  head_known rule there = Contains-names_of rules rule.head (Contains-flat_map names_in rules rule rule.head there (Contains-first rule.head (names_read_by rule)))

  pub read_known : (head name : List ℕ) → Reads rules head name → Contains (names_of rules) head × Contains (names_of rules) name
  read_known head name (k, x, h, is, (e, c)) = (
    subst (Contains (names_of rules)) e (head_known x (k, h, is)),
    Contains-names_of rules name (Contains-flat_map names_in rules x name (k, h, is) (Contains-later x.head (names_read_by x) name c)),
  )

abbrev level : Levels → List ℕ → ℕ
level levels name = unwrap_or (level_of_name levels name) 0

module _ (rules : List Rule) (levels : Levels) (leveled : AreLevels rules levels) where
  level_is : (name : List ℕ) → Contains (names_of rules) name → level_of_name levels name ≡ Some (greatest (map (λ below. suc (level levels below)) (names_below rules name)))
  level_is name there = All-contains (IsLevelOf rules levels) (names_of rules) name leveled there

  -- a step falls in level
  falls : (head name : List ℕ) → Reads rules head name → level levels name < level levels head
  falls head name reads =
      let at : level levels head ≡ greatest (map (λ below. suc (level levels below)) (names_below rules head)) = ap (λ o. unwrap_or o 0) (level_is head (read_known rules head name reads).0) in
      let most : suc (level levels name) ≤ greatest (map (λ below. suc (level levels below)) (names_below rules head)) = greatest-each _ _ (Contains-map (λ below. suc (level levels below)) (names_below rules head) name (below_from_reads rules head name reads)) in
      omega arith

  -- and so does a walk
  walk_falls : (head name : List ℕ) → DependsOn rules head name → level levels name < level levels head
  walk_falls _ _ (Last head name reads) = falls head name reads
  walk_falls _ _ (More head between name reads rest) = omega (arith, falls head between reads, walk_falls between name rest)

  pub no_cycle : (name : List ℕ) → ¬ DependsOn rules name name
  no_cycle name walk = omega (arith, walk_falls name name walk)

  pub IsAcyclic-leveled : IsAcyclic rules
  IsAcyclic-leveled k d h = no_cycle (get_or rules k d).head

  pub no_first_cycle : (name : List ℕ) → ¬ IsFirstCycle rules name
  no_first_cycle name first = no_cycle name first.cycle

-- two levels of the same rules agree, by induction on a bound of the level
module _ (rules : List Rule) (a b : Levels) (of_a : AreLevels rules a) (of_b : AreLevels rules b) where
  agree : (k : ℕ) (name : List ℕ) → Contains (names_of rules) name → level a name < k → level_of_name a name ≡ level_of_name b name
  agree zero name there h = absurd (omega (arith, h))
  agree (suc k) name there h =
      level_is rules a of_a name there
      ∙ ap (λ ns. Some (greatest ns)) (map_alike (λ below. suc (level a below)) (λ below. suc (level b below)) (names_below rules name) (λ below c.
      let reads = reads_from_below rules name below c in
      let lower : level a below < level a name = falls rules a of_a name below reads in
      ap (λ o. suc (unwrap_or o 0)) (agree k below (read_known rules name below reads).1 (omega arith))))
      ∙ sym (level_is rules b of_b name there)

  pub levels_agree : All (λ name. level_of_name a name ≡ level_of_name b name) (names_of rules)
  levels_agree k d h = agree (suc (level a (get_or (names_of rules) k d))) (get_or (names_of rules) k d) (Contains-get_or (names_of rules) k d h) (omega arith)

-- there is one first cycle
module _ (rules : List Rule) where
  not_before : (a b : List ℕ) (first : IsFirstCycle rules a) (other : IsFirstCycle rules b) → ¬ (first.place < other.place)
  not_before a b first other h =
      All-slice_get (λ (rule : Rule). rule.head) (λ name. ¬ DependsOn rules name name) rules first.place other.place a first.head h (λ k d there within.
      subst (λ (rule : Rule). ¬ DependsOn rules rule.head rule.head) (get_or-take other.place rules k d within) (other.first k d (rw length-take (omega arith)))) first.cycle

  pub one_first_cycle : (a b : List ℕ) → IsFirstCycle rules a → IsFirstCycle rules b → a ≡ b
  one_first_cycle a b first other =
      let below : ¬ (first.place < other.place) = not_before a b first other in
      let above : ¬ (other.place < first.place) = not_before b a other first in
      let same_place : first.place ≡ other.place = elim (cases_lt first.place other.place) [ inl h ↦ absurd (below h) | inr h ↦ elim (cases_lt other.place first.place) [ inl l ↦ absurd (above l) | inr l ↦ omega arith ] ] in
      let heads = first.head in
      let others = other.head in
      cc
