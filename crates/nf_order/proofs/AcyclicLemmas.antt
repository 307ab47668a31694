-- Rules without a cycle have levels.
use Rattle.std.proofs.Common.{◌≡◌, ℕ, zero, suc, ◌<◌, ◌≤◌, Bool, true, false, cond, List, [], ◌∷◌, length, get_or, map, Contains, bytes_eq, unwrap_or, Some, refl, sym, ap, subst, ◌∙◌, ◌⊎◌, inl, inr, true≢false, arith}
use Rattle.std.specs.List.{count_by}
use Rattle.std.specs.Map.{lookup}
use Rattle.std.specs.Cmp.Lexicographic.{nat_list_eq_equiv}
use Rattle.std.proofs.lemmas.List.Elements.{All-contains, Contains-get_or}
use Rattle.std.proofs.lemmas.List.Sums.{count_by-le-length}
use Rattle.nf_core.specs.Plan.{greatest}
use Rattle.nf_core.specs.Trees.{Rule}
use Rattle.nf_core.specs.Written.{Levels, names_of, names_below, place_of, level_of_name, AreLevels}
use Rattle.nf_core.proofs.Public.EachOnceLemmas.{same, place_of-lt, get_or-place_of}
use Rattle.nf_order.specs.Dependence.{Reads, DependsOn, IsAcyclic, IsFirstCycle}
use Rattle.nf_order.specs.Dependence.Walk.{Last, More}
use Rattle.nf_order.proofs.CountLemmas.{fewer}
use Rattle.nf_order.proofs.DecisionLemmas.{depends, depends_sound, depends_complete, acyclic_or_cycle}
use Rattle.nf_order.proofs.ListLemmas.{Contains-cases, Contains-first, map_alike}
use Rattle.nf_order.proofs.CycleLemmas.{head_of}
use Rattle.nf_order.proofs.WalkLemmas.{reads_from_below, read_known}

-- names with what a function gives them
module _ (f : List ℕ → ℕ) where
  abbrev pair : List ℕ → List ℕ × ℕ
  pair name = (name, f name)

  names-pairs : (names : List (List ℕ)) → map (λ (l : List ℕ × ℕ). l.0) (map pair names) ≡ names
  names-pairs [] = refl
  names-pairs (n ∷ names) = ap (λ ns. n ∷ ns) (names-pairs names)

  lookup-pairs : (names : List (List ℕ)) (name : List ℕ) → Contains names name → lookup (bytes_eq name) (map pair names) ≡ Some (f name)
  lookup-pairs [] name h = absurd (omega (arith, h.1))
  lookup-pairs (n ∷ names) name h = by (bytes_eq name n) refl (Contains-cases n names name h) (lookup-pairs names name)
    where
      by : (b : Bool) → bytes_eq name n ≡ b → (n ≡ name) ⊎ Contains names name → (Contains names name → lookup (bytes_eq name) (map pair names) ≡ Some (f name)) → lookup (bytes_eq name) (map pair (n ∷ names)) ≡ Some (f name)
      by true e at rest = ap (λ b. cond b (Some (f n)) (lookup (bytes_eq name) (map pair names))) e ∙ ap (λ m. Some (f m)) (sym (same name n e))
      by false e (inl is) rest = absurd (true≢false (sym (ap (bytes_eq name) is ∙ nat_list_eq_equiv.refl name) ∙ e))
      by false e (inr there) rest = ap (λ b. cond b (Some (f n)) (lookup (bytes_eq name) (map pair names))) e ∙ rest there

nothing : (f : List ℕ → ℕ) (xs : List (List ℕ)) → ((x : List ℕ) → ¬ Contains xs x) → greatest (map f xs) ≡ 0
nothing f [] none = refl
nothing f (x ∷ xs) none = absurd (none x (Contains-first x xs))

module _ (rules : List Rule) where
  abbrev names : List (List ℕ)
  names = names_of rules

  -- a level of a name, by walks that are no longer than a bound
  abbrev level_within : ℕ → List ℕ → ℕ
  level_within zero name = 0
  level_within (suc k) name = greatest (map (λ below. suc (level_within k below)) (names_below rules name))

  -- how many names a name depends on
  abbrev measure : List ℕ → ℕ
  measure name = count_by (depends rules name) names

  module _ (acyclic : IsAcyclic rules) where
    not_itself : (name : List ℕ) → ¬ DependsOn rules name name
    not_itself name w =
        let r = head_of rules name name w in
        All-contains (λ (rule : Rule). ¬ DependsOn rules rule.head rule.head) rules r.0 acyclic r.1 (subst (λ t. DependsOn rules t t) (sym r.2) w)

    not_depends : (b : Bool) (name : List ℕ) → depends rules name name ≡ b → depends rules name name ≡ false
    not_depends true name e = absurd (not_itself name (depends_sound rules name name e))
    not_depends false name e = e

    -- what is below a name depends on fewer names
    lower : (name below : List ℕ) → Contains (names_below rules name) below → measure below < measure name
    lower name below there =
        let reads : Reads rules name below = reads_from_below rules name below there in
        let known : Contains names below = (read_known rules name below reads).1 in
        let place : ℕ = place_of names below in
        let at : get_or names place [] ≡ below = get_or-place_of names below known [] in
        fewer (depends rules below) (depends rules name) [] [] names names refl
        (λ k h e. depends_complete rules name (get_or names k []) (More name below (get_or names k []) reads (depends_sound rules below (get_or names k []) e)))
        place (place_of-lt names below known)
        (ap (depends rules below) at ∙ not_depends (depends rules below below) below refl)
        (ap (depends rules name) at ∙ depends_complete rules name below (Last name below reads))

    -- a bound that is high enough changes nothing
    enough : (k j : ℕ) (name : List ℕ) → measure name ≤ k → measure name ≤ j → level_within k name ≡ level_within j name
    enough zero zero name h g = refl
    enough zero (suc j) name h g = sym (nothing (λ below. suc (level_within j below)) (names_below rules name) (λ x there. omega (arith, h, lower name x there)))
    enough (suc k) zero name h g = nothing (λ below. suc (level_within k below)) (names_below rules name) (λ x there. omega (arith, g, lower name x there))
    enough (suc k) (suc j) name h g =
        ap greatest (map_alike (λ below. suc (level_within k below)) (λ below. suc (level_within j below)) (names_below rules name) (λ below there.
        let less : measure below < measure name = lower name below there in
        ap suc (enough k j below (omega (arith, h, less)) (omega (arith, g, less)))))

    abbrev level : List ℕ → ℕ
    level = level_within (length names)

    level_is : (name : List ℕ) → level name ≡ greatest (map (λ below. suc (level below)) (names_below rules name))
    level_is name =
        let few : measure name ≤ length names = count_by-le-length (depends rules name) names in
        enough (length names) (suc (length names)) name few (omega (arith, few))

    abbrev levels : Levels
    levels = map (pair level) names

    names-levels : map (λ (l : List ℕ × ℕ). l.0) levels ≡ names
    names-levels = names-pairs level names

    AreLevels-levels : AreLevels rules levels
    AreLevels-levels k d h =
        let name : List ℕ = get_or names k d in
        lookup-pairs level names name (Contains-get_or names k d h)
        ∙ ap Some (level_is name)
        ∙ ap (λ ns. Some (greatest ns)) (map_alike (λ below. suc (level below)) (λ below. suc (unwrap_or (level_of_name levels below) 0)) (names_below rules name) (λ below there.
        ap (λ o. suc (unwrap_or o 0)) (sym (lookup-pairs level names below (read_known rules name below (reads_from_below rules name below there)).1))))

-- rules have levels, or a first cycle
pub levels_or_cycle : (rules : List Rule) → ((levels : Levels) × (map (λ (l : List ℕ × ℕ). l.0) levels ≡ names_of rules) × AreLevels rules levels) ⊎ ((name : List ℕ) × IsFirstCycle rules name)
levels_or_cycle rules = elim (acyclic_or_cycle rules) [
  | inl acyclic ↦ inl (levels rules acyclic, names-levels rules acyclic, AreLevels-levels rules acyclic)
  | inr cycle ↦ inr cycle
]
