-- The number of a name leads to its keys and its level in the plan.
use Rattle.std.proofs.Common.{◌≡◌, ℕ, ◌<◌, List, [], ◌∷◌, length, map, Contains, unwrap_or, ap, ◌∙◌}
use Rattle.std.specs.List.{AllByRecursion}
use Rattle.std.proofs.lemmas.List.{get_or-map}
use Rattle.std.proofs.lemmas.Simd.{map-map}
use Rattle.nf_core.specs.Plan.{Plan, keys_of, level_of, second_name, joined_name, widths_of_names}
use Rattle.nf_core.specs.Trees.{atoms_of}
use Rattle.nf_core.specs.Written.{Levels, names_of, keys_of_name, place_of, first_of, link_of, level_of_name, plan_of}
use Rattle.nf_core.specs.declared.trees.Atom.{Atom}
use Rattle.nf_core.specs.declared.trees.Body.{Body}
use Rattle.nf_core.specs.declared.trees.Body.TheVariants as body
use Rattle.nf_core.specs.declared.trees.Rule.{Rule}
use Rattle.nf_core.proofs.Public.EachOnceLemmas.{place_of-lt, get_or-place_of}
use Rattle.nf_core.proofs.MemberLemmas.{result_atoms}

module _ (rules : List Rule) (levels : Levels) where
  abbrev names : List (List ℕ)
  names = names_of rules

  abbrev plan : Plan
  plan = plan_of rules levels

  abbrev level : List ℕ → ℕ
  level name = unwrap_or (level_of_name levels name) 0

  pub keys-place_of : (name : List ℕ) → Contains names name → keys_of plan (place_of names name) ≡ keys_of_name rules name
  keys-place_of name there =
      get_or-map (keys_of_name rules) names (place_of names name) [] [] (place_of-lt names name there) ∙ ap (keys_of_name rules) (get_or-place_of names name there [])

  pub level-place_of : (name : List ℕ) → Contains names name → level_of plan (place_of names name) ≡ level name
  level-place_of name there =
      get_or-map level names (place_of names name) [] 0 (place_of-lt names name there) ∙ ap level (get_or-place_of names name there [])

  abbrev pub names_at : Body → List (List ℕ)
  names_at b = map (λ (atom : Atom). atom.name) (atoms_of b)

  abbrev pub numbers_at : Body → List ℕ
  numbers_at b = first_of rules b ∷ second_name (link_of rules b)

  pub within_at : (b : Body) → AllByRecursion (Contains names) (names_at b) → AllByRecursion (λ n. n < length names) (numbers_at b)
  within_at (body.One first) h = (place_of-lt names first.name h.0, tt)
  within_at (body.Pair first op second) h = (place_of-lt names first.name h.0, (place_of-lt names second.name h.1.0, tt))
  within_at (body.Unless first xop second) h = (place_of-lt names first.name h.0, (place_of-lt names second.name h.1.0, tt))

  -- what is read at the numbers of a body, where it is known at the number of each name
  module _ (f : ℕ → ℕ) (g : List ℕ → ℕ) (each : (name : List ℕ) → Contains names name → f (place_of names name) ≡ g name) where
    pub map-numbers_at : (b : Body) → AllByRecursion (Contains names) (names_at b) → map f (numbers_at b) ≡ map g (names_at b)
    map-numbers_at (body.One first) h = λ i. each first.name h.0 i ∷ []
    map-numbers_at (body.Pair first op second) h = λ i. each first.name h.0 i ∷ each second.name h.1.0 i ∷ []
    map-numbers_at (body.Unless first xop second) h = λ i. each first.name h.0 i ∷ each second.name h.1.0 i ∷ []

    map-result_numbers : (b : Body) → AllByRecursion (Contains names) (names_at b) → map f (first_of rules b ∷ joined_name (link_of rules b)) ≡ map (λ (atom : Atom). g atom.name) (result_atoms b)
    map-result_numbers (body.One first) h = λ i. each first.name h.0 i ∷ []
    map-result_numbers (body.Pair first op second) h = λ i. each first.name h.0 i ∷ each second.name h.1.0 i ∷ []
    map-result_numbers (body.Unless first xop second) h = λ i. each first.name h.0 i ∷ []

  abbrev key_count : List ℕ → ℕ
  key_count name = length (keys_of_name rules name)

  -- how many keys the names of a body have, and those of the members that a result is made of
  pub widths_at : (b : Body) → AllByRecursion (Contains names) (names_at b) → widths_of_names plan (numbers_at b) ≡ map (λ (atom : Atom). key_count atom.name) (atoms_of b)
  widths_at b h =
      map-numbers_at (λ n. length (keys_of plan n)) key_count (λ name there. ap length (keys-place_of name there)) b h ∙ map-map key_count (λ (atom : Atom). atom.name) (atoms_of b)

  pub result_widths_at : (b : Body) → AllByRecursion (Contains names) (names_at b) → widths_of_names plan (first_of rules b ∷ joined_name (link_of rules b)) ≡ map (λ (atom : Atom). key_count atom.name) (result_atoms b)
  result_widths_at b h = map-result_numbers (λ n. length (keys_of plan n)) key_count (λ name there. ap length (keys-place_of name there)) b h
