-- What a search of modules by their places does.
use Rattle.std.specs.Prelude.{◌≡◌, ◌⊎◌, ◌+◌, ℕ, Bool, true, false, not, List, Option, Some, slice_index_or, Contains, IfSome, length, ◌<◌, slice_get, count_by}
use Rattle.nf_core.specs.declared.trees.Module.{Module}
use Rattle.nf_modules.specs.declared.search.Search.{Search}

-- the module at a place is marked as reached
abbrev pub IsMarked : List Bool → ℕ → Type 0
IsMarked reached place = slice_index_or reached place false ≡ true

-- one of these names is that of the module at a place
abbrev pub IsPlaceOf : (List ℕ → Option ℕ) → List (List ℕ) → ℕ → Type 0
IsPlaceOf number names place = (name : List ℕ) × Contains names name × (number name ≡ Some place)

-- each number that a name has is the place of a module of the search
abbrev pub AreWithin : (List ℕ → Option ℕ) → Search → Type 0
AreWithin number search = (name : List ℕ) → IfSome (number name) (λ place. place < length search.reached.items)

-- how much is left to do: the modules that aren't marked, and those whose imports aren't
abbrev pub left_in : Search → ℕ
left_in search = count_by not search.reached.items + length search.open.items

-- a search marks exactly the places with P besides those that were marked, and the new ones are open
pub record Marks (old new : Search) (P : ℕ → Type 0) : Type 0 where
  pub stay : (i : ℕ) → IsMarked old.reached.items i → IsMarked new.reached.items i
  pub every : (i : ℕ) → P i → IsMarked new.reached.items i
  pub fresh : (i : ℕ) → IsMarked new.reached.items i → IsMarked old.reached.items i ⊎ (P i × Contains new.open.items i)
  pub waits : (i : ℕ) → Contains old.open.items i → Contains new.open.items i
  pub open_marked : (i : ℕ) → Contains new.open.items i → Contains old.open.items i ⊎ IsMarked new.reached.items i
  pub long : length new.reached.items ≡ length old.reached.items
  pub left : left_in new ≡ left_in old

-- a search marks the modules that the one at a place imports
abbrev pub MarksImports : (List ℕ → Option ℕ) → List Module → ℕ → Search → Search → Type 0
MarksImports number modules place old new = (m : Module) × (slice_get modules place ≡ Some m) × Marks old new (IsPlaceOf number m.imports)
