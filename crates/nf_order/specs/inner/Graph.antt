-- By the numbers of names what their rules read.
use Rattle.std.specs.Prelude.{◌≡◌, ℕ, ◌<◌, Bool, true, false, count_by, List, [], ◌∷◌, length, map, slice_index_or, All, Contains}
use Rattle.nf_core.specs.Trees.{Rule}
use Rattle.nf_core.specs.Written.{names_of, names_below, place_of}

-- what stands below a number
abbrev pub below_of : List (List ℕ) → ℕ → List ℕ
below_of below n = slice_index_or below n []

-- whether there are numbers
abbrev pub is_filled : List ℕ → Bool
is_filled [] = false
is_filled (n ∷ ns) = true

-- how many names have names below them
abbrev pub heads : List (List ℕ) → ℕ
heads below = count_by is_filled below

-- one number has the other below it
abbrev pub IsAbove : List (List ℕ) → ℕ → ℕ → Type 0
IsAbove below n m = Contains (below_of below n) m

-- the numbers of the names in the bodies of a name's rules
abbrev pub numbers_below : List (List ℕ) → List Rule → List ℕ → List ℕ
numbers_below names rules name = map (place_of names) (names_below rules name)

-- the graph of some rules
abbrev pub graph_of : List Rule → List (List ℕ)
graph_of rules = map (numbers_below (names_of rules) rules) (names_of rules)

-- what stands below a number is a number of the graph
abbrev pub IsGraph : List (List ℕ) → Type 0
IsGraph below = All (All (λ m. m < length below)) below

-- one number is put below some others, and what stood there stays
pub record ArePut (ns : List ℕ) (number : ℕ) (old new : List (List ℕ)) : Type 0 where
  pub each : length new ≡ length old
  pub kept : (n m : ℕ) → IsAbove old n m → IsAbove new n m
  pub added : All (λ n. IsAbove new n number) ns
  pub within : (most : ℕ) → number < most → All (All (λ m. m < most)) old → All (All (λ m. m < most)) new

-- each step of a graph is one of the other, turned around
pub record IsReversed (below above : List (List ℕ)) : Type 0 where
  pub each : length above ≡ length below
  pub turned : (n m : ℕ) → IsAbove below n m → IsAbove above m n
