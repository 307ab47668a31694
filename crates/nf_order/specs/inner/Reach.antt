-- How far the search for a cycle through one number has come.
use Rattle.std.specs.Prelude.{◌≡◌, ◌⊎◌, ℕ, ◌+◌, ◌*◌, ◌<◌, ◌≤◌, Bool, false, not, List, length, slice_index_or, count_by, All, Contains, IsTrue}
use Rattle.nf_order.specs.Dependence.{Walk}
use Rattle.nf_order.specs.inner.Graph.{below_of, IsAbove}

-- whether a number is flagged
abbrev pub IsFlagged : List Bool → ℕ → Type 0
IsFlagged flags n = IsTrue (slice_index_or flags n false)

-- no flagged number is on a cycle
abbrev pub AreOff : List (List ℕ) → List Bool → Type 0
AreOff below off = (n : ℕ) → IsFlagged off n → ¬ Walk (IsAbove below) n n

-- what is left to do
abbrev pub to_see : List Bool → List ℕ → ℕ
to_see seen stack = 2 * count_by not seen + length stack

-- the numbers that are to be seen are flagged, and those that weren't are put on the stack
pub record AreSeen (ns : List ℕ) (wanted : List ℕ) (old new : List Bool) (before after : List ℕ) : Type 0 where
  pub each : length new ≡ length old
  pub kept : (n : ℕ) → IsFlagged old n → IsFlagged new n
  pub fresh : (n : ℕ) → IsFlagged new n → IsFlagged old n ⊎ (Contains ns n × Contains after n)
  pub pending : (n : ℕ) → Contains before n → Contains after n
  pub added : (n : ℕ) → Contains after n → Contains before n ⊎ Contains ns n
  pub all : All (IsFlagged new) wanted
  pub less : to_see new after ≤ to_see old before

-- what was seen is off every cycle or is reached from the start; what was reached is off every cycle, is still on the stack, or has seen what is below it
pub record IsReach (below : List (List ℕ)) (off : List Bool) (start : ℕ) (seen : List Bool) (stack : List ℕ) : Type 0 where
  pub each : length seen ≡ length below
  pub reached : (n : ℕ) → IsFlagged seen n → IsFlagged off n ⊎ Walk (IsAbove below) start n
  pub from : (n : ℕ) → Contains stack n → (n ≡ start) ⊎ Walk (IsAbove below) start n
  pub within : (n : ℕ) → Contains stack n → n < length below
  pub closed : (n : ℕ) → (n ≡ start) ⊎ IsFlagged seen n → (IsFlagged off n ⊎ Contains stack n) ⊎ All (IsFlagged seen) (below_of below n)
