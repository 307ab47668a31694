-- Where an element stands in blocks.
use Rattle.std.specs.Prelude.{ℕ, ◌<◌, zero, suc, Bool, true, List, [], ◌∷◌, length, take, All}
use Rattle.std.specs.Global.{Vec}
use Rattle.std.specs.declared.cmp.Ordering.{Ordering}
use Rattle.nf_blocks.specs.inner.Flat.{flat, AreBlocks}

-- whether a list is empty or its last element passes
abbrev pub last_passes : {T : Type 0} → (T → Bool) → List T → Bool
last_passes p [] = true
last_passes p (x ∷ []) = p x
last_passes p (x ∷ y ∷ ys) = last_passes p (y ∷ ys)

-- the elements of a block, none where there is no such block
abbrev pub items_at : {T : Type 0} → List (Vec T) → ℕ → List T
items_at [] n = []
items_at (block ∷ blocks) zero = block.items
items_at (block ∷ blocks) (suc n) = items_at blocks n

-- how many elements stand before a block
abbrev pub start_of : {T : Type 0} → List (Vec T) → ℕ → ℕ
start_of blocks at = length (flat (take at blocks))

-- no block is empty
abbrev pub AreFilled : {T : Type 0} → List (Vec T) → Type 0
AreFilled blocks = All (λ b. 0 < length b.items) blocks

-- blocks that hold a sorted list; none of them is empty
abbrev pub AreSorted : {T : Type 0} → (T → T → Ordering) → List (Vec T) → Type 0
AreSorted order blocks = AreBlocks order blocks (length (flat blocks))
