-- Lists in blocks.
use Rattle.std.specs.Prelude.{◌≡◌, ℕ, ◌<◌, List, [], ◌∷◌, ◌++◌, length, All}
use Rattle.std.specs.declared.cmp.Ordering.{Ordering}
use Rattle.std.specs.List.Sorted.{IsStrictlySortedBy}
use Rattle.std.specs.Global.{Vec}

-- the elements of all blocks, one block after the other
abbrev pub flat : {T : Type 0} → List (Vec T) → List T
flat [] = []
flat (block ∷ blocks) = block.items ++ flat blocks

-- blocks that hold a sorted list of so many elements; none of them is empty
pub record AreBlocks {T : Type 0} (order : T → T → Ordering) (blocks : List (Vec T)) (count : ℕ) : Type 0 where
  pub sorted : IsStrictlySortedBy order (flat blocks)
  pub filled : All (λ b. 0 < length b.items) blocks
  pub counted : count ≡ length (flat blocks)
