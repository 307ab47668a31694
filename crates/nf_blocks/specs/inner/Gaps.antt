-- Where an element that isn't in a sorted list would stand.
use Rattle.std.specs.Prelude.{◌≡◌, ℕ, ◌+◌, Bool, List, take, drop}
use Rattle.std.specs.Global.{Vec}
use Rattle.std.specs.List.{AllByRecursion}
use Rattle.std.specs.declared.cmp.Ordering.{Ordering}
use Rattle.std.specs.declared.cmp.Ordering.TheVariants.{Less}
use Rattle.std.specs.Ordering.{is_lt}
use Rattle.nf_blocks.specs.inner.Flat.{flat}
use Rattle.nf_blocks.specs.inner.Places.{last_passes}

-- whether the last element of a list is smaller
abbrev pub ends_before : {T : Type 0} → (T → T → Ordering) → T → List T → Bool
ends_before order x ys = last_passes (λ y. is_lt (order y x)) ys

-- the elements before a block are smaller, and those after it greater
pub record IsBlockOf {T : Type 0} (order : T → T → Ordering) (blocks : List (Vec T)) (x : T) (at : ℕ) : Type 0 where
  pub smaller : AllByRecursion (λ y. order y x ≡ Less) (flat (take at blocks))
  pub greater : AllByRecursion (λ y. order x y ≡ Less) (flat (drop (at + 1) blocks))
