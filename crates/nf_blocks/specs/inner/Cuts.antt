-- Which elements are before a cut, and where it stands in blocks.
use Rattle.std.specs.Prelude.{◌≡◌, ℕ, ◌+◌, ◌≤◌, Bool, true, false, not, List, length, take, drop}
use Rattle.std.specs.declared.cmp.Ordering.{Ordering}
use Rattle.std.specs.Ordering.{is_gt, is_lt}
use Rattle.std.specs.List.{AllByRecursion}
use Rattle.std.specs.Global.{Vec}
use Rattle.nf_blocks.specs.inner.Flat.{flat}
use Rattle.nf_blocks.specs.inner.Places.{items_at, start_of}
use Rattle.nf_blocks.specs.declared.cuts.Cut.{Cut}
use Rattle.nf_blocks.specs.declared.cuts.Cut.TheVariants.{First, Before, Behind, Last}
use Rattle.nf_blocks.specs.declared.cuts.Place.{Place}

-- whether an element is before a cut
abbrev pub is_left : {T : Type 0} → (T → T → Ordering) → Cut T → T → Bool
is_left order First x = false
is_left order (Before v) x = is_gt (order v.now x)
is_left order (Behind v) x = not (is_lt (order v.now x))
is_left order Last x = true

-- how many elements stand before a place
abbrev pub index_of : {T : Type 0} → List (Vec T) → Place → ℕ
index_of blocks place = start_of blocks place.block + place.within

-- the first elements of a list pass, so many of them, and no other does
pub record IsCut {T : Type 0} (p : T → Bool) (xs : List T) (n : ℕ) : Type 0 where
  pub left : AllByRecursion (λ x. p x ≡ true) (take n xs)
  pub right : AllByRecursion (λ x. p x ≡ false) (drop n xs)
  pub bound : n ≤ length xs

-- the place before which the elements pass; at the end of no block
pub record IsPlace {T : Type 0} (p : T → Bool) (blocks : List (Vec T)) (place : Place) : Type 0 where
  pub cut : IsCut p (flat blocks) (index_of blocks place)
  pub past : length (items_at blocks place.block) ≤ place.within → length (flat blocks) ≤ index_of blocks place
