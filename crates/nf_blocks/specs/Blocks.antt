-- Sorted lists in which each element stands once, whatever the order.
use Rattle.std.specs.Prelude.{Bool, List}
use Rattle.std.specs.declared.cmp.Ordering.{Ordering}
use Rattle.std.specs.List.{list_any}
use Rattle.std.specs.BTreeMap.{is_at}
use Rattle.std.specs.Set.{remove_key}

module _ {T : Type 0} (order : T → T → Ordering) where
  -- whether an element, or one that the order takes for equal, is in a list
  abbrev pub has : List T → T → Bool
  has xs x = list_any (is_at (order x)) xs

  -- the list without an element
  abbrev pub removed : T → List T → List T
  removed x xs = remove_key (is_at (order x)) xs
