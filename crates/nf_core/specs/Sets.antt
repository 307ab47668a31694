-- Sorted lists of intervals, each once.
use Rattle.std.specs.Prelude.{Bool, List, [], fold}
use Rattle.std.specs.List.{list_any}
use Rattle.std.specs.List.Sorted.{IsStrictlySortedBy}
use Rattle.std.specs.BTreeSet.{insert_key}
use Rattle.std.specs.Set.{remove_key}
use Rattle.nf_core.specs.Intervals.{Interval, interval_cmp, same}

-- ascending, each once
abbrev pub IsSet : List Interval → Type 0
IsSet = IsStrictlySortedBy interval_cmp

-- whether an interval is in a list
abbrev pub has : List Interval → Interval → Bool
has is i = list_any (same i) is

-- the sorted list with an interval at its place, unless it is there
abbrev pub inserted : Interval → List Interval → List Interval
inserted i is = insert_key interval_cmp is i

-- the sorted list without an interval
abbrev pub removed : Interval → List Interval → List Interval
removed i is = remove_key (same i) is

-- the members of a list in ascending order, with repeats taken out
abbrev pub once : List Interval → List Interval
once is = fold (λ set i. inserted i set) [] is
