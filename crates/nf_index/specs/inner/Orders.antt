-- The two orders of a store, and what ties them together.
use Rattle.std.specs.Prelude.{◌≡◌, ℕ, ◌+◌, Bool, true, false, cond, not, ◌&&◌, int_lt, List, [], ◌∷◌, ◌++◌, filter, Option, Some, None, ⊤}
use Rattle.std.specs.Prelude.{◌≤ℤ◌}
use Rattle.std.specs.declared.cmp.Ordering.{Ordering}
use Rattle.std.specs.Ordering.{ordering_then, int_cmp, is_eq, is_le}
use Rattle.std.specs.List.{list_any}
use Rattle.std.specs.List.Sorted.{IsPermutation}
use Rattle.std.specs.BTreeMap.{is_at}
use Rattle.nf_core.specs.Intervals.{Interval, interval_cmp}
use Rattle.nf_core.specs.Sets.{IsSet, has}
use Rattle.nf_core.specs.Texts.{int_least, int_greatest}
use Rattle.nf_index.specs.declared.times.Times.{Times}

-- the times of an interval
abbrev pub times_of : Interval → Times
times_of i = record { stop = i.stop; start = i.start }

-- by end, then by begin
abbrev pub times_cmp : Times → Times → Ordering
times_cmp t u = ordering_then (int_cmp t.stop u.stop) (int_cmp t.start u.start)

-- whether two times are the same
abbrev pub is_same_end : Times → Times → Bool
is_same_end t u = is_eq (times_cmp t u)

-- whether an interval has given times
abbrev pub has_times : Times → Interval → Bool
has_times t i = is_eq (times_cmp t (times_of i))

-- ---- parts of the order by begin
-- no interval with given times comes before this one
abbrev pub key_of : Times → Interval
key_of t = record { start = t.start; stop = t.stop; row = [] }

-- whether an interval is at or after a place, where None is after all
abbrev pub reached : Option Times → Interval → Bool
reached None i = false
reached (Some t) i = is_le (interval_cmp (key_of t) i)

-- whether an interval is between two places
abbrev pub is_between : (low high : Option Times) → Interval → Bool
is_between low high i = reached low i && not (reached high i)

-- each interval of a list comes before another one
abbrev pub AreBefore : List Interval → Interval → Type 0
AreBefore is key = (i : Interval) → has is i ≡ true → is_le (interval_cmp key i) ≡ false

-- a place has the times of an interval
abbrev pub IsPlace : Option Times → Type 0
IsPlace None = ⊤
IsPlace (Some t) = t.start ≤ℤ t.stop

-- ---- where ends fall
-- 1 where the first of two neighbours ends after the second
abbrev pub fall : Option Interval → Option Interval → ℕ
fall None after = 0
fall (Some i) None = 0
fall (Some i) (Some j) = cond (int_lt j.stop i.stop) 1 0

-- how often ends fall from one interval of a list to the next
unfoldable pub falls_from : Interval → List Interval → ℕ
falls_from i [] = 0
falls_from i (j ∷ js) = fall (Some i) (Some j) + falls_from j js

unfoldable pub falls : List Interval → ℕ
falls [] = 0
falls (i ∷ is) = falls_from i is

-- ---- a store
-- an interval's times are in order and fit
pub record IsStored (i : Interval) : Type 0 where
  pub in_time : i.start ≤ℤ i.stop
  pub least : int_least ≤ℤ i.start
  pub most : i.stop ≤ℤ int_greatest

-- each interval of a list is such a one
abbrev pub AreStored : List Interval → Type 0
AreStored is = (i : Interval) → has is i ≡ true → IsStored i

-- whether the order by end has given times
abbrev pub has_end : List Times → Times → Bool
has_end ends t = list_any (is_at (times_cmp t)) ends

-- the order by end has the times of the intervals, and the count is that of the falling neighbours
pub record IsIndex (begins : List Interval) (ends : List Times) (count : ℕ) : Type 0 where
  pub sorted : IsSet begins
  pub stored : AreStored begins
  pub times : (t : Times) → has_end ends t ≡ list_any (has_times t) begins
  pub counted : count ≡ falls begins

-- ---- parts of the order by end
-- times are in order and fit
pub record IsEnd (t : Times) : Type 0 where
  pub in_time : t.start ≤ℤ t.stop
  pub least : int_least ≤ℤ t.start
  pub most : t.stop ≤ℤ int_greatest

-- a part has the times that pass a test, if they are in order and fit
pub record IsPart (test : Times → Bool) (ends part : List Times) : Type 0 where
  pub pick : Times → Bool
  pub is : part ≡ filter pick ends
  pub on : (t : Times) → IsEnd t → pick t ≡ test t

-- each of some times is in order
abbrev pub AreInOrder : List Times → Type 0
AreInOrder [] = ⊤
AreInOrder (t ∷ ts) = (t.start ≤ℤ t.stop) × AreInOrder ts

-- the intervals with some times, one of these after the other
abbrev pub by_times : List Interval → List Times → List Interval
by_times is [] = []
by_times is (t ∷ ts) = filter (has_times t) is ++ by_times is ts

-- ---- walks
-- a part, or nothing
abbrev pub or_none : Option (List Interval) → List Interval
or_none None = []
or_none (Some is) = is

-- what passes a test comes, and nothing of it twice
abbrev pub Covers : (Interval → Bool) → List Interval → List Interval → Type 0
Covers w is rest = IsPermutation (filter w is) (filter w rest)

-- a test that no interval with given times passes, where it is a strict one
abbrev pub IsApart : Bool → (Interval → Bool) → Times → Type 0
IsApart strictly w t = strictly ≡ true → (i : Interval) → w i ≡ true → has_times t i ≡ false
