-- What is left of a walk over a part of a store, and what the plans of walks go by.
use Rattle.std.specs.Prelude.{◌≡◌, ℤ, Bool, true, List, []}
use Rattle.std.specs.Prelude.{◌≤ℤ◌, ◌<ℤ◌}
use Rattle.nf_core.specs.Intervals.{Interval}
use Rattle.nf_index.specs.declared.rest.Rest.{Rest}
use Rattle.nf_index.specs.declared.rest.Rest.TheVariants.{Nothing, Parts, Ends}

-- the intervals that are left
abbrev pub left : Rest → List Interval
left Nothing = []
left (Parts p) = p
left (Ends e) = e

-- a test that only intervals within given times pass, or only those around them, or only those that overlap them
abbrev pub IsWithin : (Interval → Bool) → (start stop : ℤ) → Type 0
IsWithin w start stop = (i : Interval) → w i ≡ true → (start ≤ℤ i.start) × (i.stop ≤ℤ stop)

abbrev pub IsAround : (Interval → Bool) → (start stop : ℤ) → Type 0
IsAround w start stop = (i : Interval) → w i ≡ true → (i.start ≤ℤ start) × (stop ≤ℤ i.stop)

abbrev pub IsOverlapping : (Interval → Bool) → (start stop : ℤ) → Type 0
IsOverlapping w start stop = (i : Interval) → w i ≡ true → (i.start <ℤ stop) × (start <ℤ i.stop)
