-- Weights of pairs, summed over what two lists lost and gained.
use Rattle.std.specs.Prelude.{ℕ, ◌+◌, not, List, filter, sum_by, cond}
use Rattle.nf_core.specs.Intervals.{Interval}
use Rattle.nf_core.specs.Sets.{has}
use Rattle.nf_core.specs.declared.intervals.Delta.{Delta}

-- a weight of intervals, and 0 for those to skip
abbrev pub unskipped : (skip : List Interval) → (Interval → ℕ) → Interval → ℕ
unskipped skip weight i = cond (has skip i) 0 (weight i)

-- the weights of the pairs of each of some first intervals with the second ones of a list, but those to skip
abbrev pub first_sum : (Interval → Interval → ℕ) → (skip seconds ones : List Interval) → ℕ
first_sum weight skip seconds ones = sum_by (λ i. sum_by (unskipped skip (weight i)) seconds) ones

-- and of each of some second intervals with the first ones of a list, but those to skip
abbrev pub second_sum : (Interval → Interval → ℕ) → (skip firsts ones : List Interval) → ℕ
second_sum weight skip firsts ones = sum_by (λ j. sum_by (unskipped skip (λ i. weight i j)) firsts) ones

-- the weights of the pairs that two lists lost: what went of the first with what stayed of the second, what went of both, and what stayed of the first with what went of the second
abbrev pub lost_sum : (Interval → Interval → ℕ) → (firsts seconds : List Interval) → (d1 d2 : Delta) → ℕ
lost_sum weight firsts seconds d1 d2 =
    first_sum weight d2.come seconds d1.gone + sum_by (λ i. sum_by (weight i) d2.gone) d1.gone
    + second_sum weight d1.come firsts d2.gone

-- the weights of the pairs that two lists gained: what came of the first with all of the second, and what stayed of the first with what came of the second
abbrev pub found_sum : (Interval → Interval → ℕ) → (firsts seconds : List Interval) → (d1 d2 : Delta) → ℕ
found_sum weight firsts seconds d1 d2 =
    sum_by (λ i. sum_by (weight i) seconds) d1.come + second_sum weight d1.come firsts d2.come

-- the list without what came
abbrev pub kept : Delta → List Interval → List Interval
kept delta now = filter (λ i. not (has delta.come i)) now
