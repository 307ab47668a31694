-- What windows ask of an interval's times.
use Rattle.std.proofs.Common.{◌≡◌, ℤ, Bool, true, false, not, ◌&&◌, refl, sym, ◌∙◌, true≢false, arith}
use Rattle.std.specs.Prelude.{◌≤ℤ◌, ◌<ℤ◌, int_lt, int_le}
use Rattle.std.specs.Ordering.{int_eq}
use Rattle.std.proofs.lemmas.Int.{ints}
use Rattle.nf_core.specs.Intervals.{Interval}
use Rattle.nf_index.specs.declared.times.Times.{Times}
use Rattle.nf_index.specs.declared.windows.Window.TheVariants.{SameTimes, Within, Around, StrictlyWithin, StrictlyAround, Overlaps}
use Rattle.nf_index.specs.inner.Orders.{has_times, IsApart}
use Rattle.nf_index.specs.inner.Walks.{IsWithin, IsAround, IsOverlapping}
use Rattle.nf_index.specs.inner.Windows.{in_window}

both_true : (a b : Bool) → (a && b) ≡ true → (a ≡ true) × (b ≡ true)
both_true true true f = (refl, refl)
both_true true false f = absurd (true≢false (sym f))
both_true false b f = absurd (true≢false (sym f))

le_is : (m n : ℤ) → int_le m n ≡ true → m ≤ℤ n
le_is m n e = grind (arith, ints, e)

lt_is : (m n : ℤ) → int_lt m n ≡ true → m <ℤ n
lt_is m n e = grind (arith, ints, e)

same_start : (t : Times) (i : Interval) → has_times t i ≡ true → int_eq i.start t.start ≡ true
same_start t i e = grind (arith, ints, e)

same_stop : (t : Times) (i : Interval) → has_times t i ≡ true → int_eq i.stop t.stop ≡ true
same_stop t i e = grind (arith, ints, e)

pub within_asks : (start stop : ℤ) → IsWithin (in_window Within start stop) start stop
unfolding in_window
within_asks start stop i h = let parts = both_true (int_le start i.start) (int_le i.stop stop) h in (le_is start i.start parts.0, le_is i.stop stop parts.1)

pub around_asks : (start stop : ℤ) → IsAround (in_window Around start stop) start stop
unfolding in_window
around_asks start stop i h = let parts = both_true (int_le i.start start) (int_le stop i.stop) h in (le_is i.start start parts.0, le_is stop i.stop parts.1)

pub overlaps_asks : (start stop : ℤ) → IsOverlapping (in_window Overlaps start stop) start stop
unfolding in_window
overlaps_asks start stop i h = let parts = both_true (int_lt i.start stop) (int_lt start i.stop) h in (lt_is i.start stop parts.0, lt_is start i.stop parts.1)

pub strictly_within_asks : (start stop : ℤ) → IsWithin (in_window StrictlyWithin start stop) start stop
unfolding in_window
strictly_within_asks start stop i h =
    let first = both_true (int_le start i.start && int_le i.stop stop) (not (int_eq i.start start && int_eq i.stop stop)) h in
    let parts = both_true (int_le start i.start) (int_le i.stop stop) first.0 in
    (le_is start i.start parts.0, le_is i.stop stop parts.1)

pub strictly_around_asks : (start stop : ℤ) → IsAround (in_window StrictlyAround start stop) start stop
unfolding in_window
strictly_around_asks start stop i h =
    let first = both_true (int_le i.start start && int_le stop i.stop) (not (int_eq i.start start && int_eq i.stop stop)) h in
    let parts = both_true (int_le i.start start) (int_le stop i.stop) first.0 in
    (le_is i.start start parts.0, le_is stop i.stop parts.1)

other_times : (t : Times) (i : Interval) → not (int_eq i.start t.start && int_eq i.stop t.stop) ≡ true → has_times t i ≡ false
other_times t i h = by (has_times t i) refl
  where
    by : (b : Bool) → has_times t i ≡ b → has_times t i ≡ false
    by true e = absurd (true≢false (sym h ∙ (λ k. not (same_start t i e k && same_stop t i e k))))
    by false e = e

pub strictly_within_apart : (t : Times) → IsApart true (in_window StrictlyWithin t.start t.stop) t
unfolding in_window
strictly_within_apart t on i h = other_times t i (both_true (int_le t.start i.start && int_le i.stop t.stop) (not (int_eq i.start t.start && int_eq i.stop t.stop)) h).1

pub strictly_around_apart : (t : Times) → IsApart true (in_window StrictlyAround t.start t.stop) t
unfolding in_window
strictly_around_apart t on i h = other_times t i (both_true (int_le i.start t.start && int_le t.stop i.stop) (not (int_eq i.start t.start && int_eq i.stop t.stop)) h).1

pub not_strictly : (w : Interval → Bool) (t : Times) → IsApart false w t
not_strictly w t on = absurd (true≢false (sym on))

pub same_times_asks : (t : Times) (i : Interval) → in_window SameTimes t.start t.stop i ≡ true → has_times t i ≡ true
unfolding in_window
same_times_asks t i h =
    let parts = both_true (int_eq i.start t.start) (int_eq i.stop t.stop) h in
    grind (arith, ints, parts.0, parts.1)
