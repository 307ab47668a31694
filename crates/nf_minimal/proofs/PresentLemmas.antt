-- How many of two stores have an interval, as candidates arrive, leave and move.
use Rattle.std.proofs.Common.{◌≡◌, ◌+◌, ◌≤◌, Bool, true, false, cond, not, ◌&&◌, ◌||◌, List, refl, sym, ap, ◌∙◌, arith}
use Rattle.nf_core.specs.Intervals.{Interval, same}
use Rattle.nf_core.specs.Sets.{IsSet, has, inserted, removed}
use Rattle.nf_core.proofs.Public.SameIntervalLemmas.{same_is, same_swapped}
use Rattle.nf_core.proofs.Public.SetLemmas.{has_inserted, has_removed, IsSet-removed, same_set}
use Rattle.nf_tally.specs.Numbers.{one_at, often}
use Rattle.nf_minimal.specs.inner.Barred.{bars, is_barred}
use Rattle.nf_minimal.specs.inner.Judged.{IsJudged, present, once_if}
use Rattle.nf_minimal.proofs.BarLemmas.{clash}

pub once_most : (b : Bool) → once_if b ≤ 1
once_most true = omega arith
once_most false = omega arith

-- which of two stores have an interval that neither has, and one that the other has
pub neither_has : (a b : Bool) → once_if (a || b) ≡ 0 → (a ≡ false) × (b ≡ false)
neither_has true b e = absurd (omega (arith, e))
neither_has false true e = absurd (omega (arith, e))
neither_has false false e = (refl, refl)

pub first_has : (a b : Bool) → once_if (a || b) ≡ 1 → b ≡ false → a ≡ true
first_has true b e f = refl
first_has false true e f = absurd cc
first_has false false e f = absurd (omega (arith, e))

module _ (full : Bool) (held suppressed : List Interval) (judged : IsJudged full held suppressed) where
  -- no interval is in both
  pub held_alone : (q : Interval) → has held q ≡ true → has suppressed q ≡ false
  held_alone q there = by (has suppressed q) refl
    where
      by : (b : Bool) → has suppressed q ≡ b → has suppressed q ≡ false
      by true e = clash (is_barred full held q) (judged.barred q e) (judged.free q there)
      by false e = e

  pub suppressed_alone : (q : Interval) → has suppressed q ≡ true → has held q ≡ false
  suppressed_alone q there = by (has held q) refl
    where
      by : (b : Bool) → has held q ≡ b → has held q ≡ false
      by true e = clash (is_barred full held q) (judged.barred q there) (judged.free q e)
      by false e = e

  -- so both are counted
  pub present_split : (q : Interval) → present held suppressed q ≡ once_if (has held q) + once_if (has suppressed q)
  present_split q = by (has held q) (has suppressed q) (held_alone q)
    where
      by : (a b : Bool) → (a ≡ true → b ≡ false) → once_if (a || b) ≡ once_if a + once_if b
      by true true h = let other = h refl in absurd cc
      by true false h = refl
      by false b h = omega arith

-- one is put into a set that lacks it
pub once_inserted : (i q : Interval) (is : List Interval) → has is i ≡ false → once_if (has (inserted i is) q) ≡ once_if (has is q) + one_at i q
once_inserted i q is out = ap once_if (has_inserted i is q ∙ ap (λ b. b || has is q) (same_swapped q i)) ∙ by (same i q) refl
  where
    by : (b : Bool) → same i q ≡ b → once_if (b || has is q) ≡ once_if (has is q) + cond b 1 0
    by true e = sym (ap (λ b. once_if b + 1) (sym (ap (has is) (same_is i q e)) ∙ out))
    by false e = omega arith

-- one is taken out of a set that has it
pub once_removed : (i q : Interval) (is : List Interval) → IsSet is → has is i ≡ true → once_if (has (removed i is) q) + one_at i q ≡ once_if (has is q)
once_removed i q is s there = ap (λ b. once_if b + one_at i q) (has_removed i is q s ∙ ap (λ b. has is q && not b) (same_swapped q i)) ∙ by (same i q) refl
  where
    by : (b : Bool) → same i q ≡ b → once_if (has is q && not b) + cond b 1 0 ≡ once_if (has is q)
    by true e =
        let it : has is q ≡ true = sym (ap (has is) (same_is i q e)) ∙ there in
        ap (λ b. once_if (b && false) + 1) it ∙ sym (ap once_if it)
    by false e = rest (has is q)
      where
        rest : (b : Bool) → once_if (b && true) + 0 ≡ once_if b
        rest true = refl
        rest false = refl

-- some of one store move to another one
pub moved_over : (b h s r o : Bool) → (h ≡ true → s ≡ false) → r ≡ (h && not b) → o ≡ (s || (h && b)) → once_if r + once_if o ≡ once_if h + once_if s
moved_over b h s r o apart e f = ap (λ z. once_if z + once_if o) e ∙ ap (λ z. once_if (h && not b) + once_if z) f ∙ by h b s apart
  where
    by : (h b s : Bool) → (h ≡ true → s ≡ false) → once_if (h && not b) + once_if (s || (h && b)) ≡ once_if h + once_if s
    by true b true apart = let other = apart refl in absurd cc
    by true true false apart = refl
    by true false false apart = refl
    by false b true apart = refl
    by false b false apart = refl

-- a set without an interval that it hasn't is the same
pub removed_absent : (i : Interval) (is : List Interval) → IsSet is → has is i ≡ false → removed i is ≡ is
removed_absent i is s out = same_set (removed i is) is (IsSet-removed i is s) s (λ q. has_removed i is q s ∙ by q (same q i) refl)
  where
    and_true : (b : Bool) → (b && true) ≡ b
    and_true true = refl
    and_true false = refl

    by : (q : Interval) (b : Bool) → same q i ≡ b → (has is q && not b) ≡ has is q
    by q true e = let it : has is q ≡ false = ap (has is) (same_is q i e) ∙ out in ap (λ b. b && false) it ∙ sym it
    by q false e = and_true (has is q)

-- ---- candidates counted, as one arrives or leaves
module _ (full : Bool) (i q : Interval) (held suppressed : List Interval) (judged : IsJudged full held suppressed) where
  pub more_suppressed : IsJudged full held (inserted i suppressed) → has suppressed i ≡ false → present held (inserted i suppressed) q ≡ present held suppressed q + one_at i q
  more_suppressed after out =
      let a = present_split full held (inserted i suppressed) after q in
      let b = once_inserted i q suppressed out in
      let c = present_split full held suppressed judged q in
      omega (arith, a, b, c)

  pub more_held : (next : Bool) (rest others : List Interval) → IsJudged next (inserted i rest) others → has rest i ≡ false
      → has rest q ≡ (has held q && not (bars full i q)) → has others q ≡ (has suppressed q || (has held q && bars full i q))
      → present (inserted i rest) others q ≡ present held suppressed q + one_at i q
  more_held next rest others after out kept moved =
      let a = present_split next (inserted i rest) others after q in
      let b = once_inserted i q rest out in
      let c = present_split full held suppressed judged q in
      let d = moved_over (bars full i q) (has held q) (has suppressed q) (has rest q) (has others q) (held_alone full held suppressed judged q) kept moved in
      omega (arith, a, b, c, d)

  pub fewer_suppressed : IsJudged full held (removed i suppressed) → has suppressed i ≡ true → present held (removed i suppressed) q + one_at i q ≡ present held suppressed q
  fewer_suppressed after there =
      let a = present_split full held (removed i suppressed) after q in
      let b = once_removed i q suppressed judged.suppressed_set there in
      let c = present_split full held suppressed judged q in
      omega (arith, a, b, c)

  -- a held one leaves, and others are taken out
  pub fewer_held : (next : Bool) (rest outer : List Interval) → IsJudged next (removed i held) rest → has held i ≡ true → often outer q + once_if (has rest q) ≡ once_if (has suppressed q)
      → present (removed i held) rest q + often outer q + one_at i q ≡ present held suppressed q
  fewer_held next rest outer after there counts =
      let a = present_split next (removed i held) rest after q in
      let b = once_removed i q held judged.held_set there in
      let c = present_split full held suppressed judged q in
      omega (arith, a, b, c, counts)
