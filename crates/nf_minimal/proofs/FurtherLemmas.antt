-- The numbers of sources of the candidates in two stores.
use Rattle.std.proofs.Common.{◌≡◌, ℕ, ◌+◌, Bool, true, false, cond, ◌||◌, List, [], ◌∷◌, ◌++◌, Some, unwrap_or, refl, sym, ap, ◌∙◌, arith}
use Rattle.std.specs.Map.{lookup}
use Rattle.std.proofs.lemmas.Bool.Decides.{nat_tests}
use Rattle.nf_core.specs.Intervals.{Interval, same}
use Rattle.nf_core.specs.Sets.{has}
use Rattle.nf_core.proofs.Public.SameIntervalLemmas.{same_is}
use Rattle.nf_core.proofs.Public.SetLemmas.{has_append}
use Rattle.nf_tally.specs.Numbers.{Numbers, number, one_at, is_on}
use Rattle.nf_minimal.specs.inner.Judged.{IsKept, present, once_if}
use Rattle.nf_minimal.specs.inner.Further.{counted, sources_of, IsStocked}

-- one of some intervals has its first source and its further ones, and another one has none
number_counted : (more : Numbers) (is : List Interval) (q : Interval) → number (counted more is) q ≡ cond (has is q) (1 + number more q) 0
number_counted more [] q = refl
number_counted more (i ∷ is) q = by (same q i) refl (number_counted more is q)
  where
    by : (b : Bool) → same q i ≡ b → number (counted more is) q ≡ cond (has is q) (1 + number more q) 0
        → unwrap_or (cond b (Some (1 + number more i)) (lookup (same q) (counted more is))) 0 ≡ cond (b || has is q) (1 + number more q) 0
    by true e rest = ap (λ j. 1 + number more j) (sym (same_is q i e))
    by false e rest = rest

number_sources : (more : Numbers) (held suppressed : List Interval) (q : Interval)
    → number (sources_of more held suppressed) q ≡ cond (has held q || has suppressed q) (1 + number more q) 0
number_sources more held suppressed q =
    number_counted more (held ++ suppressed) q ∙ ap (λ b. cond b (1 + number more q) 0) (has_append held suppressed q)

-- the candidates are the intervals that have a source
pub has_source : (more : Numbers) (held suppressed : List Interval) (q : Interval) → (has held q || has suppressed q) ≡ is_on (number (sources_of more held suppressed) q)
has_source more held suppressed q = by (has held q || has suppressed q) (number more q) ∙ sym (ap is_on (number_sources more held suppressed q))
  where
    by : (b : Bool) (n : ℕ) → b ≡ is_on (cond b (1 + n) 0)
    by true n = grind (arith, nat_tests)
    by false n = refl

module _ (full : Bool) (more : Numbers) (held suppressed : List Interval) (right : IsStocked full more held suppressed) where
  pub stocked_kept : IsKept full (sources_of more held suppressed) held suppressed
  stocked_kept = record { judged = right.judged; members = has_source more held suppressed }

  -- the number of sources is that of both parts
  pub sources_total : (q : Interval) → number (sources_of more held suppressed) q ≡ present held suppressed q + number more q
  sources_total q = number_sources more held suppressed q ∙ by (has held q || has suppressed q) (right.fewer q)
    where
      by : (b : Bool) → (once_if b ≡ 0 → number more q ≡ 0) → cond b (1 + number more q) 0 ≡ once_if b + number more q
      by true none = refl
      by false none = let zero = none refl in omega (arith, zero)

-- ---- further sources, as their numbers change
module _ (i : Interval) (held suppressed : List Interval) (old new : Numbers) (fewer : (q : Interval) → present held suppressed q ≡ 0 → number old q ≡ 0) where
  -- a candidate gains one
  pub fewer_raised : (has held i || has suppressed i) ≡ true → ((q : Interval) → number new q ≡ number old q + one_at i q) → (q : Interval) → present held suppressed q ≡ 0 → number new q ≡ 0
  fewer_raised there raised q absent = raised q ∙ by (same i q) refl
    where
      by : (b : Bool) → same i q ≡ b → number old q + cond b 1 0 ≡ 0
      by true e =
          let it : present held suppressed q ≡ 1 = sym (ap (present held suppressed) (same_is i q e)) ∙ ap once_if there in
          absurd (omega (arith, it, absent))
      by false e = let none = fewer q absent in omega (arith, none)

  pub fewer_lowered : ((q : Interval) → number new q + one_at i q ≡ number old q) → (q : Interval) → present held suppressed q ≡ 0 → number new q ≡ 0
  fewer_lowered lowered q absent =
      let e = lowered q in
      let none = fewer q absent in
      omega (arith, e, none)

-- ---- further sources, as the candidates change
module _ (i : Interval) (held suppressed next_held next_suppressed : List Interval) (more : Numbers) (fewer : (q : Interval) → present held suppressed q ≡ 0 → number more q ≡ 0) where
  pub fewer_arrived : ((q : Interval) → present next_held next_suppressed q ≡ present held suppressed q + one_at i q) → (q : Interval) → present next_held next_suppressed q ≡ 0 → number more q ≡ 0
  fewer_arrived arrived q absent = let e = arrived q in fewer q (omega (arith, e, absent))

  -- one that has no further source leaves
  pub fewer_left : number more i ≡ 0 → ((q : Interval) → present next_held next_suppressed q + one_at i q ≡ present held suppressed q) → (q : Interval) → present next_held next_suppressed q ≡ 0 → number more q ≡ 0
  fewer_left none left q absent = by (same i q) refl
    where
      by : (b : Bool) → same i q ≡ b → number more q ≡ 0
      by true e = sym (ap (number more) (same_is i q e)) ∙ none
      by false e =
          let f = left q in
          let apart : one_at i q ≡ 0 = ap once_if e in
          fewer q (omega (arith, f, absent, apart))
