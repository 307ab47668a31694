-- One of those that an interval bars is taken out of a store, and all of them are.
use Rattle.std.proofs.Common.{◌≡◌, Bool, true, false, not, ◌&&◌, ◌||◌, List, refl, sym, ap, ◌∙◌}
use Rattle.nf_core.specs.Intervals.{Interval, same}
use Rattle.nf_core.specs.Sets.{IsSet, has, inserted, removed}
use Rattle.nf_core.proofs.Public.SameIntervalLemmas.{same_is}
use Rattle.nf_core.proofs.Public.SetLemmas.{has_inserted, has_removed}
use Rattle.nf_minimal.specs.inner.Barred.{bars}
use Rattle.nf_minimal.proofs.BarLemmas.{clash}

and_true : (b : Bool) → (b && true) ≡ b
and_true true = refl
and_true false = refl

and_false : (b : Bool) → (b && false) ≡ false
and_false true = refl
and_false false = refl

first_of : (a b : Bool) → (a && b) ≡ true → a ≡ true
first_of true b e = refl
first_of false b e = absurd cc

module _ (full : Bool) (i outer : Interval) (store : List Interval) (s : IsSet store) (bar : bars full i outer ≡ true) where
  -- the others stay
  pub others_stay : (q : Interval) → bars full i q ≡ false → has (removed outer store) q ≡ has store q
  others_stay q apart = has_removed outer store q s ∙ by (same q outer) refl
    where
      by : (b : Bool) → same q outer ≡ b → (has store q && not b) ≡ has store q
      by true e = clash (bars full i q) (ap (bars full i) (same_is q outer e) ∙ bar) apart
      by false e = and_true (has store q)

  pub fewer : (q : Interval) → has (removed outer store) q ≡ true → has store q ≡ true
  fewer q there = first_of (has store q) (not (same q outer)) (sym (has_removed outer store q s) ∙ there)

  -- what left the one store is in the other one
  pub gathered : (old before : Interval → Bool) (others : List Interval) (q : Interval) → old outer ≡ true → has others q ≡ (before q || (old q && not (has store q)))
      → has (inserted outer others) q ≡ (before q || (old q && not (has (removed outer store) q)))
  gathered old before others q was had =
      has_inserted outer others q ∙ ap (λ b. same q outer || b) had ∙ by (same q outer) refl ∙ sym (ap (λ b. before q || (old q && not b)) (has_removed outer store q s))
    where
      or_true : (b : Bool) → (b || true) ≡ true
      or_true true = refl
      or_true false = refl

      by : (b : Bool) → same q outer ≡ b → (b || (before q || (old q && not (has store q)))) ≡ (before q || (old q && not (has store q && not b)))
      by true e =
          sym (ap (λ c. before q || (old q && not c)) (and_false (has store q)) ∙ ap (λ c. before q || (c && true)) (ap old (same_is q outer e) ∙ was) ∙ or_true (before q))
      by false e = sym (ap (λ c. before q || (old q && not c)) (and_true (has store q)))

-- at the end none is left that is barred
pub all_out : (b now old : Bool) → (b ≡ false → now ≡ old) → (now ≡ true → b ≡ false) → now ≡ (old && not b)
all_out true true old kept out = let other = out refl in absurd cc
all_out true false old kept out = sym (and_false old)
all_out false now old kept out = kept refl ∙ sym (and_true old)

pub all_gathered : (b now old before others : Bool) → now ≡ (old && not b) → others ≡ (before || (old && not now)) → others ≡ (before || (old && b))
all_gathered b now old before others e f = f ∙ ap (λ z. before || (old && not z)) e ∙ ap (λ z. before || z) (by old b)
  where
    by : (old b : Bool) → (old && not (old && not b)) ≡ (old && b)
    by true true = refl
    by true false = refl
    by false b = refl
