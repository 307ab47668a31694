-- How a delta follows the intervals that have a number, as numbers are raised and lowered.
use Rattle.std.proofs.Common.{◌≡◌, ℕ, ◌+◌, ◌<◌, Bool, true, false, cond, not, ◌&&◌, ◌||◌, Some, None, nat_lt, refl, sym, ap, ◌∙◌, arith}
use Rattle.std.proofs.lemmas.Bool.Decides.{nat_tests}
use Rattle.nf_core.specs.Intervals.{Interval, same}
use Rattle.nf_core.specs.declared.intervals.Delta.{Delta}
use Rattle.nf_core.proofs.Public.SameIntervalLemmas.{same_is}
use Rattle.nf_tally.proofs.Public.LeadLemmas.{leads_alike}
use Rattle.nf_tally.specs.Numbers.{Numbers, number, one_at, is_on, IsNet}
use Rattle.nf_tally.specs.Deltas.{Leads, Enters, Leaves}
use Rattle.nf_tally.specs.inner.Carried.{on}

pub above_is : (n : ℕ) → 0 < n → is_on n ≡ true
above_is n above = grind (arith, nat_tests)

more_is : (n : ℕ) → is_on (n + 1) ≡ true
more_is n = above_is (n + 1) (omega arith)

pub net_from_leads : (before now : Numbers) (delta : Delta) → Leads (on before) (on now) delta → IsNet (number before) (number now) delta
net_from_leads before now delta lead = record { gone_set = lead.gone_set; come_set = lead.come_set; gone = lead.gone; come = lead.come }

module _ (i : Interval) (old new : Numbers) where
  -- a number that isn't 0 is raised
  pub stays_raised : (was : Interval → Bool) (delta : Delta) → ((q : Interval) → number new q ≡ number old q + one_at i q) → is_on (number old i) ≡ true
      → Leads was (on old) delta → Leads was (on new) delta
  stays_raised was delta raised known = leads_alike was (on old) (on new) delta (λ q. ap is_on (raised q) ∙ by q (same i q) refl)
    where
      by : (q : Interval) (b : Bool) → same i q ≡ b → is_on (number old q + cond b 1 0) ≡ is_on (number old q)
      by q true e = more_is (number old q) ∙ sym known ∙ ap (λ j. is_on (number old j)) (same_is i q e)
      by q false e = ap is_on (omega arith)

  -- a number above 1 is lowered
  pub stays_lowered : (was : Interval → Bool) (delta : Delta) → ((q : Interval) → number new q + one_at i q ≡ number old q) → nat_lt 1 (number old i) ≡ true
      → Leads was (on old) delta → Leads was (on new) delta
  stays_lowered was delta lowered many = leads_alike was (on old) (on new) delta (λ q. by q (same i q) refl (lowered q))
    where
      by : (q : Interval) (b : Bool) → same i q ≡ b → number new q + cond b 1 0 ≡ number old q → is_on (number new q) ≡ is_on (number old q)
      by q true e f =
          let more : nat_lt 1 (number old q) ≡ true = ap (λ j. nat_lt 1 (number old j)) (sym (same_is i q e)) ∙ many in
          let above : 1 < number old q = grind (arith, nat_tests) in
          above_is (number new q) (omega arith) ∙ sym (above_is (number old q) (omega arith))
      by q false e f = ap is_on (omega arith)

  -- the first one
  pub enters_first : ((q : Interval) → number new q ≡ number old q + one_at i q) → is_on (number old i) ≡ false → Enters i (on old) (on new)
  enters_first raised unknown = record {
    absent = unknown;
    next_is = λ q. ap is_on (raised q) ∙ by q (same i q);
  }
    where
      by : (q : Interval) (b : Bool) → is_on (number old q + cond b 1 0) ≡ (b || is_on (number old q))
      by q true = more_is (number old q)
      by q false = ap is_on (omega arith)

  -- the last one
  pub leaves_last : ((q : Interval) → number new q ≡ cond (same i q) 0 (number old q)) → 0 < number old i → Leaves i (on old) (on new)
  leaves_last cleared above = record {
    there = above_is (number old i) above;
    next_is = λ q. ap is_on (cleared q) ∙ by q (same i q);
  }
    where
      by : (q : Interval) (b : Bool) → is_on (cond b 0 (number old q)) ≡ (not b && is_on (number old q))
      by q true = refl
      by q false = refl

-- an interval that is taken is the one that was asked for
pub taken_one : (last i : Interval) (b : Bool) → Some last ≡ cond b (Some i) None → last ≡ i
taken_one last i true e = cc
taken_one last i false e = absurd cc
