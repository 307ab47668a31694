-- The numbers of a tally after a change at one interval.
use Rattle.std.proofs.Common.{◌≡◌, ℕ, ◌+◌, ◌<◌, Bool, true, false, cond, Option, Some, None, IfSome, refl, sym, ap, subst, ◌∙◌, unwrap_or, nat_lt, arith}
use Rattle.std.proofs.lemmas.Bool.Decides.{nat_tests}
use Rattle.std.specs.Map.{lookup}
use Rattle.nf_lemmas.proofs.BoolLemmas.{choose_first}
use Rattle.nf_core.specs.Intervals.{Interval, same}
use Rattle.nf_core.proofs.Public.SameIntervalLemmas.{same_is}
use Rattle.nf_tally.specs.Numbers.{Numbers, number, one_at, is_on}
use Rattle.nf_tally.specs.inner.Positive.{ArePositive}

-- an interval's number, or none, written
pub positive_updated : (i : Interval) (written : Option ℕ) (old new : Numbers)
    → ((q : Interval) → lookup (same q) new ≡ cond (same i q) written (lookup (same q) old)) → IfSome written (λ n. 0 < n) → ArePositive old → ArePositive new
positive_updated i written old new updates above positive = λ q. subst (λ o. IfSome o (λ n. 0 < n)) (sym (updates q)) (at q (same i q))
  where
    at : (q : Interval) (b : Bool) → IfSome (cond b written (lookup (same q) old)) (λ n. 0 < n)
    at q true = above
    at q false = positive q

-- 0 given to an interval without a number
pub zero_unset : (i q : Interval) (n : ℕ) (numbers : Numbers) → n ≡ 0 → number numbers i ≡ 0 → number numbers q ≡ cond (same i q) n (number numbers q)
zero_unset i q n numbers zero none = by (same i q) refl
  where
    by : (b : Bool) → same i q ≡ b → number numbers q ≡ cond b n (number numbers q)
    by true e = sym (ap (number numbers) (same_is i q e)) ∙ none ∙ sym zero
    by false e = refl

-- the interval that a number is kept for
pub taken_is : (i kept : Interval) (n : ℕ) (numbers : Numbers) → ArePositive numbers → i ≡ kept → Some n ≡ lookup (same i) numbers
    → Some kept ≡ cond (is_on (number numbers i)) (Some i) None
taken_is i kept n numbers positive is found =
    let above : 0 < n = subst (λ o. IfSome o (λ m. 0 < m)) (sym found) (positive i) in
    let on : is_on n ≡ true = grind (arith, nat_tests) in
    ap Some (sym is) ∙ sym (choose_first (is_on (number numbers i)) (Some i) None (ap (λ o. is_on (unwrap_or o 0)) (sym found) ∙ on))

-- ---- one interval's number written: one more, or one less
module _ (i q : Interval) (m : ℕ) (old new : Numbers) (written : number new q ≡ cond (same i q) m (number old q)) where
  pub one_more : number old i + 1 ≡ m → number new q ≡ number old q + one_at i q
  one_more e = written ∙ by (same i q) refl
    where
      by : (b : Bool) → same i q ≡ b → cond b m (number old q) ≡ number old q + cond b 1 0
      by true f = sym e ∙ ap (λ j. number old j + 1) (same_is i q f)
      by false f = omega arith

  pub one_less : m + 1 ≡ number old i → number new q + one_at i q ≡ number old q
  one_less e = ap (λ n. n + one_at i q) written ∙ by (same i q) refl
    where
      by : (b : Bool) → same i q ≡ b → cond b m (number old q) + cond b 1 0 ≡ number old q
      by true f = e ∙ ap (number old) (same_is i q f)
      by false f = omega arith

-- a number as it is looked up
pub number_looked_up : (i q : Interval) (m : ℕ) (old new : Numbers) → lookup (same q) new ≡ cond (same i q) (Some m) (lookup (same q) old)
    → number new q ≡ cond (same i q) m (number old q)
number_looked_up i q m old new looked_up = ap (λ o. unwrap_or o 0) looked_up ∙ by (same i q)
  where
    by : (b : Bool) → unwrap_or (cond b (Some m) (lookup (same q) old)) 0 ≡ cond b m (number old q)
    by true = refl
    by false = refl

pub off_is : (n : ℕ) → is_on n ≡ false → n ≡ 0
off_is n e = grind (arith, nat_tests)

pub last_is : (n : ℕ) → 0 < n → nat_lt 1 n ≡ false → n ≡ 1
last_is n above e = grind (arith, nat_tests)
