-- The numbers of a tally in two parts, as one interval's number changes.
use Rattle.std.proofs.Common.{◌≡◌, ℕ, ◌+◌, ◌<◌, ◌^◌, Bool, true, false, cond, not, ◌&&◌, ◌||◌, List, [], ◌∷◌, Some, unwrap_or, nat_lt, refl, sym, ap, subst, ◌∙◌, true≢false, arith, rules}
use Rattle.std.proofs.lemmas.Bool.Decides.{nat_tests}
use Rattle.std.specs.Map.{lookup}
use Rattle.nf_core.specs.Intervals.{Interval, same}
use Rattle.nf_core.specs.Sets.{IsSet, has, inserted, removed}
use Rattle.nf_core.proofs.Public.SameIntervalLemmas.{same_is, same_self, same_swapped}
use Rattle.nf_core.proofs.Public.SetLemmas.{has_inserted, has_removed, IsSet-inserted, IsSet-removed}
use Rattle.nf_tally.specs.Numbers.{Numbers, number, one_at, is_on}
use Rattle.nf_tally.specs.inner.Counted.{counted, AreCounted}

-- an interval that is known has one more than what is beyond
pub number_counted : (known : List Interval) (beyond : Numbers) (q : Interval) → number (counted known beyond) q ≡ cond (has known q) (number beyond q + 1) 0
number_counted [] beyond q = refl
number_counted (x ∷ xs) beyond q = by (same q x) refl (number_counted xs beyond q)
  where
    by : (b : Bool) → same q x ≡ b → number (counted xs beyond) q ≡ cond (has xs q) (number beyond q + 1) 0
        → unwrap_or (cond b (Some (number beyond x + 1)) (lookup (same q) (counted xs beyond))) 0 ≡ cond (b || has xs q) (number beyond q + 1) 0
    by true e rest = ap (λ i. number beyond i + 1) (sym (same_is q x e))
    by false e rest = rest

-- the numbers of the known ones are all that is seen
pub counted_alike : (known : List Interval) (beyond other : Numbers) → ((q : Interval) → number beyond q ≡ number other q) → counted known beyond ≡ counted known other
counted_alike [] beyond other alike = refl
counted_alike (x ∷ xs) beyond other alike = λ k. (x, alike x k + 1) ∷ counted_alike xs beyond other alike k

pub is_known : (known : List Interval) (beyond : Numbers) (q : Interval) → is_on (number (counted known beyond) q) ≡ has known q
is_known known beyond q = ap is_on (number_counted known beyond q) ∙ by (has known q)
  where
    above : (n : ℕ) → is_on (n + 1) ≡ true
    above n = grind (arith, nat_tests)

    by : (b : Bool) → is_on (cond b (number beyond q + 1) 0) ≡ b
    by true = above (number beyond q)
    by false = refl

-- where an interval has no number it isn't known, and nothing is counted for it
pub none_known : (known : List Interval) (beyond : Numbers) (q : Interval) → number (counted known beyond) q ≡ 0 → has known q ≡ false
none_known known beyond q e = sym (is_known known beyond q) ∙ ap is_on e

pub many_known : (known : List Interval) (beyond : Numbers) (q : Interval) → AreCounted known beyond → is_on (number beyond q) ≡ nat_lt 1 (number (counted known beyond) q)
many_known known beyond q are = by (has known q) refl
  where
    beyond_one : (n : ℕ) → is_on n ≡ nat_lt 1 (n + 1)
    beyond_one n = grind (arith, nat_tests)

    by : (b : Bool) → has known q ≡ b → is_on (number beyond q) ≡ nat_lt 1 (number (counted known beyond) q)
    by true e = beyond_one (number beyond q) ∙ sym (ap (nat_lt 1) (number_counted known beyond q ∙ ap (λ b. cond b (number beyond q + 1) 0) e))
    by false e = ap is_on (are.only q e) ∙ sym (ap (nat_lt 1) (number_counted known beyond q ∙ ap (λ b. cond b (number beyond q + 1) 0) e))

module _ (i : Interval) (known : List Interval) (beyond : Numbers) (are : AreCounted known beyond) where
  known_apart : (q : Interval) → has known i ≡ true → has known q ≡ false → same i q ≡ false
  known_apart q there absent = by (same i q) refl
    where
      by : (b : Bool) → same i q ≡ b → same i q ≡ false
      by true e = absurd (true≢false (sym there ∙ ap (has known) (same_is i q e) ∙ absent))
      by false e = e

  module _ (next : Numbers) where
    -- ---- one more for an interval that is known
    module _ (there : has known i ≡ true) (raised : (q : Interval) → number next q ≡ number beyond q + one_at i q) where
      pub raised_number : (q : Interval) → number (counted known next) q ≡ number (counted known beyond) q + one_at i q
      raised_number q = number_counted known next q ∙ by (has known q) refl ∙ sym (ap (λ n. n + one_at i q) (number_counted known beyond q))
        where
          by : (b : Bool) → has known q ≡ b → cond b (number next q + 1) 0 ≡ cond b (number beyond q + 1) 0 + one_at i q
          by true e =
              let more = raised q in
              omega arith
          by false e = sym (ap (λ b. 0 + cond b 1 0) (known_apart q there e))

      pub raised_counted : number beyond i + 2 < 2 ^ 128 → AreCounted known next
      raised_counted room = record {
        sorted = are.sorted;
        only = λ q absent. raised q ∙ (λ k. are.only q absent k + cond (known_apart q there absent k) 1 0);
        fits = λ q. subst (λ n. n + 1 < 2 ^ 128) (sym (raised q)) (by q (same i q) refl);
      }
        where
          by : (q : Interval) (b : Bool) → same i q ≡ b → number beyond q + cond b 1 0 + 1 < 2 ^ 128
          by q true e =
              let here : number beyond q + 2 < 2 ^ 128 = subst (λ j. number beyond j + 2 < 2 ^ 128) (same_is i q e) room in
              omega (arith, here)
          by q false e =
              let here = are.fits q in
              omega (arith, here)

    -- ---- one less where more than one is counted
    module _ (lowered : (q : Interval) → number next q + one_at i q ≡ number beyond q) where
      unknown_apart : (q : Interval) → has known q ≡ false → same i q ≡ false
      unknown_apart q absent = by (same i q) refl (lowered q)
        where
          by : (b : Bool) → same i q ≡ b → number next q + cond b 1 0 ≡ number beyond q → same i q ≡ false
          by true e f =
              let none = are.only q absent in
              absurd (omega arith)
          by false e f = e

      pub lowered_number : (q : Interval) → number (counted known next) q + one_at i q ≡ number (counted known beyond) q
      lowered_number q = ap (λ n. n + one_at i q) (number_counted known next q) ∙ by (has known q) refl ∙ sym (number_counted known beyond q)
        where
          by : (b : Bool) → has known q ≡ b → cond b (number next q + 1) 0 + one_at i q ≡ cond b (number beyond q + 1) 0
          by true e =
              let less = lowered q in
              omega arith
          by false e = ap (λ b. 0 + cond b 1 0) (unknown_apart q e)

      pub lowered_counted : AreCounted known next
      lowered_counted = record {
        sorted = are.sorted;
        only = λ q absent.
            let less = lowered q in
            let none = are.only q absent in
            omega arith;
        fits = λ q.
            let less = lowered q in
            let here = are.fits q in
            omega (arith, here, less);
      }

    -- ---- a number for an interval without one
    module _ (n : ℕ) (absent : has known i ≡ false) (put : (q : Interval) → number next q ≡ cond (same i q) n (number beyond q)) where
      pub put_number : (q : Interval) → number (counted (inserted i known) next) q ≡ cond (same i q) (n + 1) (number (counted known beyond) q)
      put_number q =
          number_counted (inserted i known) next q
          ∙ (λ k. cond (has_inserted i known q k) (put q k + 1) 0)
          ∙ by (same i q) (same q i) (same_swapped i q) (has known q)
          ∙ sym (ap (λ m. cond (same i q) (n + 1) m) (number_counted known beyond q))
        where
          by : (b c : Bool) → b ≡ c → (d : Bool) → cond (c || d) (cond b n (number beyond q) + 1) 0 ≡ cond b (n + 1) (cond d (number beyond q + 1) 0)
          by true true e d = refl
          by true false e d = absurd (true≢false e)
          by false true e d = absurd (true≢false (sym e))
          by false false e d = refl

      pub put_counted : n + 1 < 2 ^ 128 → AreCounted (inserted i known) next
      put_counted room = record {
        sorted = IsSet-inserted i known are.sorted;
        only = λ q out. put q ∙ outside q (same i q) (same q i) (same_swapped i q) (has known q) refl (sym (has_inserted i known q) ∙ out);
        fits = λ q. subst (λ m. m + 1 < 2 ^ 128) (sym (put q)) (within q (same i q));
      }
        where
          outside : (q : Interval) (b c : Bool) → b ≡ c → (d : Bool) → has known q ≡ d → (c || d) ≡ false → cond b n (number beyond q) ≡ 0
          outside q true true e d f g = absurd (true≢false g)
          outside q true false e d f g = absurd (true≢false e)
          outside q false true e d f g = absurd (true≢false (sym e))
          outside q false false e true f g = absurd (true≢false g)
          outside q false false e false f g = are.only q f

          within : (q : Interval) (b : Bool) → cond b n (number beyond q) + 1 < 2 ^ 128
          within q true = room
          within q false = are.fits q

    -- ---- a number that is taken away whole
    module _ (cleared : (q : Interval) → number next q ≡ cond (same i q) 0 (number beyond q)) where
      pub cleared_number : (q : Interval) → number (counted (removed i known) next) q ≡ cond (same i q) 0 (number (counted known beyond) q)
      cleared_number q =
          number_counted (removed i known) next q
          ∙ (λ k. cond (has_removed i known q are.sorted k) (cleared q k + 1) 0)
          ∙ by (same i q) (same q i) (same_swapped i q) (has known q)
          ∙ sym (ap (λ m. cond (same i q) 0 m) (number_counted known beyond q))
        where
          by : (b c : Bool) → b ≡ c → (d : Bool) → cond (d && not c) (cond b 0 (number beyond q) + 1) 0 ≡ cond b 0 (cond d (number beyond q + 1) 0)
          by true true e true = refl
          by true true e false = refl
          by true false e d = absurd (true≢false e)
          by false true e d = absurd (true≢false (sym e))
          by false false e true = refl
          by false false e false = refl

      pub cleared_counted : AreCounted (removed i known) next
      cleared_counted = record {
        sorted = IsSet-removed i known are.sorted;
        only = λ q out. cleared q ∙ outside q (same i q) (same q i) (same_swapped i q) (has known q) refl (sym (has_removed i known q are.sorted) ∙ out);
        fits = λ q. subst (λ m. m + 1 < 2 ^ 128) (sym (cleared q)) (within q (same i q));
      }
        where
          outside : (q : Interval) (b c : Bool) → b ≡ c → (d : Bool) → has known q ≡ d → (d && not c) ≡ false → cond b 0 (number beyond q) ≡ 0
          outside q true c e d f g = refl
          outside q false true e d f g = absurd (true≢false (sym e))
          outside q false false e true f g = absurd (true≢false g)
          outside q false false e false f g = are.only q f

          within : (q : Interval) (b : Bool) → cond b 0 (number beyond q) + 1 < 2 ^ 128
          within q true = search rules
          within q false = are.fits q
