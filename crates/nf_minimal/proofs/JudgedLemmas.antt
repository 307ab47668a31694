-- Which candidates are held after one arrives, and after one leaves.
use Rattle.std.proofs.Common.{◌≡◌, Bool, true, false, not, ◌&&◌, ◌||◌, List, refl, sym, ap, ◌∙◌}
use Rattle.nf_core.specs.Intervals.{Interval, same}
use Rattle.nf_core.specs.Sets.{IsSet, has, inserted, removed}
use Rattle.nf_core.proofs.Public.SameIntervalLemmas.{same_is, same_self}
use Rattle.nf_core.proofs.Public.SetLemmas.{has_inserted, has_removed, IsSet-inserted, IsSet-removed, any_passes, any_member}
use Rattle.nf_minimal.specs.inner.Barred.{bars, is_barred}
use Rattle.nf_minimal.specs.inner.Judged.{IsJudged}
use Rattle.nf_minimal.proofs.BarLemmas.{clash, bars_not_self, bars_through}

first_of : (a b : Bool) → (a && b) ≡ true → a ≡ true
first_of true b e = refl
first_of false b e = absurd cc

second_of : (a b : Bool) → (a && not b) ≡ true → b ≡ false
second_of true true e = absurd cc
second_of true false e = refl
second_of false b e = absurd cc

or_second : (a b : Bool) → b ≡ true → (a || b) ≡ true
or_second true b e = refl
or_second false b e = e

module _ (full : Bool) (i : Interval) where
  -- a barred one is suppressed
  pub suppressed_arrives : (held suppressed : List Interval) → IsJudged full held suppressed → is_barred full held i ≡ true → IsJudged full held (inserted i suppressed)
  suppressed_arrives held suppressed judged barred = record {
    held_set = judged.held_set;
    suppressed_set = IsSet-inserted i suppressed judged.suppressed_set;
    free = judged.free;
    barred = λ q there. by q (same q i) refl (sym (has_inserted i suppressed q) ∙ there);
  }
    where
      by : (q : Interval) (b : Bool) → same q i ≡ b → (b || has suppressed q) ≡ true → is_barred full held q ≡ true
      by q true e there = ap (is_barred full held) (same_is q i e) ∙ barred
      by q false e there = judged.barred q there

  -- another one is held, and the held ones that it bars are suppressed
  pub held_arrives : (held suppressed rest others : List Interval) → IsJudged full held suppressed → is_barred full held i ≡ false → IsSet rest → IsSet others
      → ((q : Interval) → has rest q ≡ (has held q && not (bars full i q))) → ((q : Interval) → has others q ≡ (has suppressed q || (has held q && bars full i q)))
      → IsJudged full (inserted i rest) others
  held_arrives held suppressed rest others judged unbarred s t kept moved = record {
    held_set = IsSet-inserted i rest s;
    suppressed_set = t;
    free = λ q there. free q (same q i) refl (sym (has_inserted i rest q) ∙ there) (is_barred full (inserted i rest) q) refl;
    barred = λ q there. barred q (has suppressed q) refl (sym (moved q) ∙ there);
  }
    where
      -- a held one that bars another one doesn't bar a free one
      none : (q : Interval) → has held q ≡ true → (j : Interval) → has held j ≡ true → bars full j q ≡ true → (c : Bool) → c ≡ false
      none q there j also bar c = clash (is_barred full held q) (any_member (λ k. bars full k q) held j also bar) (judged.free q there)

      at : (q : Interval) (b : Bool) → same q i ≡ b → (b || has rest q) ≡ true → (j : Interval) (d : Bool) → same j i ≡ d → (d || has rest j) ≡ true → bars full j q ≡ true → (c : Bool) → c ≡ false
      at q true e there j true f also bar c =
          clash (bars full i i) (sym (ap (λ k. bars full k i) (same_is j i f)) ∙ sym (ap (bars full j) (same_is q i e)) ∙ bar) (bars_not_self full i)
      at q true e there j false f also bar c =
          clash (is_barred full held i) (any_member (λ k. bars full k i) held j (first_of (has held j) (not (bars full i j)) (sym (kept j) ∙ also)) (sym (ap (bars full j) (same_is q i e)) ∙ bar)) unbarred
      at q false e there j true f also bar c =
          clash (bars full i q) (sym (ap (λ k. bars full k q) (same_is j i f)) ∙ bar) (second_of (has held q) (bars full i q) (sym (kept q) ∙ there))
      at q false e there j false f also bar c =
          none q (first_of (has held q) (not (bars full i q)) (sym (kept q) ∙ there)) j (first_of (has held j) (not (bars full i j)) (sym (kept j) ∙ also)) bar c

      free : (q : Interval) (b : Bool) → same q i ≡ b → (b || has rest q) ≡ true → (c : Bool) → is_barred full (inserted i rest) q ≡ c → is_barred full (inserted i rest) q ≡ false
      free q b e there false f = f
      free q b e there true f =
          let m = any_passes (λ k. bars full k q) (inserted i rest) f in
          at q b e there m.member (same m.member i) refl (sym (has_inserted i rest m.member) ∙ m.there) m.passes (is_barred full (inserted i rest) q)

      itself : has (inserted i rest) i ≡ true
      itself = has_inserted i rest i ∙ ap (λ b. b || has rest i) (same_self i)

      by_it : (q : Interval) → bars full i q ≡ true → is_barred full (inserted i rest) q ≡ true
      by_it q bar = any_member (λ k. bars full k q) (inserted i rest) i itself bar

      still : (q h : Interval) (b : Bool) → bars full i h ≡ b → has held h ≡ true → bars full h q ≡ true → is_barred full (inserted i rest) q ≡ true
      still q h true e there bar = by_it q (bars_through full i h q e bar)
      still q h false e there bar =
          any_member (λ k. bars full k q) (inserted i rest) h
          (has_inserted i rest h ∙ or_second (same h i) (has rest h) (kept h ∙ ap (λ b. has held h && not b) e ∙ ap (λ b. b && true) there)) bar

      second_true : (a b : Bool) → (a && b) ≡ true → b ≡ true
      second_true true b e = e
      second_true false b e = absurd cc

      barred : (q : Interval) (b : Bool) → has suppressed q ≡ b → (b || (has held q && bars full i q)) ≡ true → is_barred full (inserted i rest) q ≡ true
      barred q false e there = by_it q (second_true (has held q) (bars full i q) there)
      barred q true e there =
          let m = any_passes (λ k. bars full k q) held (judged.barred q e) in
          still q m.member (bars full i m.member) refl m.there m.passes

  -- a suppressed one leaves
  pub suppressed_leaves : (held suppressed : List Interval) → IsJudged full held suppressed → IsJudged full held (removed i suppressed)
  suppressed_leaves held suppressed judged = record {
    held_set = judged.held_set;
    suppressed_set = IsSet-removed i suppressed judged.suppressed_set;
    free = judged.free;
    barred = λ q there. judged.barred q (first_of (has suppressed q) (not (same q i)) (sym (has_removed i suppressed q judged.suppressed_set) ∙ there));
  }

  -- a held one leaves, and those that it bars are taken out
  pub held_leaves : (held suppressed rest : List Interval) → IsJudged full held suppressed → IsSet rest
      → ((q : Interval) → bars full i q ≡ false → has rest q ≡ has suppressed q) → ((q : Interval) → has rest q ≡ true → bars full i q ≡ false)
      → IsJudged full (removed i held) rest
  held_leaves held suppressed rest judged s kept out = record {
    held_set = IsSet-removed i held judged.held_set;
    suppressed_set = s;
    free = λ q there. free q (was q there) (is_barred full (removed i held) q) refl;
    barred = λ q there. barred q there;
  }
    where
      was : (q : Interval) → has (removed i held) q ≡ true → has held q ≡ true
      was q there = first_of (has held q) (not (same q i)) (sym (has_removed i held q judged.held_set) ∙ there)

      free : (q : Interval) → has held q ≡ true → (c : Bool) → is_barred full (removed i held) q ≡ c → is_barred full (removed i held) q ≡ false
      free q there false f = f
      free q there true f =
          let m = any_passes (λ k. bars full k q) (removed i held) f in
          clash (is_barred full held q) (any_member (λ k. bars full k q) held m.member (was m.member m.there) m.passes) (judged.free q there)

      still : (q h : Interval) (b : Bool) → same h i ≡ b → has held h ≡ true → bars full h q ≡ true → bars full i q ≡ false → is_barred full (removed i held) q ≡ true
      still q h true e there bar apart = clash (bars full i q) (sym (ap (λ k. bars full k q) (same_is h i e)) ∙ bar) apart
      still q h false e there bar apart =
          any_member (λ k. bars full k q) (removed i held) h
          (has_removed i held h judged.held_set ∙ ap (λ b. has held h && not b) e ∙ ap (λ b. b && true) there) bar

      barred : (q : Interval) → has rest q ≡ true → is_barred full (removed i held) q ≡ true
      barred q there =
          let m = any_passes (λ k. bars full k q) held (judged.barred q (sym (kept q (out q there)) ∙ there)) in
          still q m.member (same m.member i) refl m.there m.passes (out q there)
