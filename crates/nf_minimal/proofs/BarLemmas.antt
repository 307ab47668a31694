-- No interval bars itself, and one that bars another one bars all that this one bars.
use Rattle.std.proofs.Common.{◌≡◌, Bool, true, false, not, ◌&&◌, ℤ, int_le, refl, ap, ◌∙◌, arith}
use Rattle.std.specs.Ordering.{int_eq}
use Rattle.std.proofs.lemmas.Bool.Decides.{Decides-int_eq}
use Rattle.std.proofs.lemmas.Int.{ints}
use Rattle.nf_lemmas.proofs.BoolLemmas.{both}
use Rattle.nf_core.specs.Intervals.{Interval, is_strictly_inside}
use Rattle.nf_minimal.specs.inner.Barred.{bars}

pub clash : {A : Type 0} (b : Bool) → b ≡ true → b ≡ false → A
clash b e f = absurd cc

le_through : (a b c : ℤ) → int_le a b ≡ true → int_le b c ≡ true → int_le a c ≡ true
le_through a b c e f = grind (arith, ints)

le_both_ways : (a b : ℤ) → int_le a b ≡ true → int_le b a ≡ true → a ≡ b
le_both_ways a b e f = grind (arith, ints)

equal_self : (a : ℤ) → int_eq a a ≡ true
equal_self a = (Decides-int_eq a a).1 refl

not_self : (a c : Bool) → c ≡ true → (a && not c) ≡ false
not_self true true e = refl
not_self true false e = absurd cc
not_self false c e = refl

not_true : (b : Bool) → not b ≡ true → b ≡ false
not_true true e = absurd cc
not_true false e = refl

both_true : (a b : Bool) → a ≡ true → b ≡ true → (a && b) ≡ true
both_true a b e f = ap (λ c. c && b) e ∙ f

-- whether two intervals have the same times
abbrev alike : Interval → Interval → Bool
alike i j = int_eq i.start j.start && int_eq i.stop j.stop

-- an interval isn't strictly inside itself
inside_not_self : (i : Interval) → is_strictly_inside i i ≡ false
inside_not_self i =
    not_self (int_le i.start i.start && int_le i.stop i.stop) (alike i i)
    (both_true (int_eq i.start i.start) (int_eq i.stop i.stop) (equal_self i.start) (equal_self i.stop))

-- strictly inside is transitive
inside_through : (i j k : Interval) → is_strictly_inside i j ≡ true → is_strictly_inside j k ≡ true → is_strictly_inside i k ≡ true
inside_through i j k e f =
    let a = both (int_le j.start i.start && int_le i.stop j.stop) (not (alike i j)) e in
    let b = both (int_le j.start i.start) (int_le i.stop j.stop) a.0 in
    let c = both (int_le k.start j.start && int_le j.stop k.stop) (not (alike j k)) f in
    let d = both (int_le k.start j.start) (int_le j.stop k.stop) c.0 in
    both_true (int_le k.start i.start && int_le i.stop k.stop) (not (alike i k))
    (both_true (int_le k.start i.start) (int_le i.stop k.stop) (le_through k.start j.start i.start d.0 b.0) (le_through i.stop j.stop k.stop b.1 d.1))
    (by (int_eq i.start k.start) (int_eq i.stop k.stop) refl refl b.0 b.1 a.1 d.0 d.1)
  where
    by : (s t : Bool) → int_eq i.start k.start ≡ s → int_eq i.stop k.stop ≡ t → int_le j.start i.start ≡ true → int_le i.stop j.stop ≡ true → not (int_eq i.start j.start && int_eq i.stop j.stop) ≡ true
        → int_le k.start j.start ≡ true → int_le j.stop k.stop ≡ true → not (s && t) ≡ true
    by true true e f starts stops other before after =
        let start = (Decides-int_eq i.start k.start).0 e in
        let stop = (Decides-int_eq i.stop k.stop).0 f in
        let same_start = le_both_ways i.start j.start (ap (λ n. int_le n j.start) start ∙ before) starts in
        let same_stop = le_both_ways i.stop j.stop stops (ap (λ n. int_le j.stop n) stop ∙ after) in
        clash (int_eq i.start j.start && int_eq i.stop j.stop)
        (both_true (int_eq i.start j.start) (int_eq i.stop j.stop) ((Decides-int_eq i.start j.start).1 same_start) ((Decides-int_eq i.stop j.stop).1 same_stop)) (not_true _ other)
    by true false e f starts stops other before after = refl
    by false t e f starts stops other before after = refl

pub bars_not_self : (full : Bool) (i : Interval) → bars full i i ≡ false
unfolding bars
bars_not_self true i = refl
bars_not_self false i = inside_not_self i

pub bars_through : (full : Bool) (i j k : Interval) → bars full i j ≡ true → bars full j k ≡ true → bars full i k ≡ true
unfolding bars
bars_through true i j k e f = e
bars_through false i j k e f = inside_through i j k e f
