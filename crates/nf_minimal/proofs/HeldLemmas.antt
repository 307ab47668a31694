-- The held ones of two stores are the minimal ones of both, or all of them where all are held.
use Rattle.std.proofs.Common.{◌≡◌, Bool, true, false, not, ◌&&◌, ◌||◌, List, [], ◌∷◌, subst, refl, sym, ap, ◌∙◌}
use Rattle.std.specs.List.{list_any}
use Rattle.nf_core.specs.Intervals.{Interval, is_strictly_inside}
use Rattle.nf_core.specs.Sets.{has, once}
use Rattle.nf_core.proofs.Public.SetLemmas.{has_filter, has_once, IsSet-once, same_set, any_passes, any_member}
use Rattle.nf_model.specs.Pools.{judged, minimal, is_minimal}
use Rattle.nf_minimal.specs.Minimals.{Minimal, candidates_of, held_of}
use Rattle.nf_minimal.specs.inner.Barred.{bars, is_barred}
use Rattle.nf_minimal.specs.inner.Judged.{IsJudged, IsKept}
use Rattle.nf_minimal.proofs.BarLemmas.{clash, bars_through}
use Rattle.nf_minimal.proofs.Public.CandidateLemmas.{has_candidates}

-- where all are held none is barred
pub none_barred : (is : List Interval) (q : Interval) → is_barred true is q ≡ false
unfolding bars
none_barred [] q = refl
none_barred (i ∷ is) q = none_barred is q

-- else those are that one lies strictly inside
inside_barred : (is : List Interval) (q : Interval) → is_barred false is q ≡ list_any (λ j. is_strictly_inside j q) is
unfolding bars
inside_barred is q = refl

bars_inside : (i j : Interval) → bars false i j ≡ is_strictly_inside i j
unfolding bars
bars_inside i j = refl

or_first : (a b : Bool) → a ≡ true → (a || b) ≡ true
or_first a b e = ap (λ c. c || b) e

or_second : (a b : Bool) → b ≡ true → (a || b) ≡ true
or_second true b e = refl
or_second false b e = e

module _ (held suppressed all : List Interval) where
  pub held_full : IsJudged true held suppressed → ((q : Interval) → has all q ≡ (has held q || has suppressed q)) → held ≡ judged true all
  held_full kept members =
      same_set held (once all) kept.held_set (IsSet-once all) (λ q. sym (has_once all q ∙ members q ∙ by q (has suppressed q) refl))
    where
      or_false : (b : Bool) → (b || false) ≡ b
      or_false true = refl
      or_false false = refl

      by : (q : Interval) (b : Bool) → has suppressed q ≡ b → (has held q || b) ≡ has held q
      by q true e = clash (is_barred true held q) (kept.barred q e) (none_barred held q)
      by q false e = or_false (has held q)

  pub held_minimal : IsJudged false held suppressed → ((q : Interval) → has all q ≡ (has held q || has suppressed q)) → held ≡ judged false all
  held_minimal kept members =
      same_set held (once (minimal all)) kept.held_set (IsSet-once (minimal all))
      (λ q. sym (has_once (minimal all) q ∙ has_filter (is_minimal all) q all ∙ by q (has held q) (has suppressed q) refl refl))
    where
      inside : Interval → Interval → Bool
      inside q j = is_strictly_inside j q

      -- nothing lies strictly inside a held one
      none : (q : Interval) → has held q ≡ true → (j : Interval) (b : Bool) → has held j ≡ b → (b || has suppressed j) ≡ true → bars false j q ≡ true → (c : Bool) → c ≡ false
      none q there j true e also bar c = clash (is_barred false held q) (any_member (λ k. bars false k q) held j e bar) (kept.free q there)
      none q there j false e also bar c =
          let m = any_passes (λ k. bars false k j) held (kept.barred j also) in
          clash (is_barred false held q) (any_member (λ k. bars false k q) held m.member m.there (bars_through false m.member j q m.passes bar)) (kept.free q there)

      free : (q : Interval) → has held q ≡ true → (b : Bool) → list_any (λ j. is_strictly_inside j q) all ≡ b → list_any (λ j. is_strictly_inside j q) all ≡ false
      free q there false e = e
      free q there true e =
          let m = any_passes (λ j. is_strictly_inside j q) all e in
          none q there m.member (has held m.member) refl (sym (members m.member) ∙ m.there) (bars_inside m.member q ∙ m.passes) (list_any (λ j. is_strictly_inside j q) all)

      barred : (q : Interval) → has suppressed q ≡ true → list_any (λ j. is_strictly_inside j q) all ≡ true
      barred q there =
          let m = any_passes (λ k. bars false k q) held (kept.barred q there) in
          any_member (λ j. is_strictly_inside j q) all m.member (members m.member ∙ or_first (has held m.member) (has suppressed m.member) m.there) (sym (bars_inside m.member q) ∙ m.passes)

      and_false : (b : Bool) → (b && false) ≡ false
      and_false true = refl
      and_false false = refl

      by : (q : Interval) (a b : Bool) → has held q ≡ a → has suppressed q ≡ b → (has all q && is_minimal all q) ≡ has held q
      by q true b e f =
          ap (λ c. c && is_minimal all q) (members q ∙ or_first (has held q) (has suppressed q) e)
          ∙ ap not (free q e (list_any (λ j. is_strictly_inside j q) all) refl) ∙ sym e
      by q false true e f = ap (λ c. has all q && not c) (barred q f) ∙ and_false (has all q) ∙ sym e
      by q false false e f = ap (λ c. c && is_minimal all q) (members q ∙ ap (λ c. c || has suppressed q) e ∙ f) ∙ sym e

-- what is kept for an interval's numbers is what is held of the candidates
pub held_is : (m : Minimal) (held suppressed : List Interval) → IsKept m.full m.sources held suppressed → held ≡ held_of m
held_is m held suppressed kept = by m.full refl
  where
    members : (q : Interval) → has (candidates_of m) q ≡ (has held q || has suppressed q)
    members q = has_candidates m q ∙ sym (kept.members q)

    by : (b : Bool) → m.full ≡ b → held ≡ judged m.full (candidates_of m)
    by true e = held_full held suppressed (candidates_of m) (subst (λ f. IsJudged f held suppressed) e kept.judged) members ∙ ap (λ f. judged f (candidates_of m)) (sym e)
    by false e = held_minimal held suppressed (candidates_of m) (subst (λ f. IsJudged f held suppressed) e kept.judged) members ∙ ap (λ f. judged f (candidates_of m)) (sym e)
