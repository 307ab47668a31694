-- Deltas of names, how often their intervals stand in them, and lists that a delta leaves as they are.
use Rattle.std.proofs.Common.{◌≡◌, ℕ, ◌+◌, Bool, true, false, cond, not, ◌&&◌, ◌||◌, ◌==◌, List, [], ◌∷◌, filter, Option, Some, None, is_some, unwrap_or, refl, ap, sym, ◌∙◌, arith}
use Rattle.std.specs.Map.{lookup}
use Rattle.std.proofs.lemmas.Bool.Decides.{nat_tests}
use Rattle.nf_core.specs.Intervals.{Interval, same}
use Rattle.nf_core.specs.Sets.{IsSet, has, removed}
use Rattle.nf_core.specs.declared.intervals.Delta.{Delta}
use Rattle.nf_core.proofs.Public.SameIntervalLemmas.{same_is, same_self}
use Rattle.nf_core.proofs.Public.SetLemmas.{has_removed}
use Rattle.std.specs.List.Sorted.{IsStrictlySortedBy}
use Rattle.nf_model.specs.Changes.{lacking, delta_of}
use Rattle.nf_model.proofs.Public.LackingLemmas.{exchanged}
use Rattle.nf_pairs.specs.Deltas.{before}
use Rattle.nf_pairs.proofs.Public.DeltaLemmas.{before_delta_of}
use Rattle.nf_tally.specs.Numbers.{often}
use Rattle.nf_tally.proofs.Public.OftenLemmas.{often-cons}
use Rattle.nf_engine.specs.inner.Deltas.{NamedDeltas, no_change, delta_at, is_changed}
use Rattle.nf_engine.specs.inner.Numbered.{one_if}

-- ---- a name's delta written
module _ (new old : NamedDeltas) (name : ℕ) (d : Delta) (written : (q : ℕ) → lookup (λ m. q == m) new ≡ cond (name == q) (Some d) (lookup (λ m. q == m) old)) where
  turned : (n : ℕ) → (name == n) ≡ (n == name)
  turned n = grind (arith, nat_tests)

  pub delta_written : (n : ℕ) → delta_at new n ≡ cond (n == name) d (delta_at old n)
  delta_written n = ap (λ o. unwrap_or o no_change) (written n) ∙ by (name == n) ∙ ap (λ b. cond b d (delta_at old n)) (turned n)
    where
      by : (b : Bool) → unwrap_or (cond b (Some d) (lookup (λ m. n == m) old)) no_change ≡ cond b d (delta_at old n)
      by true = refl
      by false = refl

  pub changed_written : (n : ℕ) → is_changed new n ≡ (n == name || is_changed old n)
  changed_written n = ap (λ o. is_some o) (written n) ∙ by (name == n) ∙ ap (λ b. b || is_changed old n) (turned n)
    where
      by : (b : Bool) → is_some (cond b (Some d) (lookup (λ m. n == m) old)) ≡ (b || is_changed old n)
      by true = refl
      by false = refl

-- a name without a delta stays
pub unchanged_at : (changed : NamedDeltas) (n : ℕ) → is_changed changed n ≡ false → delta_at changed n ≡ no_change
unchanged_at changed n = by (lookup (λ m. n == m) changed)
  where
    by : (o : Option Delta) → is_some o ≡ false → unwrap_or o no_change ≡ no_change
    by None e = refl
    by (Some d) e = absurd cc

-- ---- how often an interval stands in a set
absent_again : (x : Interval) (xs : List Interval) → IsSet (x ∷ xs) → has xs x ≡ false
absent_again x xs s =
    ap (λ b. has (cond b xs (x ∷ removed x xs)) x) (sym (same_self x)) ∙ has_removed x (x ∷ xs) x s
    ∙ ap (λ b. has (x ∷ xs) x && not b) (same_self x) ∙ none (has (x ∷ xs) x)
  where
    none : (b : Bool) → (b && not true) ≡ false
    none true = refl
    none false = refl

pub often_set : (is : List Interval) (q : Interval) → IsSet is → often is q ≡ one_if (has is q)
unfolding IsStrictlySortedBy
often_set [] q s = refl
often_set (x ∷ xs) q s = often-cons x xs q ∙ by (same q x) refl (often_set xs q s.1)
  where
    by : (b : Bool) → same q x ≡ b → often xs q ≡ one_if (has xs q) → cond b 1 0 + often xs q ≡ one_if (b || has xs q)
    by true e rest =
        let gone : has xs q ≡ false = ap (has xs) (same_is q x e) ∙ absent_again x xs s in
        let zero : often xs q ≡ 0 = rest ∙ ap one_if gone in
        omega arith
    by false e rest = let more : often xs q ≡ one_if (has xs q) = rest in omega arith

-- what one set has, with what came, is what another one has, with what went
pub moved : (old new : List Interval) (q : Interval) → IsSet old → IsSet new
    → one_if (has old q) + often (delta_of old new).come q ≡ one_if (has new q) + often (delta_of old new).gone q
moved old new q s t =
    ap (λ n. n + often (lacking new old) q) (sym (often_set old q s)) ∙ exchanged (λ x. cond (same q x) 1 0) old new s t
    ∙ ap (λ n. n + often (lacking old new) q) (often_set new q t)

-- ---- a list stays where its delta says so
all_kept : (is : List Interval) → filter (λ i. not (has [] i)) is ≡ is
all_kept [] = refl
all_kept (x ∷ xs) = ap (λ ys. x ∷ ys) (all_kept xs)

pub stays : (old new : List Interval) → IsSet old → IsSet new → delta_of old new ≡ no_change → new ≡ old
stays old new s t nothing =
    sym (all_kept new) ∙ sym (ap (λ (d : Delta). before d new) nothing) ∙ before_delta_of old new s t
