-- What one sorted list has beyond another one, counted.
use Rattle.std.proofs.Common.{◌≡◌, ℕ, ◌+◌, not, List, filter, refl, ap, arith}
use Rattle.std.specs.List.{sum_by}
use Rattle.std.proofs.lemmas.List.Filters.{sum_by-filter_both}
use Rattle.nf_core.specs.Intervals.{Interval}
use Rattle.nf_core.specs.Sets.{IsSet, has}
use Rattle.nf_core.proofs.Public.SetLemmas as set_lemmas
use Rattle.nf_model.specs.Changes.{lacking}

-- one set with what another one has beyond it, and that one with what the first one has beyond it
pub exchanged : (f : Interval → ℕ) (a b : List Interval) → IsSet a → IsSet b → sum_by f a + sum_by f (lacking b a) ≡ sum_by f b + sum_by f (lacking a b)
exchanged f a b s t =
    let shared : sum_by f (filter (has b) a) ≡ sum_by f (filter (has a) b) = ap (sum_by f) (set_lemmas.shared a b s t) in
    let one = sum_by-filter_both (has b) (λ i. not (has b i)) (λ i. refl) f a in
    let other = sum_by-filter_both (has a) (λ i. not (has a i)) (λ i. refl) f b in
    omega arith

pub lacking_fewer : (f : Interval → ℕ) (a b : List Interval) → sum_by f (lacking a b) + sum_by f (filter (has b) a) ≡ sum_by f a
lacking_fewer f a b = let one = sum_by-filter_both (has b) (λ i. not (has b i)) (λ i. refl) f a in omega arith
