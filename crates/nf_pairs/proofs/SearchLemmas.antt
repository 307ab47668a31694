-- What a search by halves says of a sorted list.
use Rattle.std.proofs.Common.{◌≡◌, ℕ, ◌+◌, List, length, get_or, Result, Ok, Err, ⊎_elim, ap, sym, ◌∙◌, arith}
use Rattle.std.specs.declared.cmp.Ordering.TheVariants.{Less}
use Rattle.std.specs.Ordering.{is_lt, is_eq, ordering_reverse}
use Rattle.std.specs.Result.{is_ok}
use Rattle.std.specs.List.Sorted.{IsSearchInRange, IsBinarySearchResult, IsSorted}
use Rattle.std.proofs.lemmas.List.Sorted.{searchable_from_sorted}
use Rattle.std.proofs.lemmas.List.Folds.{list_any_at, list_any_none}
use Rattle.std.proofs.lemmas.Bool.{cases_lt}
use Rattle.std.proofs.lemmas.Map.Keys.{Less-from_sorted}
use Rattle.nf_core.specs.Intervals.{Interval, interval_cmp, interval_cmp_total, same}
use Rattle.nf_core.specs.Sets.{IsSet, has}
use Rattle.nf_core.proofs.Public.SameIntervalLemmas.{exact_interval, same_self, same_swapped}

-- a set ascends
ascends : (list : List Interval) → IsSet list → IsSorted interval_cmp list
ascends list s k d low high =
    let up : interval_cmp (get_or list k d) (get_or list (k + 1) d) ≡ Less = Less-from_sorted interval_cmp list k (k + 1) d s (omega arith) high in
    ap is_lt (interval_cmp_total.antisymm (get_or list (k + 1) d) (get_or list k d) ∙ ap ordering_reverse up)

-- a search finds an interval exactly where it is there
pub found_is : (list : List Interval) (i : Interval) (r : Result ℕ ℕ) → IsSet list → IsSearchInRange r (length list) → IsBinarySearchResult (λ y. interval_cmp y i) list r → is_ok r ≡ has list i
found_is list i (Ok k) s within at =
    let is : get_or list k i ≡ i = exact_interval (get_or list k i) i (at i) in
    sym (list_any_at (same i) list k i within (ap (same i) is ∙ same_self i))
found_is list i (Err k) s within at =
    let parts = at (searchable_from_sorted interval_cmp_total (λ y. y) list i (ascends list s)) in
    sym (list_any_none (same i) list (λ j d inside. same_swapped i (get_or list j d) ∙ ⊎_elim (λ h. ap is_eq (parts.0 j d (omega arith) h)) (λ h. ap is_eq (parts.1 j d h inside)) (cases_lt j k)))
