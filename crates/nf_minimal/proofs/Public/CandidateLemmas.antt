-- The candidates are the intervals with a number, and lists with the same members are judged alike.
use Rattle.std.proofs.Common.{◌≡◌, ℕ, Bool, true, false, cond, not, ◌&&◌, ◌||◌, List, [], ◌∷◌, Some, map, unwrap_or, refl, sym, ap, ◌∙◌}
use Rattle.std.specs.Map.{lookup}
use Rattle.nf_core.specs.Intervals.{Interval, same, is_strictly_inside}
use Rattle.nf_core.specs.Sets.{has, once}
use Rattle.nf_core.proofs.Public.SetLemmas.{has_filter, has_once, IsSet-once, same_set, any_alike}
use Rattle.nf_tally.specs.Numbers.{Numbers, number, is_on}
use Rattle.nf_model.specs.Pools.{judged, minimal, is_minimal}
use Rattle.nf_minimal.specs.Minimals.{Minimal, candidates_of}

-- an interval with a number has an entry
has_entry : (sources : Numbers) (q : Interval) → is_on (number sources q) ≡ true → has (map (λ (e : Interval × ℕ). e.0) sources) q ≡ true
has_entry [] q on = absurd cc
has_entry (e ∷ es) q on = by (same q e.0) (λ h. has_entry es q h) on
  where
    by : (b : Bool) → (is_on (number es q) ≡ true → has (map (λ (e : Interval × ℕ). e.0) es) q ≡ true)
        → is_on (unwrap_or (cond b (Some e.1) (lookup (same q) es)) 0) ≡ true → (b || has (map (λ (e : Interval × ℕ). e.0) es) q) ≡ true
    by true rest h = refl
    by false rest h = rest h

-- an interval is a candidate where it has a number
pub has_candidates : (m : Minimal) (q : Interval) → has (candidates_of m) q ≡ is_on (number m.sources q)
has_candidates m q =
    has_filter (λ i. is_on (number m.sources i)) q (once keys) ∙ ap (λ b. b && is_on (number m.sources q)) (has_once keys q)
    ∙ by (is_on (number m.sources q)) refl
  where
    keys : List Interval
    keys = map (λ (e : Interval × ℕ). e.0) m.sources

    and_false : (b : Bool) → (b && false) ≡ false
    and_false true = refl
    and_false false = refl

    by : (b : Bool) → is_on (number m.sources q) ≡ b → (has keys q && b) ≡ b
    by true on = ap (λ b. b && true) (has_entry m.sources q on)
    by false on = and_false (has keys q)

-- ---- lists with the same members
pub minimal_alike : (is js : List Interval) → ((q : Interval) → has is q ≡ has js q) → (q : Interval) → has (minimal is) q ≡ has (minimal js) q
minimal_alike is js alike q =
    has_filter (is_minimal is) q is ∙ ap (λ b. b && is_minimal is q) (alike q)
    ∙ ap (λ b. has js q && not b) (any_alike (λ j. is_strictly_inside j q) is js (λ p _. alike p)) ∙ sym (has_filter (is_minimal js) q js)

pub judged_alike : (all : Bool) (is js : List Interval) → ((q : Interval) → has is q ≡ has js q) → judged all is ≡ judged all js
judged_alike true is js alike =
    same_set (once is) (once js) (IsSet-once is) (IsSet-once js) (λ q. has_once is q ∙ alike q ∙ sym (has_once js q))
judged_alike false is js alike =
    same_set (once (minimal is)) (once (minimal js)) (IsSet-once (minimal is)) (IsSet-once (minimal js))
    (λ q. has_once (minimal is) q ∙ minimal_alike is js alike q ∙ sym (has_once (minimal js) q))
