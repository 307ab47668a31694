-- Lists of intervals by name, before anything was entered and where one of them is exchanged.
use Rattle.std.proofs.Common.{◌≡◌, ℕ, ◌<◌, ◌≤◌, List, [], replicate, length, slice_set, sym, subst, inl, inr}
use Rattle.std.proofs.lemmas.Bool.{cases_lt}
use Rattle.std.proofs.lemmas.Bool.Decides.{eqb_tells}
use Rattle.std.proofs.lemmas.List.{get_or-replicate, get_or_past, length-replicate, get_or-set_same, get_or-set_other}
use Rattle.nf_core.specs.Intervals.{Interval}
use Rattle.nf_model.specs.Pools.{Inputs, of_name}

-- before anything was entered every list is empty
pub nothing_entered : (count n : ℕ) → of_name (replicate count []) n ≡ []
nothing_entered count n =
    elim (cases_lt n count) [
      | inl before ↦ get_or-replicate count n [] [] before
      | inr past ↦ get_or_past (replicate count []) n [] (subst (λ (k : ℕ). k ≤ n) (sym (length-replicate count [])) past)
    ]

-- what holds of each name's list stays where one list is exchanged for another of which it holds
pub set_each : (Q : ℕ → List Interval → Type 0) (lists : Inputs) (n : ℕ) (list : List Interval) → n < length lists → ((m : ℕ) → Q m (of_name lists m)) → Q n list
    → (m : ℕ) → Q m (of_name (slice_set lists n list) m)
set_each Q lists n list within each new m =
    elim (eqb_tells m n) [
      | inl is ↦ subst (λ (k : ℕ). Q k (of_name (slice_set lists n list) k)) (sym is.1) (subst (Q n) (sym (get_or-set_same lists n list [] within)) new)
      | inr apart ↦ subst (Q m) (sym (get_or-set_other lists n m list [] apart.1)) (each m)
    ]
