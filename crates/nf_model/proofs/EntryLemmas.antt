-- The entries of a map by place.
use Rattle.std.proofs.Common.{◌≡◌, ◌≢◌, inl, inr, ℕ, zero, suc, ◌+◌, ◌≤◌, ◌==◌, Bool, true, false, cond, List, [], ◌∷◌, length, Option, Some, None, All, IfSome, refl, ap, sym, subst, arith}
use Rattle.std.specs.List.{find}
use Rattle.std.proofs.lemmas.Bool.Decides.{eqb_tells}
use Rattle.std.proofs.lemmas.List.Elements.{All-head, All-tail}
use Rattle.nf_core.specs.declared.terms.PlanEntry.{PlanEntry}
use Rattle.nf_model.specs.inner.MapEntries.{one_entry, mapped_at}

-- what holds of each member holds of the one that is found
found : {X : Type 0} (P : X → Type 0) (test : X → Bool) (xs : List X) → All P xs → IfSome (find test xs) P
found P test [] h = tt
found P test (x ∷ xs) h =
    elim (test x) as (λ b. IfSome (cond b (Some x) (find test xs)) P) [ true ↦ All-head P x xs h | false ↦ found P test xs (All-tail P x xs h) ]

-- what holds of each entry holds of the one with a place
pub found_entry : (P : PlanEntry → Type 0) (entries : List PlanEntry) (place : ℕ) (entry : PlanEntry) → All P entries
    → Some entry ≡ find (λ (e : PlanEntry). e.place == place) entries → P entry
found_entry P entries place entry h is =
    subst (λ o. IfSome o P) (sym is) (found P (λ (e : PlanEntry). e.place == place) entries h)

-- how many places below a number a map has entries with
pub mapped : List PlanEntry → ℕ → ℕ
mapped entries zero = 0
mapped entries (suc k) = mapped entries k + mapped_at entries k

pub mapped_more : (entries : List PlanEntry) (k : ℕ) → mapped entries (k + 1) ≡ mapped entries k + mapped_at entries k
unfolding mapped
mapped_more entries k = let e : k + 1 ≡ suc k = omega arith in ap (mapped entries) e

pub none_below : (entries : List PlanEntry) → mapped entries 0 ≡ 0
unfolding mapped
none_below entries = refl

-- an entry whose place is another one changes nothing at a place, and one whose place it is gives one
at_other : (entry : PlanEntry) (entries : List PlanEntry) (k : ℕ) → entry.place ≢ k → mapped_at (entry ∷ entries) k ≡ mapped_at entries k
at_other entry entries k other =
    elim (eqb_tells entry.place k) [
      | inl is ↦ absurd (other is.1)
      | inr apart ↦ ap (λ (b : Bool). one_entry (cond b (Some entry) (find (λ (e : PlanEntry). e.place == k) entries))) apart.0
    ]

one_at_most : (o : Option PlanEntry) → one_entry o ≤ 1
one_at_most None = omega arith
one_at_most (Some entry) = omega arith

-- an entry whose place isn't below a number changes nothing
past : (entry : PlanEntry) (entries : List PlanEntry) (k : ℕ) → k ≤ entry.place → mapped (entry ∷ entries) k ≤ mapped entries k
unfolding mapped
past entry entries zero h = omega arith
past entry entries (suc k) h = omega (arith, past entry entries k (omega (arith, h)), at_other entry entries k (omega (arith, h)))

-- one more entry gives one more place at most
one_more : (entry : PlanEntry) (entries : List PlanEntry) (k : ℕ) → mapped (entry ∷ entries) k ≤ mapped entries k + 1
unfolding mapped
one_more entry entries zero = omega arith
one_more entry entries (suc k) =
    let most : mapped_at (entry ∷ entries) k ≤ 1 = one_at_most (find (λ (e : PlanEntry). e.place == k) (entry ∷ entries)) in
    elim (eqb_tells entry.place k) [
      | inl is ↦ omega (arith, most, past entry entries k (let e : entry.place ≡ k = is.1 in omega (arith, e)))
      | inr apart ↦ omega (arith, one_more entry entries k, at_other entry entries k apart.1)
    ]

none_mapped : (k : ℕ) → mapped [] k ≡ 0
unfolding mapped
none_mapped zero = refl
none_mapped (suc k) = omega (arith, none_mapped k)

-- no more than there are entries
pub mapped_few : (entries : List PlanEntry) (k : ℕ) → mapped entries k ≤ length entries
mapped_few [] k = omega (arith, none_mapped k)
mapped_few (entry ∷ entries) k = omega (arith, one_more entry entries k, mapped_few entries k)
