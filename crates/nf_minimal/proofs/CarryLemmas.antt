-- How the held ones' delta follows one that enters and one that leaves.
use Rattle.std.proofs.Common.{◌≡◌, Bool, true, false, not, ◌&&◌, ◌||◌, List, refl, sym, ap, ◌∙◌}
use Rattle.nf_core.specs.Intervals.{Interval, same}
use Rattle.nf_core.specs.Sets.{IsSet, has, inserted, removed}
use Rattle.nf_core.specs.declared.intervals.Delta.{Delta}
use Rattle.nf_core.proofs.Public.SameIntervalLemmas.{same_swapped}
use Rattle.nf_core.proofs.Public.SetLemmas.{has_inserted, has_removed}
use Rattle.nf_tally.specs.Deltas.{Enters, Leaves, Follows}
use Rattle.nf_minimal.specs.inner.Judged.{Carries}

and_swapped : (a b : Bool) → (a && b) ≡ (b && a)
and_swapped true true = refl
and_swapped true false = refl
and_swapped false true = refl
and_swapped false false = refl

pub carries_in : (i : Interval) (is : List Interval) (delta next : Delta) → has is i ≡ false → Follows (Enters i) delta next → Carries is (inserted i is) delta next
carries_in i is delta next out follows = λ was. follows was (has is) (has (inserted i is)) (record {
  absent = out;
  next_is = λ q. has_inserted i is q ∙ ap (λ b. b || has is q) (same_swapped q i);
})

pub carries_out : (i j : Interval) (is : List Interval) (delta next : Delta) → IsSet is → has is i ≡ true → j ≡ i → Follows (Leaves j) delta next → Carries is (removed i is) delta next
carries_out i j is delta next s there it follows = λ was. follows was (has is) (has (removed i is)) (record {
  there = ap (has is) it ∙ there;
  next_is = λ q. has_removed i is q s ∙ and_swapped (has is q) (not (same q i)) ∙ ap (λ b. not b && has is q) (same_swapped q i ∙ ap (λ k. same k q) (sym it));
})
