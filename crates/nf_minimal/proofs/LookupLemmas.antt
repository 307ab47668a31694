-- What the first of a walk over some intervals of a store says of the store.
use Rattle.std.proofs.Common.{◌≡◌, Bool, true, false, ◌&&◌, ◌||◌, List, [], ◌∷◌, Option, Some, None, MatchOption, filter, refl, sym, ap, ◌∙◌}
use Rattle.std.specs.Option.{is_some}
use Rattle.std.specs.List.{list_any}
use Rattle.std.specs.List.Sorted.{IsPermutation}
use Rattle.std.proofs.lemmas.List.Sorted.{list_any-IsPermutation}
use Rattle.nf_lemmas.proofs.BoolLemmas.{both}
use Rattle.nf_core.specs.Intervals.{Interval, same}
use Rattle.nf_core.specs.Sets.{has}
use Rattle.nf_core.proofs.Public.SameIntervalLemmas.{same_self}
use Rattle.nf_core.proofs.Public.SetLemmas.{has_filter, any_passes, any_member}
use Rattle.nf_minimal.proofs.BarLemmas.{clash}

module _ (p : Interval → Bool) (store : List Interval) where
  members : (walk : List Interval) (q : Interval) → IsPermutation (filter p store) walk → (has store q && p q) ≡ has walk q
  members walk q some = sym (has_filter p q store) ∙ list_any-IsPermutation (same q) (filter p store) walk some

  -- none
  pub none_passes : (walk : List Interval) → IsPermutation (filter p store) walk → walk ≡ [] → (q : Interval) → has store q ≡ true → p q ≡ false
  none_passes walk some empty q there = sym (ap (λ b. b && p q) there) ∙ members walk q some ∙ ap (λ is. has is q) empty

  -- one
  pub first_passes : (walk rest : List Interval) (x : Interval) → IsPermutation (filter p store) walk → walk ≡ x ∷ rest → (has store x ≡ true) × (p x ≡ true)
  first_passes walk rest x some first =
      both (has store x) (p x) (members walk x some ∙ ap (λ is. has is x) first ∙ ap (λ b. b || has rest x) (same_self x))

  -- whether there is one
  pub any_found : {X : Type 0} (now : X → Interval) (found : Option X) (walk rest : List Interval) → IsPermutation (filter p store) walk
      → MatchOption found ((walk ≡ []) × (rest ≡ [])) (λ x. walk ≡ now x ∷ rest) → is_some found ≡ list_any p store
  any_found now (Some x) walk rest some first =
      let it = first_passes walk rest (now x) some first in
      sym (any_member p store (now x) it.0 it.1)
  any_found now None walk rest some first = sym (by (list_any p store) refl)
    where
      by : (b : Bool) → list_any p store ≡ b → list_any p store ≡ false
      by true e = let m = any_passes p store e in clash (p m.member) m.passes (none_passes walk some first.0 m.member m.there)
      by false e = e
