-- The parts of a rule one after the other, and the step of the loop that goes through the entries of a map.
use Rattle.std.proofs.Common.{◌≡◌, ℕ, suc, ◌+◌, ◌<◌, ◌≤◌, List, [], ◌∷◌, ◌++◌, length, get_or, take, drop, drop-cons, add-one, Option, Some, None, refl, sym, ap, ◌∙◌}
use Rattle.std.proofs.Math.ListN.{drop_of_length-le}
use Rattle.std.proofs.lemmas.List.{take_more}
use Rattle.nf_core.specs.declared.trees.Entry.{Entry}
use Rattle.nf_core.specs.declared.trees.Body.{Body}
use Rattle.nf_typing.specs.declared.fault.KindFault.{KindFault}
use Rattle.nf_typing.specs.Faults.{first, entry_fault, entries_fault}

-- of one part alone
pub first_alone : (a : Option KindFault) → first (a ∷ []) ≡ a
first_alone None = refl
first_alone (Some fault) = refl

module _ (b : Body) (entries : List Entry) (whole : Option KindFault) (i : ℕ) where
  -- the first fault of all entries is that of the entries from this place on
  pub record IsFrom : Type 0 where
    pub same : whole ≡ entries_fault b (take i entries) (drop i entries)

module _ (b : Body) (entries : List Entry) (whole : Option KindFault) where
  at_entry : (i : ℕ) (x : Entry) → i < length entries → x ≡ get_or entries i x → IsFrom b entries whole i
      → whole ≡ first (entry_fault b (take i entries) x ∷ entries_fault b (take (i + 1) entries) (drop (i + 1) entries) ∷ [])
  unfolding entries_fault
  at_entry i x h e so_far =
      let front : take i entries ++ x ∷ [] ≡ take (i + 1) entries = ap (λ y. take i entries ++ y ∷ []) e ∙ sym (take_more entries i x h) in
      let rest : drop (suc i) entries ≡ drop (i + 1) entries = ap (λ n. drop n entries) (sym (add-one i)) in
      so_far.same ∙ ap (entries_fault b (take i entries)) (drop-cons entries i x h ∙ ap (λ y. y ∷ drop (suc i) entries) (sym e))
      ∙ (λ j. first (entry_fault b (take i entries) x ∷ entries_fault b (front j) (rest j) ∷ []))

  pub goes_on : (i : ℕ) (x : Entry) → i < length entries → x ≡ get_or entries i x → IsFrom b entries whole i → None ≡ entry_fault b (take i entries) x → IsFrom b entries whole (i + 1)
  goes_on i x h e so_far none = record {
    same =
        at_entry i x h e so_far ∙ ap (λ o. first (o ∷ entries_fault b (take (i + 1) entries) (drop (i + 1) entries) ∷ [])) (sym none) ∙ first_alone _;
  }

  pub fails : (i : ℕ) (x : Entry) (fault : KindFault) → i < length entries → x ≡ get_or entries i x → IsFrom b entries whole i → Some fault ≡ entry_fault b (take i entries) x → Some fault ≡ whole
  fails i x fault h e so_far some = sym (at_entry i x h e so_far ∙ ap (λ o. first (o ∷ entries_fault b (take (i + 1) entries) (drop (i + 1) entries) ∷ [])) (sym some))

  pub ends : (i : ℕ) → length entries ≤ i → IsFrom b entries whole i → None ≡ whole
  unfolding entries_fault
  ends i h so_far = sym (so_far.same ∙ ap (entries_fault b (take i entries)) (drop_of_length-le entries h))
