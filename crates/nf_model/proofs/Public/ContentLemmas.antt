-- What holds of every content holds of the first one, and stays with each input.
use Rattle.std.proofs.Common.{◌≡◌, ℕ, ◌<◌, Bool, false, IsTrue, true≢false, List, [], ◌∷◌, length, replicate, All, slice_index_or, slice_set, refl, ap, sym, ◌∙◌, subst}
use Rattle.std.specs.List.Sorted.{IsStrictlySortedBy}
use Rattle.std.proofs.lemmas.List.{get_or_read, length-replicate, length-set}
use Rattle.std.proofs.lemmas.List.Elements.{All-nil}
use Rattle.std.proofs.lemmas.Map.Views.{All-insert_key}
use Rattle.nf_core.specs.Intervals.{Interval, interval_cmp, interval_cmp_total}
use Rattle.nf_core.specs.Sets.{IsSet, inserted}
use Rattle.nf_core.specs.Plan.{Plan, IsPlan, is_wide}
use Rattle.nf_core.proofs.Public.AscendingLemmas.{IsStrictlySortedBy-fold}
use Rattle.nf_model.specs.Members.{IsInTime, IsOfKeys}
use Rattle.nf_model.specs.Pools.{Inputs, of_name, pool}
use Rattle.nf_model.specs.Changes.{Content, IsContent, no_inputs, with_input}
use Rattle.nf_model.specs.inner.Known.{IsEvaluated}
use Rattle.nf_model.proofs.Public.CellLemmas.{set_cells}
use Rattle.nf_model.proofs.Public.EmptyInputLemmas.{nothing_held, nothing_of_keys}
use Rattle.nf_model.proofs.Public.InputLemmas.{nothing_entered, set_each}

none_set : IsSet []
unfolding IsStrictlySortedBy
none_set = tt

-- before anything was entered
nothing_yet : (plan : Plan) (full : Bool) (count : ℕ) → IsPlan plan → count ≡ length plan.names → IsContent (record { plan = plan; full = full; inputs = replicate count [] })
nothing_yet plan full count valid each = record {
  valid = valid;
  each = length-replicate count [] ∙ each;
  sets = λ n. subst IsSet (sym (nothing_entered count n)) none_set;
  rows = nothing_of_keys plan count;
  times = λ n. subst (All IsInTime) (sym (nothing_entered count n)) (All-nil IsInTime);
  narrow = λ n wide. nothing_entered count n;
}

pub content_begins : (plan : Plan) (full : Bool) → IsPlan plan → IsContent (no_inputs plan full)
content_begins plan full valid = nothing_yet plan full (length plan.names) valid refl

-- an input more
pub content_grows : (content : Content) (n : ℕ) (i : Interval) → IsContent content → n < length content.plan.names → is_wide content.plan n ≡ false
    → IsOfKeys content.plan n i → IsInTime i → IsContent (with_input n i content)
content_grows content n i h named narrow row time =
    let own : List Interval = of_name content.inputs n in
    let within : n < length content.inputs = subst (λ (k : ℕ). n < k) (sym h.each) named in
    record {
      valid = h.valid;
      each = length-set content.inputs n (inserted i own) ∙ h.each;
      sets = set_each (λ m is. IsSet is) content.inputs n (inserted i own) within h.sets (IsStrictlySortedBy-fold interval_cmp interval_cmp_total (i ∷ []) own (h.sets n));
      rows = set_cells content.plan content.inputs n (inserted i own) within h.rows (All-insert_key interval_cmp i (IsOfKeys content.plan n) own (h.rows n) row);
      times = set_each (λ m is. All IsInTime is) content.inputs n (inserted i own) within h.times (All-insert_key interval_cmp i IsInTime own (h.times n) time);
      narrow = set_each (λ m is. IsTrue (is_wide content.plan m) → is ≡ []) content.inputs n (inserted i own) within h.narrow (λ wide. absurd (true≢false (sym wide ∙ narrow)));
    }

-- what an evaluator keeps before anything was entered
pub nothing_evaluated : (plan : Plan) (full : Bool) (count : ℕ) (inputs pools : Inputs) → IsPlan plan → count ≡ length plan.names
    → inputs ≡ replicate count [] → pools ≡ replicate count [] → IsEvaluated plan full inputs pools
nothing_evaluated plan full count inputs pools valid each ins held = record {
  content = subst (λ (is : Inputs). let content : Content = record { plan = plan; full = full; inputs = is } in IsContent content) (sym ins) (nothing_yet plan full count valid each);
  known = record {
    each = ap (λ (ls : Inputs). length ls) held ∙ length-replicate count [] ∙ each;
    pools = λ n within. ap (λ (ls : Inputs). of_name ls n) held ∙ nothing_held plan full count n ∙ ap (λ (ls : Inputs). pool plan full ls n) (sym ins);
  };
}

-- what a step leaves of the inputs of a content, with the list of a name after an interval was inserted
pub stepped : (s : Content) (plan : Plan) (full : Bool) (inputs : Inputs) (n : ℕ) (i : Interval) (old new : List Interval)
    → (let own : Content = record { plan = plan; full = full; inputs = inputs } in (own ≡ s) × IsContent own) → n < length s.plan.names → is_wide s.plan n ≡ false
    → IsOfKeys s.plan n i → IsInTime i
    → old ≡ slice_index_or inputs n old → new ≡ inserted i old → (let after : Content = record { plan = plan; full = full; inputs = slice_set inputs n new } in IsContent after)
stepped s plan full inputs n i old new own named narrow row time read set =
    let content : Content = record { plan = plan; full = full; inputs = inputs } in
    let names : n < length content.plan.names = subst (λ (c : Content). n < length c.plan.names) (sym own.0) named in
    let cells : IsOfKeys content.plan n i = subst (λ (c : Content). IsOfKeys c.plan n i) (sym own.0) row in
    let thin : is_wide content.plan n ≡ false = subst (λ (c : Content). is_wide c.plan n ≡ false) (sym own.0) narrow in
    let within : n < length inputs = subst (λ (k : ℕ). n < k) (sym own.1.each) names in
    subst (λ (is : List Interval). let after : Content = record { plan = plan; full = full; inputs = slice_set inputs n is } in IsContent after) (sym (set ∙ ap (inserted i) (get_or_read inputs n old within read [])))
    (content_grows content n i own.1 names thin cells time)
