-- What a rule's part needs to follow its names, and what it knows then.
use Rattle.std.proofs.Common.{◌≡◌, ℕ, ◌+◌, ◌<◌, ◌≤◌, true, not, List, ◌++◌, length, slice_get, Option, Some, All, ap, sym, subst, ◌∙◌, arith}
use Rattle.std.proofs.lemmas.List.Elements.{All-append, All-filter}
use Rattle.nf_core.specs.Intervals.{Interval}
use Rattle.nf_core.specs.Sets.{IsSet, has, once}
use Rattle.nf_core.specs.Plan.{Plan, IsRuleOf}
use Rattle.nf_core.specs.declared.intervals.Delta.{Delta}
use Rattle.nf_core.specs.declared.terms.Link.{Link}
use Rattle.nf_core.specs.declared.terms.Link.TheVariants.{One, Pair, Unless}
use Rattle.nf_core.specs.declared.terms.PlanRule.{PlanRule}
use Rattle.nf_model.specs.Members.{IsOfKeys, HaveAllPlaces}
use Rattle.nf_model.specs.Pools.{results_over}
use Rattle.nf_model.specs.Results.{results}
use Rattle.nf_model.specs.Work.{Sides, rule_work, sides_of}
use Rattle.nf_model.specs.Changes.{delta_of}
use Rattle.nf_model.proofs.Public.PlaceLemmas.{AreOfSecond, read_of_lists}
use Rattle.nf_minimal.specs.Minimals.{Minimal, candidates_of}
use Rattle.nf_pairs.specs.Deltas.{IsDelta, before}
use Rattle.nf_pairs.proofs.Public.DeltaLemmas.{delta_of_is_delta, before_delta_of}
use Rattle.nf_engine.specs.declared.parts.RulePart.{RulePart}
use Rattle.nf_engine.specs.inner.Deltas.{NamedDeltas, delta_at}
use Rattle.nf_engine.specs.inner.Evaluations.{ReadsNew, CanFollow, HasFollowed}
use Rattle.nf_engine.specs.inner.Parts.{rule_of, StandsFor, second_number, IsPartOf}
use Rattle.nf_engine.specs.inner.Rounds.{Passage, IsPassage, old_pools, new_pools, minimal_at, held_in, reads, work_of}
use Rattle.nf_engine.proofs.HeldLemmas.{IsSet-judged, IsSet-pool}
use Rattle.nf_engine.proofs.PartLemmas.{reads_first, reads_second, results_read, lists_of, work_read, sides_alike}
use Rattle.nf_engine.proofs.QueueLemmas.{one_rule}
use Rattle.nf_engine.proofs.SettledLemmas.{All-at}

-- one of the names that are read: its store and its delta
module _ (plan : Plan) (passage : Passage) (is : IsPassage plan passage) (rule : PlanRule) (names : List Minimal) (changed : NamedDeltas)
    (read : ReadsNew plan passage rule names changed) (m : ℕ) (reading : reads rule m ≡ true)
    (store : List Interval) (delta : Delta) (store_is : store ≡ held_in names m) (delta_is : delta ≡ delta_at changed m) where
  old_set : IsSet (old_pools plan passage m)
  old_set = IsSet-pool plan passage.full passage.before m

  now_set : IsSet store
  now_set = subst IsSet (sym store_is) (IsSet-judged (minimal_at names m).full (candidates_of (minimal_at names m)))

  led : delta ≡ delta_of (old_pools plan passage m) store
  led = delta_is ∙ read.deltas m reading ∙ ap (λ (js : List Interval). delta_of (old_pools plan passage m) js) (sym store_is)

  pub is_led : IsDelta store delta
  is_led = subst (IsDelta store) (sym led) (delta_of_is_delta (old_pools plan passage m) store old_set now_set)

  pub before_is : before delta store ≡ old_pools plan passage m
  before_is = ap (λ (d : Delta). before d store) led ∙ before_delta_of (old_pools plan passage m) store old_set now_set

  -- the rows of both are as long as the name's keys
  pub rows_of : All (IsOfKeys plan m) (store ++ delta.gone)
  rows_of =
      All-append (IsOfKeys plan m) store delta.gone (subst (All (IsOfKeys plan m)) (sym (store_is ∙ read.held m reading)) (is.new_rows m))
      (subst (λ (d : Delta). All (IsOfKeys plan m) d.gone) (sym led)
      (All-filter (λ i. not (has store i)) (IsOfKeys plan m) (old_pools plan passage m) (is.old_rows m)))

module _ (plan : Plan) (passage : Passage) (is : IsPassage plan passage) (k : ℕ) (rule : PlanRule) (at : slice_get plan.rules k ≡ Some rule)
    (part : RulePart) (names : List Minimal) (changed : NamedDeltas) (can : CanFollow plan passage k part names changed)
    (firsts seconds : List Interval) (d1 d2 : Delta) (second : ℕ) (second_is : second ≡ second_number rule.first rule.link)
    (firsts_is : firsts ≡ held_in names rule.first) (seconds_is : seconds ≡ held_in names second)
    (d1_is : d1 ≡ delta_at changed rule.first) (d2_is : d2 ≡ delta_at changed second) where
  same_rule : can.rule ≡ rule
  same_rule = one_rule plan.rules k can.rule rule can.at at

  own : rule_of part ≡ rule
  own = can.own ∙ same_rule

  read : ReadsNew plan passage rule names changed
  read = subst (λ (r : PlanRule). ReadsNew plan passage r names changed) same_rule can.read

  reads_other : reads rule second ≡ true
  reads_other = ap (reads rule) second_is ∙ reads_second rule

  pub first_led : IsDelta firsts d1
  first_led = is_led plan passage is rule names changed read rule.first (reads_first rule) firsts d1 firsts_is d1_is

  pub second_led : IsDelta seconds d2
  second_led = is_led plan passage is rule names changed read second reads_other seconds d2 seconds_is d2_is

  first_before : before d1 firsts ≡ old_pools plan passage rule.first
  first_before = before_is plan passage is rule names changed read rule.first (reads_first rule) firsts d1 firsts_is d1_is

  second_before : before d2 seconds ≡ old_pools plan passage (second_number rule.first rule.link)
  second_before = before_is plan passage is rule names changed read second reads_other seconds d2 seconds_is d2_is ∙ ap (old_pools plan passage) second_is

  seconds_held : seconds ≡ held_in names (second_number rule.first rule.link)
  seconds_held = seconds_is ∙ ap (held_in names) second_is

  pub stands_before : StandsFor part (before d1 firsts) (before d2 seconds)
  stands_before =
      let known : StandsFor part (old_pools plan passage rule.first) (old_pools plan passage (second_number rule.first rule.link)) =
      subst (λ (r : PlanRule). StandsFor part (old_pools plan passage r.first) (old_pools plan passage (second_number r.first r.link))) same_rule can.knows in
      subst (λ (js : List Interval). StandsFor part (before d1 firsts) js) (sym second_before)
      (subst (λ (js : List Interval). StandsFor part js (old_pools plan passage (second_number rule.first rule.link))) (sym first_before) known)

  rows_by : (link : Link) → All (IsOfKeys plan (second_number rule.first link)) (seconds ++ d2.gone) → AreOfSecond plan link (seconds ++ d2.gone)
  rows_by One h = tt
  rows_by (Pair op n) h = h
  rows_by (Unless xop n) h = h

  pub places_read : HaveAllPlaces (rule_of part) (rule_of part).link (firsts ++ d1.gone) (seconds ++ d2.gone)
  places_read =
      let of_plan : IsRuleOf plan rule = All-at (IsRuleOf plan) plan.rules k rule is.valid.rules at in
      let rows : All (IsOfKeys plan second) (seconds ++ d2.gone) = rows_of plan passage is rule names changed read second reads_other seconds d2 seconds_is d2_is in
      subst (λ (r : PlanRule). HaveAllPlaces r r.link (firsts ++ d1.gone) (seconds ++ d2.gone)) (sym own)
      (read_of_lists plan rule of_plan (firsts ++ d1.gone) (seconds ++ d2.gone)
      (rows_of plan passage is rule names changed read rule.first (reads_first rule) firsts d1 firsts_is d1_is)
      (rows_by rule.link (subst (λ (n : ℕ). All (IsOfKeys plan n) (seconds ++ d2.gone)) second_is rows)))

  results_before : results rule (before d1 firsts) (before d2 seconds) ≡ results_over (old_pools plan passage) rule
  results_before =
      ap (λ (js : List Interval). results rule js (before d2 seconds)) first_before
      ∙ ap (λ (js : List Interval). results rule (old_pools plan passage rule.first) js) second_before ∙ results_read rule (old_pools plan passage)

  results_now : results rule firsts seconds ≡ results_over (held_in names) rule
  results_now =
      ap (λ (js : List Interval). results rule js seconds) firsts_is
      ∙ ap (λ (js : List Interval). results rule (held_in names rule.first) js) seconds_held ∙ results_read rule (held_in names)

  -- what is known then
  pub has_followed : (new : RulePart) (delta : Delta) → rule_of new ≡ rule_of part → StandsFor new firsts seconds
      → delta ≡ delta_of (once (results (rule_of part) (before d1 firsts) (before d2 seconds))) (once (results (rule_of part) firsts seconds))
      → HasFollowed plan passage k names new delta
  has_followed new delta same stands leads =
      let knows : IsPartOf rule (held_in names) (Some new) = (
        same ∙ own,
        subst (λ (js : List Interval). StandsFor new (held_in names rule.first) js) seconds_held (subst (λ (js : List Interval). StandsFor new js seconds) firsts_is stands),
      ) in
      let led_on : delta ≡ delta_of (once (results_over (old_pools plan passage) rule)) (once (results_over (held_in names) rule)) =
      leads ∙ ap (λ (r : PlanRule). delta_of (once (results r (before d1 firsts) (before d2 seconds))) (once (results r firsts seconds))) own
      ∙ ap (λ (js : List Interval). delta_of (once js) (once (results rule firsts seconds))) results_before
      ∙ ap (λ (js : List Interval). delta_of (once (results_over (old_pools plan passage) rule)) (once js)) results_now in
      record {
        knows = λ r at_r. subst (λ (x : PlanRule). IsPartOf x (held_in names) (Some new)) (one_rule plan.rules k rule r at at_r) knows;
        leads = λ r at_r.
            subst (λ (x : PlanRule). delta ≡ delta_of (once (results_over (old_pools plan passage) x)) (once (results_over (held_in names) x)))
            (one_rule plan.rules k rule r at at_r) led_on;
      }

  -- and what it cost
  pub cost_followed : (old new : ℕ)
      → new ≤ old + rule_work (rule_of part) (record { firsts = before d1 firsts; seconds = before d2 seconds }) (record { firsts = firsts; seconds = seconds })
      → (r : PlanRule) → slice_get plan.rules k ≡ Some r → new ≤ old + work_of plan passage r
  cost_followed old new bound r at_r =
      let one : rule ≡ r = one_rule plan.rules k rule r at at_r in
      let was : (let s : Sides = record { firsts = before d1 firsts; seconds = before d2 seconds } in s) ≡ lists_of (old_pools plan passage) rule =
      λ i. record { firsts = first_before i; seconds = second_before i } in
      let now : (let s : Sides = record { firsts = firsts; seconds = seconds } in s) ≡ lists_of (held_in names) rule =
      λ i. record { firsts = firsts_is i; seconds = seconds_held i } in
      let sides : sides_of (held_in names) rule ≡ sides_of (new_pools plan passage) rule = sides_alike rule (held_in names) (new_pools plan passage) read.held in
      let work : rule_work (rule_of part) (record { firsts = before d1 firsts; seconds = before d2 seconds }) (record { firsts = firsts; seconds = seconds }) ≡ work_of plan passage r =
      ap (λ (x : PlanRule). rule_work x (record { firsts = before d1 firsts; seconds = before d2 seconds }) (record { firsts = firsts; seconds = seconds })) own
      ∙ ap (λ (s : Sides). rule_work rule s (record { firsts = firsts; seconds = seconds })) was
      ∙ ap (λ (s : Sides). rule_work rule (lists_of (old_pools plan passage) rule) s) now
      ∙ work_read rule (old_pools plan passage) (held_in names)
      ∙ ap (λ (s : Sides). rule_work rule (sides_of (old_pools plan passage) rule) s) sides
      ∙ ap (work_of plan passage) one in
      omega (arith, bound, work)

-- a part that is there can follow
pub can_follow : (plan : Plan) (passage : Passage) (k : ℕ) (rule : PlanRule) (part : RulePart) (there : Option RulePart) (names : List Minimal) (changed : NamedDeltas)
    → slice_get plan.rules k ≡ Some rule → Some part ≡ there → IsPartOf rule (old_pools plan passage) there → ReadsNew plan passage rule names changed
    → CanFollow plan passage k part names changed
can_follow plan passage k rule part there names changed at is known read =
    let here : IsPartOf rule (old_pools plan passage) (Some part) = subst (IsPartOf rule (old_pools plan passage)) (sym is) known in
    record {
      rule = rule;
      at = at;
      own = here.0;
      knows = here.1;
      read = read;
    }

-- the names that are read are names
pub first_named : (plan : Plan) (passage : Passage) (is : IsPassage plan passage) (k : ℕ) (rule : PlanRule) (at : slice_get plan.rules k ≡ Some rule)
    (part : RulePart) (names : List Minimal) (changed : NamedDeltas) → CanFollow plan passage k part names changed → rule.first < length names
first_named plan passage is k rule at part names changed can =
    let named : rule.first < length plan.names = (is.lower k rule rule.first at (reads_first rule)).name in
    let each : length names ≡ length plan.names = can.read.each_name in
    omega arith

pub second_named : (plan : Plan) (passage : Passage) (is : IsPassage plan passage) (k : ℕ) (rule : PlanRule) (at : slice_get plan.rules k ≡ Some rule)
    (part : RulePart) (names : List Minimal) (changed : NamedDeltas) → CanFollow plan passage k part names changed
    → (second : ℕ) → second ≡ second_number rule.first rule.link → second < length names
second_named plan passage is k rule at part names changed can second second_is =
    let named : second_number rule.first rule.link < length plan.names = (is.lower k rule (second_number rule.first rule.link) at (reads_second rule)).name in
    let each : length names ≡ length plan.names = can.read.each_name in
    omega arith
