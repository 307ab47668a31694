-- Where a delta leads from and to.
use Rattle.std.proofs.Common.{◌≡◌, Bool, true, false, not, ◌&&◌, List, [], filter, refl, sym, ap, ◌∙◌}
use Rattle.nf_core.specs.Intervals.{Interval}
use Rattle.nf_core.specs.Sets.{IsSet, has}
use Rattle.nf_core.specs.declared.intervals.Delta.{Delta}
use Rattle.nf_core.proofs.Public.SetLemmas.{has_filter, same_set, IsSet-empty, IsSet-filter}
use Rattle.nf_tally.specs.Deltas.{Leads}

-- a set that has the members that it had
pub leads_alike : (was now next : Interval → Bool) (delta : Delta) → ((q : Interval) → next q ≡ now q) → Leads was now delta → Leads was next delta
leads_alike was now next delta alike lead = record {
  gone_set = lead.gone_set;
  come_set = lead.come_set;
  gone = λ q. lead.gone q ∙ ap (λ b. was q && not b) (sym (alike q));
  come = λ q. lead.come q ∙ ap (λ b. not (was q) && b) (sym (alike q));
}

-- nothing lost and nothing gained
pub leads_nowhere : (now : Interval → Bool) → Leads now now (record { gone = []; come = [] })
leads_nowhere now = record {
  gone_set = IsSet-empty;
  come_set = IsSet-empty;
  gone = λ q. neither (now q);
  come = λ q. nor (now q);
}
  where
    neither : (b : Bool) → false ≡ (b && not b)
    neither true = refl
    neither false = refl

    nor : (b : Bool) → false ≡ (not b && b)
    nor true = refl
    nor false = refl

-- from one sorted list to another one: what the one has and the other one lacks
pub lead_lists : (old new : List Interval) (delta : Delta) → IsSet old → IsSet new → Leads (has old) (has new) delta
    → delta ≡ record { gone = filter (λ i. not (has new i)) old; come = filter (λ i. not (has old i)) new }
lead_lists old new delta s t lead =
    let gone = beyond old new delta.gone s lead.gone_set lead.gone in
    let come = beyond new old delta.come t lead.come_set (λ q. lead.come q ∙ swapped (has old q) (has new q)) in
    λ k. record { gone = gone k; come = come k }
  where
    swapped : (a b : Bool) → (not a && b) ≡ (b && not a)
    swapped true true = refl
    swapped true false = refl
    swapped false true = refl
    swapped false false = refl

    beyond : (is js list : List Interval) → IsSet is → IsSet list → ((q : Interval) → has list q ≡ (has is q && not (has js q))) → list ≡ filter (λ i. not (has js i)) is
    beyond is js list u v members =
        same_set list (filter (λ i. not (has js i)) is) v (IsSet-filter (λ i. not (has js i)) is u)
        (λ q. members q ∙ sym (has_filter (λ i. not (has js i)) q is))
