-- How the counts of a join follow what its results lost and found.
use Rattle.std.proofs.Common.{◌≡◌, ◌+◌, ◌≤◌, not, ◌&&◌, List, [], refl, ap, ◌∙◌, arith}
use Rattle.nf_core.specs.Intervals.{Interval}
use Rattle.nf_core.specs.Sets.{once}
use Rattle.nf_core.specs.declared.intervals.Delta.{Delta}
use Rattle.nf_core.specs.declared.terms.Link.{Link}
use Rattle.nf_core.specs.declared.terms.Link.TheVariants.{One, Pair, Unless}
use Rattle.nf_core.specs.declared.terms.PlanRule.{PlanRule}
use Rattle.nf_model.specs.Results.{results, results_by}
use Rattle.nf_model.specs.Changes.{delta_of}
use Rattle.nf_pairs.specs.Deltas.{before}
use Rattle.nf_tally.specs.Numbers.{Numbers, number, often, is_on, IsNet}
use Rattle.nf_tally.proofs.Public.OftenLemmas.{net_is_delta}
use Rattle.nf_join.specs.inner.Exchanges.{AreExchanged}

-- over empty lists there are no results
nothing_by : (rule : PlanRule) (link : Link) → results_by rule link [] [] ≡ []
nothing_by rule One = refl
nothing_by rule (Pair op n) = refl
nothing_by rule (Unless xop n) = refl

pub results_of_nothing : (rule : PlanRule) (q : Interval) → often (results rule [] []) q ≡ 0
results_of_nothing rule q = ap (λ (is : List Interval). often is q) (nothing_by rule rule.link)

module _ (rule : PlanRule) (firsts seconds : List Interval) (d1 d2 : Delta) (lost found : List Interval) (ex : AreExchanged rule firsts seconds d1 d2 lost found)
    (old : Numbers) (stood : (q : Interval) → number old q ≡ often (results rule (before d1 firsts) (before d2 seconds)) q) where
  -- there is enough to take what was lost away
  pub enough : (q : Interval) → often lost q ≤ number old q + often found q
  enough q = let was = ex.was q in let stand = stood q in omega arith

  module _ (now : Numbers) (settled : (q : Interval) → number now q + often lost q ≡ number old q + often found q) where
    pub stands : (q : Interval) → number now q ≡ often (results rule firsts seconds) q
    stands q = let was = ex.was q in let is = ex.is q in let stand = stood q in let moved = settled q in omega arith

    pub delta_is : (delta : Delta) → IsNet (number old) (number now) delta
        → delta ≡ delta_of (once (results rule (before d1 firsts) (before d2 seconds))) (once (results rule firsts seconds))
    delta_is delta net =
        let both = net_is_delta (results rule (before d1 firsts) (before d2 seconds)) (results rule firsts seconds) delta (record {
          gone_set = net.gone_set;
          come_set = net.come_set;
          gone = λ q. net.gone q ∙ (λ k. is_on (stood q k) && not (is_on (stands q k)));
          come = λ q. net.come q ∙ (λ k. not (is_on (stood q k)) && is_on (stands q k));
        }) in
        λ k. record { gone = both.0 k; come = both.1 k }
