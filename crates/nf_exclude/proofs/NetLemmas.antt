-- What counts of results lose and gain on the whole, and that nothing results of empty lists.
use Rattle.std.proofs.Common.{◌≡◌, ℕ, not, ◌&&◌, List, [], refl, ap, ◌∙◌}
use Rattle.nf_core.specs.Intervals.{Interval}
use Rattle.nf_core.specs.Sets.{once}
use Rattle.nf_core.specs.declared.intervals.Delta.{Delta}
use Rattle.nf_core.specs.declared.terms.Link.{Link}
use Rattle.nf_core.specs.declared.terms.Link.TheVariants.{One, Pair, Unless}
use Rattle.nf_core.specs.declared.terms.PlanRule.{PlanRule}
use Rattle.nf_model.specs.Results.{results_by}
use Rattle.nf_model.specs.Changes.{delta_of}
use Rattle.nf_tally.specs.Numbers.{often, is_on, IsNet}
use Rattle.nf_tally.proofs.Public.OftenLemmas.{net_is_delta}

-- two lists, each once, by how often each interval stands there
pub delta_is : (xs ys : List Interval) (was now : Interval → ℕ) (delta : Delta) → IsNet was now delta
    → ((q : Interval) → was q ≡ often xs q) → ((q : Interval) → now q ≡ often ys q) → delta ≡ delta_of (once xs) (once ys)
delta_is xs ys was now delta net old new =
    let counted : IsNet (often xs) (often ys) delta = record {
      gone_set = net.gone_set;
      come_set = net.come_set;
      gone = λ q. net.gone q ∙ ap (λ n. is_on n && not (is_on (now q))) (old q) ∙ ap (λ n. is_on (often xs q) && not (is_on n)) (new q);
      come = λ q. net.come q ∙ ap (λ n. not (is_on n) && is_on (now q)) (old q) ∙ ap (λ n. not (is_on (often xs q)) && is_on n) (new q);
    } in
    let lists = net_is_delta xs ys delta counted in
    λ i. record { gone = lists.0 i; come = lists.1 i }

-- of empty lists
pub no_results : (rule : PlanRule) (link : Link) → results_by rule link [] [] ≡ []
no_results rule One = refl
no_results rule (Pair op n) = refl
no_results rule (Unless xop n) = refl
