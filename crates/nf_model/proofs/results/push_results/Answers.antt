use Rattle.std.proofs.Common.{◌≡◌, ◌++◌, [], List, OnOk, rules, ap, sym, ◌∙◌, subst}
use Rattle.std.proofs.lemmas.List.{get_or_read}
use Rattle.nf_core.specs.Intervals.{Interval}
use Rattle.nf_core.specs.declared.terms.Link.{Link}
use Rattle.nf_core.specs.declared.terms.Link.TheVariants.{Pair, Unless}
use Rattle.nf_core.specs.declared.terms.PlanRule.{PlanRule}
use Rattle.nf_model.specs.Members.{HaveAllPlaces}
use Rattle.nf_model.specs.Results.{results_by}
use Rattle.nf_model.specs.Pools.{Inputs, of_name, second_of, results_over}
use Rattle.nf_model.proofs.results.push_results.Goals as goal

-- what is known by a rule's own link is known by the one that it was found to have, over the lists that were read
module _ (rule : PlanRule) (pools : Inputs) (link : Link) (is : rule.link ≡ link) (firsts seconds : List Interval)
    (first : firsts ≡ of_name pools rule.first) (second : seconds ≡ second_of (of_name pools) link) where
  results_at : results_by rule link firsts seconds ≡ results_over (of_name pools) rule
  results_at =
      ap (λ (js : List Interval). results_by rule link firsts js) second
      ∙ ap (λ (js : List Interval). results_by rule link js (second_of (of_name pools) link)) first
      ∙ ap (λ (l : Link). results_by rule l (of_name pools rule.first) (second_of (of_name pools) l)) (sym is)

  places_at : HaveAllPlaces rule rule.link (of_name pools rule.first) (second_of (of_name pools) rule.link) → HaveAllPlaces rule link firsts seconds
  places_at places =
      subst (λ (js : List Interval). HaveAllPlaces rule link firsts js) (sym second)
      (subst (λ (js : List Interval). HaveAllPlaces rule link js (second_of (of_name pools) link)) (sym first)
      (subst (λ (l : Link). HaveAllPlaces rule l (of_name pools rule.first) (second_of (of_name pools) l)) is places))

pub push_pairs-requires-clause-places : goal.push_pairs-requires-clause-places
push_pairs-requires-clause-places g c =
    let first = get_or_read c.args.pools.now _ _ (search rules) c.index-pools-rule.is [] in
    let second = get_or_read c.args.pools.now _ _ (search rules) c.index-pools-second.is [] in
    places_at c.args.rule.now c.args.pools.now (Pair c.in-Pair.op c.in-Pair.second) c.in-Pair.is c.index-pools-rule.result c.index-pools-second.result first second c.requires.places

pub returns-in-Pair : goal.returns-in-Pair
returns-in-Pair g c =
    let first = get_or_read c.args.pools.now _ _ (search rules) c.index-pools-rule.is [] in
    let second = get_or_read c.args.pools.now _ _ (search rules) c.index-pools-second.is [] in
    subst (λ is. OnOk c.push_pairs.result (c.push_pairs.new.out ≡ c.args.out.now ++ is))
    (results_at c.args.rule.now c.args.pools.now (Pair c.in-Pair.op c.in-Pair.second) c.in-Pair.is c.index-pools-rule.result c.index-pools-second.result first second)
    c.push_pairs.ensures

pub push_unblocked-requires-clause-pairs : goal.push_unblocked-requires-clause-pairs
push_unblocked-requires-clause-pairs g c =
    let first = get_or_read c.args.pools.now _ _ (search rules) c.index-pools-rule.is [] in
    let second = get_or_read c.args.pools.now _ _ (search rules) c.index-pools-second-in-Unless.is [] in
    (places_at c.args.rule.now c.args.pools.now (Unless c.in-Unless.xop c.in-Unless.second) c.in-Unless.is c.index-pools-rule.result c.index-pools-second-in-Unless.result first second c.requires.places).0

pub returns-in-Unless : goal.returns-in-Unless
returns-in-Unless g c =
    let first = get_or_read c.args.pools.now _ _ (search rules) c.index-pools-rule.is [] in
    let second = get_or_read c.args.pools.now _ _ (search rules) c.index-pools-second-in-Unless.is [] in
    subst (λ is. OnOk c.push_unblocked.result (c.push_unblocked.new.out ≡ c.args.out.now ++ is))
    (results_at c.args.rule.now c.args.pools.now (Unless c.in-Unless.xop c.in-Unless.second) c.in-Unless.is c.index-pools-rule.result c.index-pools-second-in-Unless.result first second)
    c.push_unblocked.ensures
