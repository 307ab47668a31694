use Rattle.std.proofs.Common.{◌≡◌, ◌<◌, ◌^◌, List, ℕ, length, map, All, sym, subst, ap, ◌∙◌}
use Rattle.std.proofs.lemmas.List.Elements.{All-map}
use Rattle.nf_core.specs.Plan.{IsPlan}
use Rattle.nf_core.specs.Written.{names_of, keys_of_name}
use Rattle.nf_core.proofs.NumberedTermLemmas.{parts-plan_of}
use Rattle.nf_core.proofs.Public.PlanLemmas.{IsPlan-plan_of}
use Rattle.nf_core.proofs.plans.Plan.build.Goals as goal

pub rules_by_number-requires-clause-few_keys : goal.rules_by_number-requires-clause-few_keys
rules_by_number-requires-clause-few_keys c =
    let keyed : c.as_slice.result.now ≡ map (keys_of_name c.args.rules.now) (names_of c.args.rules.now) = c.as_slice.ensures ∙ c.in_ok-keys.ensures ∙ ap (map (keys_of_name c.args.rules.now)) c.in_ok-names.ensures in
    subst (λ (list : List (List (List ℕ))). All (λ keys. length keys < 2 ^ 32) list) (sym keyed) (All-map (λ keys. length keys < 2 ^ 32) (keys_of_name c.args.rules.now) (names_of c.args.rules.now) c.requires.planned.few_keys)

pub invariant_of-result : goal.invariant_of-result
invariant_of-result c =
    subst IsPlan (sym (parts-plan_of c.args.rules.now c.args.levels.now c.in_ok-names.names c.in_ok-keys.keys c.in_ok-numbered.numbered c.in_ok-levels.levels.items
    c.in_ok-names.ensures c.in_ok-keys.ensures c.in_ok-numbered.ensures.rules c.in_ok-levels.ensures))
    (IsPlan-plan_of c.args.rules.now c.args.levels.now c.requires.planned c.requires.leveled c.in_ok-numbered.ensures.limits)
