-- The change of the heads' pools, over lists that are the pools.
use Rattle.std.proofs.Common.{◌≡◌, ℕ, ◌<◌, List, length, ap, ◌∙◌, subst}
use Rattle.std.proofs.lemmas.List.Elements.{All-weaker}
use Rattle.nf_core.specs.Intervals.{Interval}
use Rattle.nf_core.specs.Plan.{Plan}
use Rattle.nf_core.specs.declared.intervals.Named.{Named}
use Rattle.nf_core.specs.declared.intervals.Change.{Change}
use Rattle.nf_model.specs.Pools.{Inputs, of_name}
use Rattle.nf_model.specs.Levels.{Pools}
use Rattle.nf_model.proofs.ListLemmas.{flat_map_alike}
use Rattle.nf_model.proofs.Public.ChangeLemmas.{heads_within}
use Rattle.nf_model.specs.Changes.{Content, pool_of, with_input, heads, lacking, named, beyond, change_over, change}
use Rattle.nf_model.specs.inner.Known.{ArePools}

-- pools that agree at each name give the same lists
beyond_alike : (plan : Plan) (P Q R S : Pools) → ((n : ℕ) → n < length plan.names → P n ≡ R n) → ((n : ℕ) → n < length plan.names → Q n ≡ S n)
    → beyond plan P Q ≡ beyond plan R S
beyond_alike plan P Q R S first second =
    flat_map_alike (λ n. named n (lacking (P n) (Q n))) (λ n. named n (lacking (R n) (S n))) (heads plan)
    (All-weaker (λ n. n < length plan.names) (λ n. named n (lacking (P n) (Q n)) ≡ named n (lacking (R n) (S n)))
    (λ n within. ap (λ (is : List Interval). named n (lacking is (Q n))) (first n within) ∙ ap (λ (is : List Interval). named n (lacking (R n) is)) (second n within))
    (heads plan) (heads_within plan))

-- the change over lists that are the pools before a step and after it
pub step_changes : (content : Content) (name : ℕ) (interval : Interval) (inputs before after : Inputs)
    → ArePools content.plan content.full content.inputs before → ArePools content.plan content.full inputs after
    → inputs ≡ (with_input name interval content).inputs → (made : Change) → made ≡ change_over content.plan (of_name before) (of_name after)
    → made ≡ change content (with_input name interval content)
step_changes content name interval inputs before after old new is made made_is =
    let now : ArePools content.plan content.full (with_input name interval content).inputs after =
    subst (λ (ins : Inputs). ArePools content.plan content.full ins after) is new in
    let gone : beyond content.plan (of_name before) (of_name after) ≡ beyond content.plan (pool_of content) (pool_of (with_input name interval content)) =
    beyond_alike content.plan (of_name before) (of_name after) (pool_of content) (pool_of (with_input name interval content)) old.pools now.pools in
    let come : beyond content.plan (of_name after) (of_name before) ≡ beyond content.plan (pool_of (with_input name interval content)) (pool_of content) =
    beyond_alike content.plan (of_name after) (of_name before) (pool_of (with_input name interval content)) (pool_of content) now.pools old.pools in
    let both : change_over content.plan (of_name before) (of_name after) ≡ change content (with_input name interval content) =
    ap (λ (list : List Named). let made : Change = record { gone = list; come = beyond content.plan (of_name after) (of_name before) } in made) gone
    ∙ ap (λ (list : List Named). let made : Change = record { gone = beyond content.plan (pool_of content) (pool_of (with_input name interval content)); come = list } in made) come in
    made_is ∙ both
