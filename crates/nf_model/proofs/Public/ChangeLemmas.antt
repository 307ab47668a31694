-- The heads whose pools a change compares.
use Rattle.std.proofs.Common.{ℕ, ◌<◌, length, subst, arith, All}
use Rattle.std.specs.List.{range_with_len}
use Rattle.std.proofs.lemmas.List.Elements.{All-filter}
use Rattle.std.proofs.lemmas.List.FromFn.{length-range_with_len, get_or-range_with_len}
use Rattle.nf_core.specs.Plan.{Plan, is_head}
use Rattle.nf_model.specs.Changes.{heads}

-- heads are names of the plan
pub heads_within : (plan : Plan) → All (λ n. n < length plan.names) (heads plan)
heads_within plan =
    All-filter (is_head plan) (λ n. n < length plan.names) (range_with_len 0 (length plan.names))
    (λ k d within. let inside : k < length plan.names = subst (λ (n : ℕ). k < n) (length-range_with_len 0 (length plan.names)) within in
    omega (arith, get_or-range_with_len 0 (length plan.names) k d inside))
