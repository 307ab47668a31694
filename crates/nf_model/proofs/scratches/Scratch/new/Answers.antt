use Rattle.std.proofs.Common.{ℕ, List, [], length, replicate, sym, ap, subst, ◌∙◌}
use Rattle.nf_core.specs.Intervals.{Interval}
use Rattle.nf_core.specs.Plan.{Plan, IsPlan}
use Rattle.nf_model.proofs.Public.ContentLemmas.{nothing_evaluated}
use Rattle.nf_model.proofs.scratches.Scratch.new.Goals as goal

pub invariant_of-result : goal.invariant_of-result
invariant_of-result c =
    nothing_evaluated c.in_ok-plan.plan c.args.full c.names.result c.in_ok-inputs.inputs.items c.in_ok-pools.pools.items
    (subst IsPlan (sym c.in_ok-plan.ensures) c.names.ensures.valid)
    (c.names.ensures.count ∙ ap (λ (p : Plan). length p.names) (sym c.in_ok-plan.ensures))
    c.in_ok-inputs.ensures (c.in_ok-pools.ensures ∙ ap (λ (k : ℕ). let empty : List (List Interval) = replicate k [] in empty) (c.names-2.ensures.count ∙ sym c.names.ensures.count))
