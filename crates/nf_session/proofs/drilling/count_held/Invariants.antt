use Rattle.std.proofs.Common.{◌≡◌, length}
use Rattle.nf_core.specs.Plan.{is_head}
use Rattle.nf_model.specs.Changes.{pool_of}
use Rattle.nf_session.specs.Drill.{counted}
use Rattle.nf_session.proofs.DrillHeldLemmas.{sizes_below}
use Rattle.nf_session.proofs.drilling.count_held.Given as goal

-- what the heads among the first names hold
abbrev pub invariant-loop-name : goal.invariant-loop-name
invariant-loop-name g l = l.held
    ≡ counted (sizes_below (λ n. length (pool_of (g.I.Inferer.content l.inferer) n)) (is_head l.plan) l.name)
