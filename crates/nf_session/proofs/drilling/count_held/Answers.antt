use Rattle.std.proofs.Common.{◌≡◌, ℕ, ◌∙◌, ap, sym, refl, length, sum_by, arith}
use Rattle.nf_core.specs.Plan.{Plan, is_head}
use Rattle.nf_model.specs.Changes.{heads, pool_of}
use Rattle.nf_session.specs.Drill.{counted}
use Rattle.nf_session.proofs.DrillHeldLemmas.{held_more, sizes_below}
use Rattle.nf_session.proofs.drilling.count_held.Goals as goal

pub loop-name-init : goal.loop-name-init
loop-name-init g c = refl

pub loop-name-preserved : goal.loop-name-preserved
loop-name-preserved g c =
    held_more (λ n. length (pool_of (g.I.Inferer.content c.args.inferer.now) n)) (is_head c.args.plan.now) c.loop-name.name c.loop-name.held c.count_of_name.result c.saturating_add-held.result
    c.loop-name.invariant c.count_of_name.ensures c.saturating_add-held.ensures

pub returns : goal.returns
returns g c =
    let size : ℕ → ℕ = λ n. length (pool_of (g.I.Inferer.content c.args.inferer.now) n) in
    let all : c.loop-name.name ≡ length c.args.plan.now.names = omega arith in
    c.loop-name.invariant ∙ ap (λ n. counted (sizes_below size (is_head c.args.plan.now) n)) all
    ∙ ap (λ (p : Plan). counted (sum_by size (heads p))) (sym c.requires)
