-- No name depends on itself, since the names have levels.
use Rattle.std.proofs.Common.{subst, ◌∙◌, ap, Err}
use Rattle.nf_order.specs.Dependence.{IsFirstCycle}
use Rattle.nf_drill.specs.Rules.{drill_rules}
use Rattle.nf_drill.proofs.LevelLemmas.{own_levels, own_levels_right}
use Rattle.nf_drill.proofs.plan.own_levels.Goals as goal

pub unreachable-requires : goal.unreachable-requires
unreachable-requires c =
    c.one_order.ensures.either drill_rules own_levels c.in-Err-Cycle.field-0-0 own_levels_right
    (subst (λ rules. IsFirstCycle rules c.in-Err-Cycle.field-0-0) c.requires
    (c.levels.ensures.cycle c.in-Err-Cycle.field-0-0 (c.in-Err-Cycle.is ∙ ap Err c.in-Err-Cycle.field-0-is)))
