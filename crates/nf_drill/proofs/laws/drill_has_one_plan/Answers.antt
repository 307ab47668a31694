-- The names of the rules have levels, and those in the order of the names are the same.
use Rattle.std.proofs.Common.{◌≡◌, refl, sym, ap, ◌∙◌}
use Rattle.nf_core.specs.Written.{plan_of}
use Rattle.nf_drill.specs.Rules.{IsDrillPlan, drill_rules}
use Rattle.nf_drill.proofs.KeyLemmas.{own_names}
use Rattle.nf_drill.proofs.LevelLemmas.{own_levels, own_levels_right}
use Rattle.nf_drill.proofs.laws.drill_has_one_plan.Goals as goal

pub returns-clause-some : goal.returns-clause-some
returns-clause-some c = (plan_of drill_rules own_levels, record { levels = own_levels; leveled = own_levels_right; named = sym own_names; is = refl })

pub returns-clause-one : goal.returns-clause-one
returns-clause-one c = λ a b is_a is_b.
    is_a.is ∙ ap (plan_of drill_rules) (c.one_order.ensures.same drill_rules is_a.levels is_b.levels is_a.named is_b.named is_a.leveled is_b.leveled) ∙ sym is_b.is
