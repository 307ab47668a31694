use Rattle.std.proofs.Common.{◌≡◌, ◌<◌, length, nat_lt, sym, ap, subst, ◌∙◌, arith}
use Rattle.std.proofs.lemmas.Grind.{get_or_default_zero}
use Rattle.nf_core.specs.Plan.{Plan}
use Rattle.nf_core.proofs.HeadLevelLemmas.{has_rules-level}
use Rattle.nf_core.proofs.plans.Plan.has_rules.Goals as goal

pub returns : goal.returns
returns c =
    let within : c.args.name < length c.self.inside.names = subst (λ (plan : Plan). c.args.name < length plan.names) (sym c.self.view_is) c.requires in
    let each : length c.self.inside.levels.items ≡ length c.self.inside.names = c.self.invariant.each_level in
    let level = get_or_default_zero c.self.inside.levels.items c.args.name c.index.result.now (omega (arith, within, each)) in
    rw (← c.self.view_is) (ap (nat_lt 0) (c.index.ensures ∙ level) ∙ has_rules-level _ c.args.name c.self.invariant within)
