-- A plan can be made of the six rules.
use Rattle.std.proofs.Common.{sym, subst}
use Rattle.nf_core.specs.Written.{CanBePlanned}
use Rattle.nf_drill.proofs.RuleLemmas.{can_be_planned}
use Rattle.nf_drill.proofs.plan.drill_plan.Goals as goal

pub build-requires-clause-planned : goal.build-requires-clause-planned
build-requires-clause-planned c = subst CanBePlanned (sym c.in_ok-rules.ensures) can_be_planned
