-- The next rule is evaluated, and its delta is gathered.
use Rattle.std.proofs.Common.{refl}
use Rattle.nf_engine.proofs.EnterLemmas.{none_of_head}
use Rattle.nf_engine.proofs.GatherLemmas.{next_ready, next_bound, next_within, next_fewer, next_cost}
use Rattle.nf_engine.proofs.turns.gather_next.Goals as goal

pub evaluate-requires : goal.evaluate-requires
evaluate-requires g c = λ κs below. (
  below,
  (
    c.requires.1.0,
    next_ready c.args.plan.now g.passage c.args.head c.in-Some.number c.args.gathered.now c.args.round.now c.requires.1.1.1 c.in-Some.ensures.some c.requires.1.0,
  ),
)

pub returns-in_default-clause-last : goal.returns-in_default-clause-last
returns-in_default-clause-last g c = λ e. none_of_head c.args.plan.now c.requires.1.0.valid c.args.head c.requires.1.1.0 c.args.round.now.queue c.requires.1.1.1.due c.in_default.ensures.none

pub returns-in_err-delta-clause-bound : goal.returns-in_err-delta-clause-bound
returns-in_err-delta-clause-bound g c =
    next_bound c.args.plan.now g.passage c.args.head c.in-Some.number c.args.gathered.now c.args.round.now c.requires.1.1.1 c.in-Some.ensures.some c.args.steps.now c.evaluate.new.steps c.in_err-delta.ensures.cost

pub returns-in_err-append_delta-clause-bound : goal.returns-in_err-append_delta-clause-bound
returns-in_err-append_delta-clause-bound g c =
    next_bound c.args.plan.now g.passage c.args.head c.in-Some.number c.args.gathered.now c.args.round.now c.requires.1.1.1 c.in-Some.ensures.some c.args.steps.now c.evaluate.new.steps c.in_ok-delta.ensures.cost

pub returns-clause-gathering : goal.returns-clause-gathering
returns-clause-gathering g c =
    next_within c.args.plan.now g.passage c.args.head c.in-Some.number c.args.gathered.now c.args.round.now c.requires.1.1.1 c.in-Some.ensures.some
    c.append_delta.new.delta c.in_ok-delta.delta c.evaluate.new.round _ c.in_ok-delta.ensures.done c.in_ok-append_delta.ensures refl refl refl c.pop.ensures

pub returns-clause-fewer : goal.returns-clause-fewer
returns-clause-fewer g c = λ e.
    next_fewer c.args.plan.now g.passage c.args.head c.in-Some.number c.args.gathered.now c.args.round.now c.requires.1.1.1 c.in-Some.ensures.some
    c.append_delta.new.delta c.in_ok-delta.delta c.evaluate.new.round
    (record { names = c.evaluate.new.round.names; rules = c.evaluate.new.round.rules; changed = c.evaluate.new.round.changed; queue = c.pop.new.self }) c.in_ok-delta.ensures.done c.in_ok-append_delta.ensures refl refl refl c.pop.ensures

pub returns-clause-cost : goal.returns-clause-cost
returns-clause-cost g c =
    next_cost c.args.plan.now g.passage c.args.head c.in-Some.number c.args.gathered.now c.args.round.now c.requires.1.1.1 c.in-Some.ensures.some
    c.append_delta.new.delta c.in_ok-delta.delta c.evaluate.new.round
    (record { names = c.evaluate.new.round.names; rules = c.evaluate.new.round.rules; changed = c.evaluate.new.round.changed; queue = c.pop.new.self }) c.in_ok-delta.ensures.done c.in_ok-append_delta.ensures refl refl refl c.pop.ensures
    c.args.steps.now c.evaluate.new.steps c.in_ok-delta.ensures.cost

pub returns-clause-bound : goal.returns-clause-bound
returns-clause-bound g c =
    next_bound c.args.plan.now g.passage c.args.head c.in-Some.number c.args.gathered.now c.args.round.now c.requires.1.1.1 c.in-Some.ensures.some c.args.steps.now c.evaluate.new.steps c.in_ok-delta.ensures.cost
