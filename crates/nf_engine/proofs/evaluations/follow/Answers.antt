-- The part follows the stores of its two names.
use Rattle.nf_engine.proofs.FollowLemmas.{first_named, second_named, first_led, second_led, places_read, stands_before, has_followed, cost_followed}
use Rattle.nf_engine.proofs.evaluations.follow.Goals as goal

pub store_of-firsts-requires : goal.store_of-firsts-requires
store_of-firsts-requires g c =
    first_named c.args.plan.now g.passage c.requires.1.0 c.args.number c.rule-rule.result.now c.rule-rule.ensures c.args.part c.args.names.now c.args.changed.now c.requires.1.1

pub store_of-seconds-requires : goal.store_of-seconds-requires
store_of-seconds-requires g c =
    second_named c.args.plan.now g.passage c.requires.1.0 c.args.number c.rule-rule.result.now c.rule-rule.ensures c.args.part c.args.names.now c.args.changed.now c.requires.1.1
    c.second_number-second.result c.second_number-second.ensures

pub delta-requires-clause-first : goal.delta-requires-clause-first
delta-requires-clause-first g c = first_led c.args.plan.now g.passage c.requires.1.0 c.args.number c.rule-rule.result.now c.rule-rule.ensures c.args.part c.args.names.now c.args.changed.now c.requires.1.1
    c.store_of-firsts.result.now c.store_of-seconds.result.now c.delta_of-d1.result.now c.delta_of-d2.result.now c.second_number-second.result c.second_number-second.ensures
    c.store_of-firsts.ensures c.store_of-seconds.ensures c.delta_of-d1.ensures c.delta_of-d2.ensures

pub delta-requires-clause-second : goal.delta-requires-clause-second
delta-requires-clause-second g c = second_led c.args.plan.now g.passage c.requires.1.0 c.args.number c.rule-rule.result.now c.rule-rule.ensures c.args.part c.args.names.now c.args.changed.now c.requires.1.1
    c.store_of-firsts.result.now c.store_of-seconds.result.now c.delta_of-d1.result.now c.delta_of-d2.result.now c.second_number-second.result c.second_number-second.ensures
    c.store_of-firsts.ensures c.store_of-seconds.ensures c.delta_of-d1.ensures c.delta_of-d2.ensures

pub delta-requires-clause-places : goal.delta-requires-clause-places
delta-requires-clause-places g c = places_read c.args.plan.now g.passage c.requires.1.0 c.args.number c.rule-rule.result.now c.rule-rule.ensures c.args.part c.args.names.now c.args.changed.now c.requires.1.1
    c.store_of-firsts.result.now c.store_of-seconds.result.now c.delta_of-d1.result.now c.delta_of-d2.result.now c.second_number-second.result c.second_number-second.ensures
    c.store_of-firsts.ensures c.store_of-seconds.ensures c.delta_of-d1.ensures c.delta_of-d2.ensures

pub delta-requires-clause-stands : goal.delta-requires-clause-stands
delta-requires-clause-stands g c = stands_before c.args.plan.now g.passage c.requires.1.0 c.args.number c.rule-rule.result.now c.rule-rule.ensures c.args.part c.args.names.now c.args.changed.now c.requires.1.1
    c.store_of-firsts.result.now c.store_of-seconds.result.now c.delta_of-d1.result.now c.delta_of-d2.result.now c.second_number-second.result c.second_number-second.ensures
    c.store_of-firsts.ensures c.store_of-seconds.ensures c.delta_of-d1.ensures c.delta_of-d2.ensures

pub returns-in_err-part-clause-cost : goal.returns-in_err-part-clause-cost
returns-in_err-part-clause-cost g c = cost_followed c.args.plan.now g.passage c.requires.1.0 c.args.number c.rule-rule.result.now c.rule-rule.ensures c.args.part c.args.names.now c.args.changed.now c.requires.1.1
    c.store_of-firsts.result.now c.store_of-seconds.result.now c.delta_of-d1.result.now c.delta_of-d2.result.now c.second_number-second.result c.second_number-second.ensures
    c.store_of-firsts.ensures c.store_of-seconds.ensures c.delta_of-d1.ensures c.delta_of-d2.ensures c.args.steps.now c.delta.new.steps c.in_err-part.ensures.cost

pub returns-clause-done : goal.returns-clause-done
returns-clause-done g c =
    has_followed c.args.plan.now g.passage c.requires.1.0 c.args.number c.rule-rule.result.now c.rule-rule.ensures c.args.part c.args.names.now c.args.changed.now c.requires.1.1
    c.store_of-firsts.result.now c.store_of-seconds.result.now c.delta_of-d1.result.now c.delta_of-d2.result.now c.second_number-second.result c.second_number-second.ensures
    c.store_of-firsts.ensures c.store_of-seconds.ensures c.delta_of-d1.ensures c.delta_of-d2.ensures c.in_ok-part.part c.in_ok-part.delta
    c.in_ok-part.ensures.rule c.in_ok-part.ensures.stands c.in_ok-part.ensures.delta

pub returns-clause-cost : goal.returns-clause-cost
returns-clause-cost g c = cost_followed c.args.plan.now g.passage c.requires.1.0 c.args.number c.rule-rule.result.now c.rule-rule.ensures c.args.part c.args.names.now c.args.changed.now c.requires.1.1
    c.store_of-firsts.result.now c.store_of-seconds.result.now c.delta_of-d1.result.now c.delta_of-d2.result.now c.second_number-second.result c.second_number-second.ensures
    c.store_of-firsts.ensures c.store_of-seconds.ensures c.delta_of-d1.ensures c.delta_of-d2.ensures c.args.steps.now c.delta.new.steps c.in_ok-part.ensures.cost
