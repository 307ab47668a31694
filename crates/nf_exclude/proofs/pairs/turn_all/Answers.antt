use Rattle.std.proofs.Common.{◌+◌, All, Some, option_to_list, drop, sum_by, refl, arith}
use Rattle.nf_core.specs.Intervals.{Interval}
use Rattle.nf_model.specs.Changes.{lacking}
use Rattle.nf_model.specs.Members.{HavePlaces}
use Rattle.nf_pairs.specs.inner.Walks.{unskipped}
use Rattle.nf_exclude.specs.inner.Turns.{asked, blocked_one}
use Rattle.nf_exclude.proofs.StepLemmas.{All-item, item_sum, past_sum}
use Rattle.nf_exclude.proofs.TurnLemmas.{walked_start, walked_step, walked_end, walked_enough}
use Rattle.nf_exclude.proofs.pairs.turn_all.Goals as goal

pub loop-second-init : goal.loop-second-init
loop-second-init g c =
    let kept = lacking c.args.firsts.now c.args.skipped.now in
    record {
      walked = walked_start c.args.rule.now kept (λ q. sum_by (blocked_one c.args.rule.now kept q) c.args.seconds.now) c.args.turn c.args.blockers.now c.args.out.now
          (λ q. sum_by (blocked_one c.args.rule.now kept q) c.args.seconds.now) (λ q. refl);
      cost = omega arith;
    }

pub turn_partners-requires-clause-pairs : goal.turn_partners-requires-clause-pairs
turn_partners-requires-clause-pairs g c =
    All-item (λ (j : Interval). All (λ (i : Interval). HavePlaces (option_to_list c.args.rule.now.filter) i (Some j)) c.args.firsts.now) c.args.seconds.now
    c.loop-second.second-index c.second-item.result c.loop-second-test.true c.second-item.is c.requires.pairs

pub turn_partners-requires-clause-enough : goal.turn_partners-requires-clause-enough
turn_partners-requires-clause-enough g c = λ q.
    let rule = c.args.rule.now in
    let kept = lacking c.args.firsts.now c.args.skipped.now in
    let second = c.second-item.result in
    let more = item_sum (blocked_one rule kept q) c.args.seconds.now c.loop-second.second-index second c.loop-second-test.true c.second-item.is in
    walked_enough rule kept (λ p. sum_by (blocked_one rule kept p) c.args.seconds.now) c.args.turn c.args.blockers.now c.loop-second.blockers c.args.out.now c.loop-second.out
    (λ p. sum_by (blocked_one rule kept p) (drop c.loop-second.second-index c.args.seconds.now)) q (blocked_one rule kept q second)
    c.loop-second.invariant.walked (c.requires.enough q) (omega arith)

pub loop-second-preserved : goal.loop-second-preserved
loop-second-preserved g c =
    let rule = c.args.rule.now in
    let kept = lacking c.args.firsts.now c.args.skipped.now in
    let second = c.second-item.result in
    let left = drop c.loop-second.second-index c.args.seconds.now in
    let rest = drop (c.loop-second.second-index + 1) c.args.seconds.now in
    let paid = item_sum (λ (j : Interval). sum_by (unskipped c.args.skipped.now (λ i. asked rule i j)) c.args.firsts.now) c.args.seconds.now c.loop-second.second-index second c.loop-second-test.true c.second-item.is in
    record {
      walked = walked_step rule kept (λ q. sum_by (blocked_one rule kept q) c.args.seconds.now) c.args.turn c.args.blockers.now c.loop-second.blockers c.turn_partners.new.blockers
          c.args.out.now c.loop-second.out c.turn_partners.new.out (λ q. sum_by (blocked_one rule kept q) left) (λ q. sum_by (blocked_one rule kept q) rest)
          (λ q. blocked_one rule kept q second) c.loop-second.invariant.walked c.in_ok-turn_partners.ensures.turned
          (λ q. item_sum (blocked_one rule kept q) c.args.seconds.now c.loop-second.second-index second c.loop-second-test.true c.second-item.is);
      cost = omega (arith, paid, c.loop-second.invariant.cost, c.in_ok-turn_partners.ensures.cost);
    }

pub returns-in_err-turn_partners-clause-cost : goal.returns-in_err-turn_partners-clause-cost
returns-in_err-turn_partners-clause-cost g c =
    let paid = item_sum (λ (j : Interval). sum_by (unskipped c.args.skipped.now (λ i. asked c.args.rule.now i j)) c.args.firsts.now) c.args.seconds.now c.loop-second.second-index c.second-item.result c.loop-second-test.true c.second-item.is in
    omega (arith, paid, c.loop-second.invariant.cost, c.turn_partners.ensures.cost)

pub returns-clause-turned : goal.returns-clause-turned
returns-clause-turned g c =
    let kept = lacking c.args.firsts.now c.args.skipped.now in
    walked_end c.args.rule.now kept (λ q. sum_by (blocked_one c.args.rule.now kept q) c.args.seconds.now) c.args.turn c.args.blockers.now c.loop-second.blockers c.args.out.now c.loop-second.out
    (λ q. sum_by (blocked_one c.args.rule.now kept q) (drop c.loop-second.second-index c.args.seconds.now)) c.loop-second.invariant.walked
    (λ q. past_sum (blocked_one c.args.rule.now kept q) c.args.seconds.now c.loop-second.second-index c.loop-second-test.false)
