use Rattle.std.proofs.Common.{◌≡◌, true, Some, None, option_to_list, sum_by, sym, subst, arith}
use Rattle.nf_core.specs.Intervals.{Interval}
use Rattle.nf_core.specs.Sets.{has}
use Rattle.nf_model.specs.Changes.{lacking}
use Rattle.nf_model.specs.Members.{HavePlaces, result_terms}
use Rattle.nf_index.specs.declared.relations.Which.TheVariants.{First}
use Rattle.nf_pairs.specs.Partners.{ArePartners, is_related}
use Rattle.nf_pairs.specs.inner.Walks.{unskipped}
use Rattle.nf_pairs.proofs.Public.PartnerLemmas.{partners_at_most, partners_related, partners_all}
use Rattle.nf_exclude.specs.inner.Turns.{asked, blocked_at, blocked_one}
use Rattle.nf_exclude.proofs.StepLemmas.{All-next, All-rest, next_sum, none_sum}
use Rattle.nf_exclude.proofs.TurnLemmas.{walked_start, walked_step, walked_end, walked_enough}
use Rattle.nf_exclude.proofs.PairLemmas.{members, blocked_over, turned_pair}
use Rattle.nf_exclude.proofs.pairs.turn_partners.Goals as goal

pub loop-first-init : goal.loop-first-init
loop-first-init g c =
    let rule = c.args.rule.now in
    let second = c.args.second.now in
    let all = c.args.firsts.now in
    let left = c.into_iter-first-iterator.result in
    let are : ArePartners rule First second all left = subst (ArePartners rule First second all) (sym c.into_iter-first-iterator.ensures.into_iter_gives) c.partners-first-items.ensures in
    let less = partners_at_most rule second all left First are (unskipped c.args.skipped.now (λ i. asked rule i second)) in
    record {
      walked = walked_start rule (lacking all c.args.skipped.now) (λ q. blocked_one rule (lacking all c.args.skipped.now) q second) c.args.turn c.args.blockers.now c.args.out.now
          (λ q. sum_by (λ i. blocked_at rule c.args.skipped.now second i q) left)
          (λ q. blocked_over rule c.args.skipped.now second all left c.requires.firsts c.requires.exclusive are q);
      cost = omega arith;
      related = partners_related rule second all left First are;
      members = partners_all rule second all left First are (λ i. has all i ≡ true) (members all);
      pairs = partners_all rule second all left First are (λ i. HavePlaces (option_to_list rule.filter) i (Some second)) c.requires.pairs;
      places = partners_all rule second all left First are (λ i. HavePlaces (result_terms rule) i None) c.requires.places;
    }

pub turn_pair-requires-clause-related : goal.turn_pair-requires-clause-related
turn_pair-requires-clause-related g c =
    All-next (λ (i : Interval). is_related c.args.rule.now.link i c.args.second.now ≡ true) c.loop-first.first-iterator c.next.new.self c.in-Some.first.now
    c.in-Some.ensures.steps c.loop-first.invariant.related

pub turn_pair-requires-clause-pair : goal.turn_pair-requires-clause-pair
turn_pair-requires-clause-pair g c =
    All-next (λ (i : Interval). HavePlaces (option_to_list c.args.rule.now.filter) i (Some c.args.second.now)) c.loop-first.first-iterator c.next.new.self c.in-Some.first.now
    c.in-Some.ensures.steps c.loop-first.invariant.pairs

pub turn_pair-requires-clause-places : goal.turn_pair-requires-clause-places
turn_pair-requires-clause-places g c =
    All-next (λ (i : Interval). HavePlaces (result_terms c.args.rule.now) i None) c.loop-first.first-iterator c.next.new.self c.in-Some.first.now
    c.in-Some.ensures.steps c.loop-first.invariant.places

pub turn_pair-requires-clause-enough : goal.turn_pair-requires-clause-enough
turn_pair-requires-clause-enough g c =
    let rule = c.args.rule.now in
    let second = c.args.second.now in
    let first = c.in-Some.first.now in
    let kept = lacking c.args.firsts.now c.args.skipped.now in
    let more = next_sum (λ (i : Interval). blocked_at rule c.args.skipped.now second i first) c.loop-first.first-iterator c.next.new.self first c.in-Some.ensures.steps in
    walked_enough rule kept (λ q. blocked_one rule kept q second) c.args.turn c.args.blockers.now c.loop-first.blockers c.args.out.now c.loop-first.out
    (λ q. sum_by (λ i. blocked_at rule c.args.skipped.now second i q) c.loop-first.first-iterator) first (blocked_at rule c.args.skipped.now second first first)
    c.loop-first.invariant.walked (c.requires.enough first) (omega arith)

pub loop-first-preserved : goal.loop-first-preserved
loop-first-preserved g c =
    let rule = c.args.rule.now in
    let second = c.args.second.now in
    let first = c.in-Some.first.now in
    let kept = lacking c.args.firsts.now c.args.skipped.now in
    let left = c.loop-first.first-iterator in
    let rest = c.next.new.self in
    let there : has c.args.firsts.now first ≡ true = All-next (λ (i : Interval). has c.args.firsts.now i ≡ true) left rest first c.in-Some.ensures.steps c.loop-first.invariant.members in
    let paid = next_sum (unskipped c.args.skipped.now (λ i. asked rule i second)) left rest first c.in-Some.ensures.steps in
    record {
      walked = walked_step rule kept (λ q. blocked_one rule kept q second) c.args.turn c.args.blockers.now c.loop-first.blockers c.turn_pair.new.blockers c.args.out.now c.loop-first.out c.turn_pair.new.out
          (λ q. sum_by (λ i. blocked_at rule c.args.skipped.now second i q) left) (λ q. sum_by (λ i. blocked_at rule c.args.skipped.now second i q) rest)
          (blocked_at rule c.args.skipped.now second first) c.loop-first.invariant.walked
          (turned_pair rule c.args.skipped.now second c.args.firsts.now first c.args.turn c.loop-first.blockers c.turn_pair.new.blockers c.loop-first.out c.turn_pair.new.out
          c.requires.firsts there c.in_ok-turn_pair.ensures.turned)
          (λ q. next_sum (λ (i : Interval). blocked_at rule c.args.skipped.now second i q) left rest first c.in-Some.ensures.steps);
      cost = omega (arith, paid, c.loop-first.invariant.cost, c.in_ok-turn_pair.ensures.cost);
      related = All-rest (λ (i : Interval). is_related rule.link i second ≡ true) left rest first c.in-Some.ensures.steps c.loop-first.invariant.related;
      members = All-rest (λ (i : Interval). has c.args.firsts.now i ≡ true) left rest first c.in-Some.ensures.steps c.loop-first.invariant.members;
      pairs = All-rest (λ (i : Interval). HavePlaces (option_to_list rule.filter) i (Some second)) left rest first c.in-Some.ensures.steps c.loop-first.invariant.pairs;
      places = All-rest (λ (i : Interval). HavePlaces (result_terms rule) i None) left rest first c.in-Some.ensures.steps c.loop-first.invariant.places;
    }

pub returns-clause-turned : goal.returns-clause-turned
returns-clause-turned g c =
    let kept = lacking c.args.firsts.now c.args.skipped.now in
    walked_end c.args.rule.now kept (λ q. blocked_one c.args.rule.now kept q c.args.second.now) c.args.turn c.args.blockers.now c.loop-first.blockers c.args.out.now c.loop-first.out
    (λ q. sum_by (λ i. blocked_at c.args.rule.now c.args.skipped.now c.args.second.now i q) c.loop-first.first-iterator) c.loop-first.invariant.walked
    (λ q. none_sum (λ (i : Interval). blocked_at c.args.rule.now c.args.skipped.now c.args.second.now i q) c.loop-first.first-iterator c.in-None.ensures.steps.0)
