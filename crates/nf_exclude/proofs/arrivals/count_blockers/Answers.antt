use Rattle.std.proofs.Common.{◌≡◌, ◌+◌, true, cond, Some, option_to_list, sym, ap, ◌∙◌, subst, arith}
use Rattle.nf_core.specs.Intervals.{Interval}
use Rattle.nf_model.specs.Members.{HavePlaces}
use Rattle.nf_index.specs.declared.relations.Which.TheVariants.{Second}
use Rattle.nf_pairs.specs.Partners.{ArePartners, is_related}
use Rattle.nf_pairs.proofs.Public.PartnerLemmas.{partners_at_most, partners_related, partners_all}
use Rattle.nf_exclude.specs.Exclusions.{blocks_in, blockers_among}
use Rattle.nf_exclude.specs.inner.Turns.{asked}
use Rattle.nf_exclude.proofs.StepLemmas.{All-next, All-rest, next_sum, none_sum}
use Rattle.nf_exclude.proofs.PairLemmas.{asked_once}
use Rattle.nf_exclude.proofs.ArrivalLemmas.{blockers_over}
use Rattle.nf_exclude.proofs.arrivals.count_blockers.Goals as goal

pub loop-second-init : goal.loop-second-init
loop-second-init g c =
    let rule = c.args.rule.now in
    let first = c.args.first.now in
    let all = c.args.seconds.now in
    let left = c.into_iter-second-iterator.result in
    let are : ArePartners rule Second first all left = subst (ArePartners rule Second first all) (sym c.into_iter-second-iterator.ensures.into_iter_gives) c.partners-second-items.ensures in
    let same_count : blockers_among rule left first ≡ blockers_among rule all first = blockers_over rule first all left c.requires.exclusive are in
    let less = partners_at_most rule first all left Second are (asked rule first) in
    record {
      count = omega (arith, same_count);
      cost = omega (arith, less);
      related = partners_related rule first all left Second are;
      pairs = partners_all rule first all left Second are (λ j. HavePlaces (option_to_list rule.filter) first (Some j)) c.requires.pairs;
    }

pub is_blocker-requires-clause-related : goal.is_blocker-requires-clause-related
is_blocker-requires-clause-related g c =
    All-next (λ (j : Interval). is_related c.args.rule.now.link c.args.first.now j ≡ true) c.loop-second.second-iterator c.next.new.self c.in-Some.second.now
    c.in-Some.ensures.steps c.loop-second.invariant.related

pub is_blocker-requires-clause-pair : goal.is_blocker-requires-clause-pair
is_blocker-requires-clause-pair g c =
    All-next (λ (j : Interval). HavePlaces (option_to_list c.args.rule.now.filter) c.args.first.now (Some j)) c.loop-second.second-iterator c.next.new.self c.in-Some.second.now
    c.in-Some.ensures.steps c.loop-second.invariant.pairs

pub loop-second-preserved : goal.loop-second-preserved
loop-second-preserved g c =
    let rule = c.args.rule.now in
    let first = c.args.first.now in
    let second = c.in-Some.second.now in
    let left = c.loop-second.second-iterator in
    let rest = c.next.new.self in
    let more : blockers_among rule left first ≡ cond (blocks_in rule first second) 1 0 + blockers_among rule rest first =
    next_sum (λ (j : Interval). cond (blocks_in rule first j) 1 0) left rest second c.in-Some.ensures.steps in
    let counted : c.in_ok-count.count ≡ c.loop-second.count + cond (blocks_in rule first second) 1 0 =
    c.in_ok-count.ensures ∙ ap (λ b. c.loop-second.count + cond b 1 0) c.is_blocker.ensures.value in
    let paid = next_sum (asked rule first) left rest second c.in-Some.ensures.steps in
    let once = asked_once rule first second in
    record {
      count = omega (arith, more, counted, c.loop-second.invariant.count);
      cost = omega (arith, paid, once, c.loop-second.invariant.cost, c.is_blocker.ensures.cost);
      related = All-rest (λ (j : Interval). is_related rule.link first j ≡ true) left rest second c.in-Some.ensures.steps c.loop-second.invariant.related;
      pairs = All-rest (λ (j : Interval). HavePlaces (option_to_list rule.filter) first (Some j)) left rest second c.in-Some.ensures.steps c.loop-second.invariant.pairs;
    }

pub returns-in_err-count-clause-cost : goal.returns-in_err-count-clause-cost
returns-in_err-count-clause-cost g c =
    let paid = next_sum (asked c.args.rule.now c.args.first.now) c.loop-second.second-iterator c.next.new.self c.in-Some.second.now c.in-Some.ensures.steps in
    let once = asked_once c.args.rule.now c.args.first.now c.in-Some.second.now in
    omega (arith, paid, once, c.loop-second.invariant.cost, c.is_blocker.ensures.cost)

pub returns-clause-count : goal.returns-clause-count
returns-clause-count g c =
    let none : blockers_among c.args.rule.now c.loop-second.second-iterator c.args.first.now ≡ 0 =
    none_sum (λ (j : Interval). cond (blocks_in c.args.rule.now c.args.first.now j) 1 0) c.loop-second.second-iterator c.in-None.ensures.steps.0 in
    omega (arith, none, c.loop-second.invariant.count)
