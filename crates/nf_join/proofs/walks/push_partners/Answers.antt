use Rattle.std.proofs.Common.{◌≡◌, ◌+◌, true, subst, sym, ap, [], arith}
use Rattle.nf_core.specs.Intervals.{Interval}
use Rattle.nf_pairs.specs.Partners.{ArePartners, is_related, paired}
use Rattle.nf_pairs.specs.inner.Walks.{unskipped}
use Rattle.nf_pairs.proofs.Public.PartnerLemmas.{partners_sum, partners_at_most, partners_related, partners_all}
use Rattle.nf_join.specs.inner.Made.{HavePairPlaces, makes, costs, stored_sum}
use Rattle.nf_tally.specs.Numbers.{often}
use Rattle.nf_join.proofs.MadeLemmas.{unskipped_uncounted}
use Rattle.nf_join.proofs.StepLemmas.{All-next, All-rest, more_eq, more_le, none_left}
use Rattle.nf_join.proofs.walks.push_partners.Goals as goal

pub loop-stored-init : goal.loop-stored-init
loop-stored-init g c =
    let rule = c.args.rule.now in
    let one = c.args.one.now in
    let all = c.args.store.now in
    let left = c.into_iter-stored-iterator.result in
    let are : ArePartners rule c.args.which one all left = subst (ArePartners rule c.args.which one all) (sym c.into_iter-stored-iterator.ensures.into_iter_gives) c.partners-stored-items.ensures in
    let less = partners_at_most rule one all left c.args.which are (unskipped c.args.skip.now (paired c.args.which (costs rule) one)) in
    record {
      often = λ q. ap (λ n. often c.args.out.now q + n)
          (partners_sum rule one all left c.args.which are (unskipped c.args.skip.now (paired c.args.which (makes rule q) one))
          (λ j none. unskipped_uncounted rule c.args.skip.now c.args.which one q j none));
      cost = omega arith;
      related = partners_related rule one all left c.args.which are;
      places = partners_all rule one all left c.args.which are (HavePairPlaces rule c.args.which one) c.requires.places;
    }

pub push_partner-requires-clause-related : goal.push_partner-requires-clause-related
push_partner-requires-clause-related g c =
    All-next (λ (j : Interval). paired c.args.which (is_related c.args.rule.now.link) c.args.one.now j ≡ true) c.loop-stored.stored-iterator c.next.new.self c.in-Some.stored.now
    c.in-Some.ensures.steps c.loop-stored.invariant.related

pub push_partner-requires-clause-places : goal.push_partner-requires-clause-places
push_partner-requires-clause-places g c =
    All-next (HavePairPlaces c.args.rule.now c.args.which c.args.one.now) c.loop-stored.stored-iterator c.next.new.self c.in-Some.stored.now
    c.in-Some.ensures.steps c.loop-stored.invariant.places

pub loop-stored-preserved : goal.loop-stored-preserved
loop-stored-preserved g c =
    let rule = c.args.rule.now in
    let one = c.args.one.now in
    record {
      often = λ q. more_eq (unskipped c.args.skip.now (paired c.args.which (makes rule q) one)) c.loop-stored.stored-iterator c.next.new.self c.in-Some.stored.now
          (often c.loop-stored.out q) (often c.push_partner.new.out q) (often c.args.out.now q + stored_sum c.args.which (makes rule q) c.args.skip.now c.args.store.now one) c.in-Some.ensures.steps (c.loop-stored.invariant.often q) (c.in_ok-push_partner.ensures.often q);
      cost = more_le (unskipped c.args.skip.now (paired c.args.which (costs rule) one)) c.loop-stored.stored-iterator c.next.new.self c.in-Some.stored.now
          c.loop-stored.steps c.push_partner.new.steps (c.args.steps.now + stored_sum c.args.which (costs rule) c.args.skip.now c.args.store.now one) c.in-Some.ensures.steps c.loop-stored.invariant.cost c.in_ok-push_partner.ensures.cost;
      related = All-rest (λ (j : Interval). paired c.args.which (is_related rule.link) one j ≡ true) c.loop-stored.stored-iterator c.next.new.self c.in-Some.stored.now
          c.in-Some.ensures.steps c.loop-stored.invariant.related;
      places = All-rest (HavePairPlaces rule c.args.which one) c.loop-stored.stored-iterator c.next.new.self c.in-Some.stored.now
          c.in-Some.ensures.steps c.loop-stored.invariant.places;
    }

pub returns-clause-often : goal.returns-clause-often
returns-clause-often g c =
    let none : c.loop-stored.stored-iterator ≡ [] = c.in-None.ensures.steps.0 in
    λ q. none_left (unskipped c.args.skip.now (paired c.args.which (makes c.args.rule.now q) c.args.one.now)) c.loop-stored.stored-iterator (often c.loop-stored.out q)
    (often c.args.out.now q + stored_sum c.args.which (makes c.args.rule.now q) c.args.skip.now c.args.store.now c.args.one.now) none (c.loop-stored.invariant.often q)
