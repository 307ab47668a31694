use Rattle.std.proofs.Common.{◌++◌, subst, sym}
use Rattle.std.proofs.lemmas.Result.{IfOk-weaker}
use Rattle.nf_core.specs.declared.terms.Link.{Link}
use Rattle.nf_model.specs.Members.{HaveAllPlaces}
use Rattle.nf_pairs.specs.Partners.{HasTwoAtoms}
use Rattle.nf_join.proofs.PlaceLemmas.{pairs_with_places}
use Rattle.nf_join.proofs.exchanges.exchange.Goals as goal

pub exchange_ones-requires-clause-places : goal.exchange_ones-requires-clause-places
exchange_ones-requires-clause-places g c =
    subst (λ (l : Link). HaveAllPlaces c.args.rule.now l (c.args.first.now ++ c.args.d1.now.gone) (c.args.second.now ++ c.args.d2.now.gone)) c.in-One.is c.requires.places

pub returns-in-One-clause-exchanged : goal.returns-in-One-clause-exchanged
returns-in-One-clause-exchanged g c =
    IfOk-weaker c.exchange_ones.result _ _ (λ r h. h c.args.second.now c.args.d2.now) c.exchange_ones.ensures.exchanged

pub returns-in-One-clause-cost : goal.returns-in-One-clause-cost
returns-in-One-clause-cost g c = c.exchange_ones.ensures.cost c.args.second.now c.args.d2.now

pub exchange_pairs-requires-clause-two : goal.exchange_pairs-requires-clause-two
exchange_pairs-requires-clause-two g c = subst HasTwoAtoms (sym c.in-Pair.is) tt

pub exchange_pairs-requires-clause-second : goal.exchange_pairs-requires-clause-second
exchange_pairs-requires-clause-second g c = c.requires.second (subst HasTwoAtoms (sym c.in-Pair.is) tt)

pub exchange_pairs-requires-clause-places : goal.exchange_pairs-requires-clause-places
exchange_pairs-requires-clause-places g c =
    pairs_with_places c.args.rule.now c.args.first.now c.args.second.now c.args.d1.now c.args.d2.now
    (subst (λ (l : Link). HaveAllPlaces c.args.rule.now l (c.args.first.now ++ c.args.d1.now.gone) (c.args.second.now ++ c.args.d2.now.gone)) c.in-Pair.is c.requires.places)
