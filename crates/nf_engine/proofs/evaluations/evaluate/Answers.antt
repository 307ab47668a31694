-- The part is taken out, follows its names, and is put back.
use Rattle.std.proofs.Common.{◌≡◌, ◌<◌, Option, None, Some, List, length, slice_set, ap, sym, subst, ◌∙◌, arith, set-set, length-set, refl}
use Rattle.std.proofs.lemmas.Option.{slice_get_within}
use Rattle.nf_minimal.specs.Minimals.{Minimal}
use Rattle.nf_engine.specs.declared.parts.RulePart.{RulePart}
use Rattle.nf_engine.specs.inner.Evaluations.{CanFollow, HasFollowed}
use Rattle.nf_engine.proofs.FollowLemmas.{can_follow}
use Rattle.nf_engine.proofs.evaluations.evaluate.Goals as goal

pub take_part-requires : goal.take_part-requires
take_part-requires g c =
    let inside : c.args.number < length c.args.plan.now.rules = slice_get_within c.args.plan.now.rules c.args.number c.requires.1.1.rule c.requires.1.1.at in
    let each : length c.args.round.now.rules.items ≡ length c.args.plan.now.rules = c.requires.1.1.each_rule in
    omega arith

pub follow-requires : goal.follow-requires
follow-requires g c = λ κs below. (
  below,
  (
    c.requires.1.0,
    subst (λ (ns : List Minimal). CanFollow c.args.plan.now g.passage c.args.number c.in-Some.part ns c.args.round.now.changed) (sym c.as_slice-names.ensures.value)
        (can_follow c.args.plan.now g.passage c.args.number c.requires.1.1.rule c.in-Some.part _ c.args.round.now.names.items c.args.round.now.changed
        c.requires.1.1.at c.in-Some.ensures.part c.requires.1.1.part c.requires.1.1.read),
  ),
)

pub put_part-requires : goal.put_part-requires
put_part-requires g c =
    let inside : c.args.number < length c.args.plan.now.rules = slice_get_within c.args.plan.now.rules c.args.number c.requires.1.1.rule c.requires.1.1.at in
    let each : length c.args.round.now.rules.items ≡ length c.args.plan.now.rules = c.requires.1.1.each_rule in
    let same : length c.take_part.new.parts.items ≡ length c.args.round.now.rules.items =
    ap (λ (ps : List (Option RulePart)). length ps) c.in-Some.ensures.rest ∙ length-set c.args.round.now.rules.items c.args.number None in
    omega arith

pub returns-clause-done : goal.returns-clause-done
returns-clause-done g c = record {
  names = refl;
  changed = refl;
  queue = refl;
  part = c.in_ok-part.part;
  rules =
      c.put_part.ensures ∙ ap (λ (ps : List (Option RulePart)). slice_set ps c.args.number (Some c.in_ok-part.part)) c.in-Some.ensures.rest
      ∙ set-set c.args.round.now.rules.items c.args.number None (Some c.in_ok-part.part);
  followed =
      subst (λ (ns : List Minimal). HasFollowed c.args.plan.now g.passage c.args.number ns c.in_ok-part.part c.in_ok-part.delta) c.as_slice-names.ensures.value
      c.in_ok-part.ensures.done;
}

pub returns-clause-cost : goal.returns-clause-cost
returns-clause-cost g c = c.in_ok-part.ensures.cost

pub returns-in_err-part-clause-cost : goal.returns-in_err-part-clause-cost
returns-in_err-part-clause-cost g c = c.in_err-part.ensures.cost
