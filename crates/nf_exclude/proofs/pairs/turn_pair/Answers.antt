use Rattle.std.proofs.Common.{◌≡◌, ◌+◌, true, cond, sym, ap, ◌∙◌, subst, arith}
use Rattle.nf_model.specs.Work.{present, values}
use Rattle.nf_pairs.specs.inner.Walks.{unskipped}
use Rattle.nf_tally.specs.Numbers.{number}
use Rattle.nf_exclude.specs.Exclusions.{blocks_in}
use Rattle.nf_exclude.specs.inner.Turns.{faces_in, asked, CanTurn}
use Rattle.nf_exclude.proofs.RuleLemmas.{blocker_faces}
use Rattle.nf_exclude.proofs.PairLemmas.{blocked_here, asked_here}
use Rattle.nf_exclude.proofs.pairs.turn_pair.Goals as goal

pub turn_one-requires-clause-enough : goal.turn_one-requires-clause-enough
turn_one-requires-clause-enough g c =
    subst (λ n. CanTurn c.args.turn n (number c.args.blockers.now c.args.first.now))
    (blocked_here c.args.rule.now c.args.skipped.now c.args.second.now c.args.first.now (sym c.has_sorted.ensures ∙ c.if-has_sorted.false) (sym c.is_blocker.ensures.value ∙ c.if-not-is_blocker.false))
    c.requires.enough

pub returns-clause-cost : goal.returns-clause-cost
returns-clause-cost g c =
    let blocks : blocks_in c.args.rule.now c.args.first.now c.args.second.now ≡ true = sym c.is_blocker.ensures.value ∙ c.if-not-is_blocker.false in
    let all : unskipped c.args.skipped.now (λ i. asked c.args.rule.now i c.args.second.now) c.args.first.now ≡ present c.args.rule.now.filter + values c.args.rule.now =
    asked_here c.args.rule.now c.args.skipped.now c.args.second.now c.args.first.now (sym c.has_sorted.ensures ∙ c.if-has_sorted.false) blocks in
    let once : cond (faces_in c.args.rule.now c.args.first.now c.args.second.now) (present c.args.rule.now.filter) 0 ≡ present c.args.rule.now.filter =
    ap (λ b. cond b (present c.args.rule.now.filter) 0) (blocker_faces c.args.rule.now c.args.first.now c.args.second.now blocks) in
    omega (arith, all, once, c.is_blocker.ensures.cost, c.turn_one.ensures.cost)
