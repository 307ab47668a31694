use Rattle.std.proofs.Common.{◌≡◌, ℕ, List, [], ◌∷◌, refl, length, Contains, get_or, false, true≢false, sym, subst, ◌∙◌, arith}
use Rattle.std.proofs.lemmas.List.{get_or_default}
use Rattle.std.proofs.lemmas.List.Elements.{Contains-push}
use Rattle.nf_order.specs.inner.Reach.{IsReach, IsFlagged}
use Rattle.nf_order.proofs.ReachLemmas.{reach_on, seen_on_cycle, cycle_is_seen}
use Rattle.nf_order.proofs.cycles.is_on_cycle.Goals as goal

pub below-requires : goal.below-requires
below-requires c =
    c.loop-next.invariant.within c.in-Some.next (subst (λ ns. Contains ns c.in-Some.next) (sym c.in-Some.ensures.items) (Contains-push c.pop.new.self.items c.in-Some.next))

pub loop-next-preserved : goal.loop-next-preserved
loop-next-preserved c =
    reach_on c.args.graph.now c.below.ensures.valid c.args.off.now c.args.number c.loop-next.seen.items c.pop.new.self.items c.in-Some.next (subst (IsReach c.args.graph.now c.args.off.now c.args.number c.loop-next.seen.items) c.in-Some.ensures.items c.loop-next.invariant)
    c.see_all.new.seen.items c.see_all.new.stack.items (rw c.below.ensures.below at c.in_ok-see_all.ensures)

nothing : (ns : List ℕ) → length ns ≡ 0 → ns ≡ []
nothing [] e = refl
nothing (n ∷ ns) e = absurd (omega (arith, e))

pub returns : goal.returns
returns c =
    let none : length c.loop-next.stack.items ≡ 0 = omega (arith, c.in_default.ensures.cases.0) in
    let empty : c.loop-next.stack.items ≡ [] = nothing c.loop-next.stack.items none in
    let at_end : IsReach c.args.graph.now c.args.off.now c.args.number c.loop-next.seen.items [] = subst (IsReach c.args.graph.now c.args.off.now c.args.number c.loop-next.seen.items) empty c.loop-next.invariant in
    let read : c.index.result.now ≡ get_or c.loop-next.seen.items c.args.number false = c.index.ensures ∙ get_or_default c.loop-next.seen.items c.args.number c.index.result.now false (omega (arith, c.loop-next.invariant.each, c.requires.within)) in
    let not_off : ¬ IsFlagged c.args.off.now c.args.number = λ f. true≢false (sym f ∙ c.if-off-number.false) in (
      λ h. seen_on_cycle c.args.graph.now c.args.off.now c.requires.off c.args.number c.loop-next.seen.items at_end not_off (sym read ∙ h),
      λ w. read ∙ cycle_is_seen c.args.graph.now c.args.off.now c.requires.off c.args.number c.loop-next.seen.items at_end w,
    )
