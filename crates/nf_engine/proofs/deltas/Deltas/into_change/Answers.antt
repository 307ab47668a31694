-- Each entry is told in its turn.
use Rattle.std.proofs.Common.{◌≡◌, ℕ, ◌∷◌, ◌<◌, length, sym, subst, ◌∙◌}
use Rattle.std.specs.List.Sorted.{IsStrictlySortedBy}
use Rattle.std.specs.Map.{keys_of}
use Rattle.std.specs.Ordering.{nat_cmp}
use Rattle.std.proofs.lemmas.List.Elements.{All-head}
use Rattle.nf_core.specs.declared.intervals.Delta.{Delta}
use Rattle.nf_engine.specs.inner.Deltas.{NamedDeltas, IsTold}
use Rattle.nf_engine.proofs.ToldLemmas.{told_first, told_next, told_all}
use Rattle.nf_engine.proofs.deltas.Deltas.into_change.Goals as goal

pub loop-name-init : goal.loop-name-init
loop-name-init c =
    let all : c.into_iter-name-iterator.result ≡ c.args.self = c.into_iter-name-iterator.ensures.into_iter_gives.0 ∙ c.self.view_is in
    subst (λ (left : NamedDeltas). IsTold c.args.plan.now left c.args.self (record { gone = c.new.result; come = c.new-2.result })) (sym all)
    (told_first c.args.plan.now c.args.self c.requires (record { gone = c.new.result; come = c.new-2.result }) c.new.ensures c.new-2.ensures)

pub push_delta-requires : goal.push_delta-requires
push_delta-requires c =
    let told_so : IsTold c.args.plan.now ((c.in-Some.name, c.in-Some.delta) ∷ c.next.new.self) c.args.self c.loop-name.change =
    subst (λ (left : NamedDeltas). IsTold c.args.plan.now left c.args.self c.loop-name.change) c.in-Some.ensures.steps c.loop-name.invariant in
    All-head (λ (e : ℕ × Delta). e.0 < length c.args.plan.now.names) (c.in-Some.name, c.in-Some.delta) c.next.new.self told_so.names

pub loop-name-preserved : goal.loop-name-preserved
loop-name-preserved c =
    told_next c.args.plan.now (c.in-Some.name, c.in-Some.delta) c.next.new.self c.args.self c.loop-name.change c.push_delta.new.change
    (subst (λ (left : NamedDeltas). IsTold c.args.plan.now left c.args.self c.loop-name.change) c.in-Some.ensures.steps c.loop-name.invariant)
    c.in_ok-push_delta.ensures.gone c.in_ok-push_delta.ensures.come

pub returns : goal.returns
returns c =
    let sorted : IsStrictlySortedBy nat_cmp (keys_of c.args.self) =
    subst (λ (es : NamedDeltas). IsStrictlySortedBy nat_cmp (keys_of es)) c.self.view_is c.into_iter-name-iterator.ensures.into_iter_gives.5 in
    told_all c.args.plan.now c.args.self c.loop-name.change sorted c.requires
    (subst (λ (left : NamedDeltas). IsTold c.args.plan.now left c.args.self c.loop-name.change) c.in-None.ensures.steps.0 c.loop-name.invariant)
