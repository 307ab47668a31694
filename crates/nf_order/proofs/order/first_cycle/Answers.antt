use Rattle.std.proofs.Common.{◌≡◌, refl, true≢false, length, take, All, sym, ap, subst, ◌∙◌, arith}
use Rattle.std.proofs.Math.Seq.{take-length}
use Rattle.nf_core.specs.Trees.{Rule}
use Rattle.nf_order.specs.Dependence.{DependsOn}
use Rattle.nf_order.specs.inner.Marks.{HasCycle}
use Rattle.nf_order.proofs.CycleLemmas.{name_known, number_within, found_here, not_here, not_without}
use Rattle.nf_order.proofs.order.first_cycle.Goals as goal

pub number-number-requires : goal.number-number-requires
number-number-requires c =
    name_known c.args.rules.now c.as_slice-rule-items.result.now c.args.names.now c.args.graph.now c.loop-rule.rule-index c.rule-item.result c.as_str-name.result.now _
    c.as_slice-rule-items.ensures c.requires.named c.requires.graph (omega arith) c.rule-item.is (c.as_str-name.ensures ∙ ap (λ (r : Rule). r.head) c.rule.view_is) refl

pub is_on_cycle-requires-clause-within : goal.is_on_cycle-requires-clause-within
is_on_cycle-requires-clause-within c =
    number_within c.args.rules.now c.as_slice-rule-items.result.now c.args.names.now c.args.graph.now c.loop-rule.rule-index c.rule-item.result c.as_str-name.result.now c.number-number.result
    c.as_slice-rule-items.ensures c.requires.named c.requires.graph (omega arith) c.rule-item.is (c.as_str-name.ensures ∙ ap (λ (r : Rule). r.head) c.rule.view_is) c.number-number.ensures.number

pub returns-then-branch : goal.returns-then-branch
returns-then-branch c =
    rw c.in_ok-head.ensures (found_here c.args.rules.now c.as_slice-rule-items.result.now c.args.names.now c.args.graph.now c.loop-rule.rule-index c.rule-item.result c.as_str-name.result.now c.number-number.result
    c.as_slice-rule-items.ensures c.requires.named c.requires.graph (omega arith) c.rule-item.is (c.as_str-name.ensures ∙ ap (λ (r : Rule). r.head) c.rule.view_is) c.number-number.ensures.number c.loop-rule.invariant (c.in_ok-is_on_cycle.ensures.0 c.if-branch.true))

pub loop-rule-preserved : goal.loop-rule-preserved
loop-rule-preserved c =
    not_here c.args.rules.now c.as_slice-rule-items.result.now c.args.names.now c.args.graph.now c.loop-rule.rule-index c.rule-item.result c.as_str-name.result.now c.number-number.result
    c.as_slice-rule-items.ensures c.requires.named c.requires.graph (omega arith) c.rule-item.is (c.as_str-name.ensures ∙ ap (λ (r : Rule). r.head) c.rule.view_is) c.number-number.ensures.number c.loop-rule.invariant (λ w. true≢false (sym (c.in_ok-is_on_cycle.ensures.1 w) ∙ c.if-branch.false))

pub unreachable-requires : goal.unreachable-requires
unreachable-requires c =
    let end : c.loop-rule.rule-index ≡ length c.as_slice-rule-items.result.now = omega (arith, c.loop-rule-test.false, c.loop-rule.auto.rule-index-end) in
    let all_items : All (λ (r : Rule). ¬ DependsOn c.args.rules.now r.head r.head) (take (length c.as_slice-rule-items.result.now) c.as_slice-rule-items.result.now) = subst (λ n. All (λ (r : Rule). ¬ DependsOn c.args.rules.now r.head r.head) (take n c.as_slice-rule-items.result.now)) end c.loop-rule.invariant in
    not_without c.args.rules.now (subst HasCycle c.requires.graph c.requires.cycle)
    (subst (λ rs. All (λ (r : Rule). ¬ DependsOn c.args.rules.now r.head r.head) rs) (take-length c.as_slice-rule-items.result.now ∙ c.as_slice-rule-items.ensures) all_items)
