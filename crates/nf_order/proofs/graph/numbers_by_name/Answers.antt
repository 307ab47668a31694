use Rattle.std.proofs.Common.{◌≡◌, ◌<◌, length, take, Contains, ◌∙◌, ap, sym, subst, arith}
use Rattle.std.specs.List.{IsDistinct}
use Rattle.nf_core.specs.Texts.{text_eq}
use Rattle.std.proofs.lemmas.List.{length-map}
use Rattle.std.proofs.lemmas.List.Elements.{All-from_recursion}
use Rattle.nf_core.proofs.Public.EachOnceLemmas.{place_of-lt}
use Rattle.nf_core.proofs.Public.NameLemmas.{IsDistinct-names_of}
use Rattle.nf_core.specs.Trees.{Rule}
use Rattle.nf_core.specs.Written.{place_of}
use Rattle.nf_order.specs.inner.Graph.{numbers_below}
use Rattle.nf_order.proofs.GraphLemmas.{below_none, below_more, rule_known}
use Rattle.nf_order.proofs.graph.numbers_by_name.Goals as goal

pub loop-rule-init : goal.loop-rule-init
loop-rule-init c = rw (c.in_ok-below.ensures, c.len.ensures) (below_none c.args.names.now c.args.names.now)

pub number-head-requires : goal.number-head-requires
number-head-requires c =
    subst (Contains c.args.names.now) (sym (c.as_str.ensures ∙ ap (λ (r : Rule). r.head) c.rule.view_is))
    (rule_known c.args.names.now c.args.rules.now c.as_slice-rule-items.result.now c.loop-rule.rule-index c.rule-item.result c.requires c.as_slice-rule-items.ensures (omega arith) c.rule-item.is).0

pub index_mut-requires : goal.index_mut-requires
index_mut-requires c =
    let known = rule_known c.args.names.now c.args.rules.now c.as_slice-rule-items.result.now c.loop-rule.rule-index c.rule-item.result c.requires c.as_slice-rule-items.ensures (omega arith) c.rule-item.is in
    let within : place_of c.args.names.now c.rule-item.result.head < length c.args.names.now = place_of-lt c.args.names.now c.rule-item.result.head known.0 in
    let many : length c.loop-rule.below.items ≡ length c.args.names.now = ap length c.loop-rule.invariant ∙ length-map c.args.names.now (numbers_below c.args.names.now (take c.loop-rule.rule-index c.as_slice-rule-items.result.now)) in
    let at : c.number-head.result ≡ place_of c.args.names.now c.rule-item.result.head = c.number-head.ensures.number ∙ ap (place_of c.args.names.now) (c.as_str.ensures ∙ ap (λ (r : Rule). r.head) c.rule.view_is) in
    omega arith

pub add_numbers-requires : goal.add_numbers-requires
add_numbers-requires c =
    All-from_recursion (Contains c.args.names.now) _
    (rule_known c.args.names.now c.args.rules.now c.as_slice-rule-items.result.now c.loop-rule.rule-index c.rule-item.result c.requires c.as_slice-rule-items.ensures (omega arith) c.rule-item.is).1

pub loop-rule-preserved : goal.loop-rule-preserved
loop-rule-preserved c =
    let known = rule_known c.args.names.now c.args.rules.now c.as_slice-rule-items.result.now c.loop-rule.rule-index c.rule-item.result c.requires c.as_slice-rule-items.ensures (omega arith) c.rule-item.is in
    let at : c.number-head.result ≡ place_of c.args.names.now c.rule-item.result.head = c.number-head.ensures.number ∙ ap (place_of c.args.names.now) (c.as_str.ensures ∙ ap (λ (r : Rule). r.head) c.rule.view_is) in
    rw at (below_more c.args.names.now c.as_slice-rule-items.result.now c.loop-rule.rule-index c.rule-item.result c.loop-rule.below.items c.index_mut.result.now c.add_numbers.new.numbers
    (subst (IsDistinct text_eq) (sym c.requires) (IsDistinct-names_of c.args.rules.now)) known.0 (omega arith) c.rule-item.is c.loop-rule.invariant
    (rw at at c.index_mut.ensures.value) c.in_ok-add_numbers.ensures)
