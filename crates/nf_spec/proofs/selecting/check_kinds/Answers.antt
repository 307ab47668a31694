use Rattle.std.proofs.Common.{◌≡◌, ◌<◌, length, get_or, Some, refl, ap, ◌∙◌, subst, arith}
use Rattle.nf_core.specs.Trees.{IsRule}
use Rattle.nf_spec.proofs.KindLemmas.{all_judged, one_judged, one_unjudged}
use Rattle.nf_spec.proofs.selecting.check_kinds.Goals as goal

pub returns-in-Err-clause-err : goal.returns-in-Err-clause-err
returns-in-Err-clause-err c =
    let items = c.as_slice-rule-items.ensures in
    let low : c.rules.place < length c.args.rules.now = omega (arith, ap length items, c.rules-test.true) in
    let is = c.rule-item.is ∙ ap (λ rules. get_or rules c.rules.place c.rule-item.result) items in
    let found : Some c.in-Err.why ≡ _ = c.in-Err.ensures.fault in
    (_, _, one_unjudged c.args.rules.now c.rules.place c.rule-item.result c.in-Err.why low is found c.rules.invariant, refl)

pub rules-preserved : goal.rules-preserved
rules-preserved c =
    let items = c.as_slice-rule-items.ensures in
    let low : c.rules.place < length c.args.rules.now = omega (arith, ap length items, c.rules-test.true) in
    let is = c.rule-item.is ∙ ap (λ rules. get_or rules c.rules.place c.rule-item.result) items in
    let limits : IsRule c.rule-item.result = subst IsRule c.rule.view_is c.rule.invariant in
    one_judged c.args.rules.now c.rules.place c.rule-item.result low is c.in_default.ensures.fault (c.in_default.ensures.right.0 refl) limits c.rules.invariant

pub returns-clause-ok : goal.returns-clause-ok
returns-clause-ok c = (all_judged c.args.rules.now c.rules.place (omega (arith, ap length c.as_slice-rule-items.ensures, c.rules-test.false)) c.rules.invariant).0

pub returns-clause-right : goal.returns-clause-right
returns-clause-right c = (all_judged c.args.rules.now c.rules.place (omega (arith, ap length c.as_slice-rule-items.ensures, c.rules-test.false)) c.rules.invariant).1.0

pub returns-clause-limits : goal.returns-clause-limits
returns-clause-limits c = (all_judged c.args.rules.now c.rules.place (omega (arith, ap length c.as_slice-rule-items.ensures, c.rules-test.false)) c.rules.invariant).1.1
