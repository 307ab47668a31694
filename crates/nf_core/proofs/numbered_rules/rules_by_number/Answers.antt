use Rattle.std.proofs.Common.{All, Contains, sym, subst, ◌∙◌, arith}
use Rattle.std.proofs.lemmas.List.{take_all}
use Rattle.std.proofs.lemmas.List.Elements.{All-from_recursion}
use Rattle.nf_core.specs.Trees.{IsRule}
use Rattle.nf_core.specs.Written.{names_in, plan_rule}
use Rattle.nf_core.proofs.NumberingLemmas.{known_item, mapped_more, all_more}
use Rattle.nf_core.proofs.numbered_rules.rules_by_number.Goals as goal

-- src/numbered_rules.rt:41:19
pub numbered_rule-requires-clause-known : goal.numbered_rule-requires-clause-known
numbered_rule-requires-clause-known c =
    All-from_recursion (Contains c.args.names.now) (names_in c.rule-item.result) (known_item c.args.names.now c.args.rules.now c.as_slice-rule-items.result.now c.rule-item.result c.loop-rule.rule-index c.requires.named c.as_slice-rule-items.ensures (omega arith) c.rule-item.is)

-- src/numbered_rules.rt:40:5
pub loop-rule-preserved : goal.loop-rule-preserved
loop-rule-preserved c = record {
  list = rw c.in_ok-push.ensures.ok (mapped_more (plan_rule c.args.rules.now) c.as_slice-rule-items.result.now c.loop-rule.rule-index c.loop-rule.list c.rule-item.result c.in_ok-numbered_rule.field-0 (omega arith) (sym c.rule-item.is) c.loop-rule.invariant.list
      (c.in_ok-numbered_rule.ensures.rule c.args.rules.now c.requires.named c.requires.keyed));
  limits = all_more IsRule c.as_slice-rule-items.result.now c.loop-rule.rule-index c.rule-item.result (omega arith) c.rule-item.is c.loop-rule.invariant.limits c.in_ok-numbered_rule.ensures.limits;
}

-- src/numbered_rules.rt:25:1
pub returns-clause-limits : goal.returns-clause-limits
returns-clause-limits c =
    subst (All IsRule) (take_all c.loop-rule.rule-index c.as_slice-rule-items.result.now (omega arith) ∙ c.as_slice-rule-items.ensures) c.loop-rule.invariant.limits
