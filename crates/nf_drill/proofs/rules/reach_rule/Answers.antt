-- The end is within the limits.
use Rattle.std.proofs.Common.{rules, ◌≡◌, List, [], None, Some, sym, subst}
use Rattle.nf_core.specs.Trees.{IsRule, rule_from}
use Rattle.nf_core.specs.declared.operators.BinOp.TheVariants as operator
use Rattle.nf_core.specs.declared.trees.Body.TheVariants as body
use Rattle.nf_core.specs.declared.trees.Entry.{Entry}
use Rattle.nf_core.specs.declared.trees.Expr.{Expr}
use Rattle.nf_core.specs.declared.trees.Expr.TheVariants as e
use Rattle.nf_drill.proofs.RuleLemmas.{own_end, end_limited}
use Rattle.nf_drill.proofs.rules.reach_rule.Goals as goal

pub invariant_of-result : goal.invariant_of-result
invariant_of-result c =
    let end : e.Bin operator.Add c.in_ok-start.start c.in_ok-four.four ≡ own_end = search rules in
    let none : c.new-5.result ≡ [] = search rules in
    subst (λ (x : Expr). IsRule (rule_from c.in_ok-new-2.field-0 (body.One c.in_ok-atom.field-0) None c.new-5.result None (Some x))) (sym end)
    (subst (λ (es : List Entry). IsRule (rule_from c.in_ok-new-2.field-0 (body.One c.in_ok-atom.field-0) None es None (Some own_end))) (sym none) end_limited)
