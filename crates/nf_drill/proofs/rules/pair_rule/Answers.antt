-- The value of the map is within the limits.
use Rattle.std.proofs.Common.{rules, ◌≡◌, List, [], ◌∷◌, None, sym, subst}
use Rattle.std.specs.Prelude.{codes}
use Rattle.nf_core.specs.Trees.{IsRule, rule_from}
use Rattle.nf_core.specs.declared.operators.Op.TheVariants as op
use Rattle.nf_core.specs.declared.trees.Body.TheVariants as body
use Rattle.nf_core.specs.declared.trees.Entry.{Entry}
use Rattle.nf_drill.proofs.RuleLemmas.{own_key, key_limited}
use Rattle.nf_drill.proofs.rules.pair_rule.Goals as goal

pub invariant_of-result : goal.invariant_of-result
invariant_of-result c =
    let own : Entry = record { key = codes "k"; value = own_key } in
    let entries : c.push.new.self ≡ own ∷ [] = search rules in
    subst (λ (es : List Entry). IsRule (rule_from c.in_ok-new-4.field-0 (body.Pair c.in_ok-atom.field-0 op.Coincide c.in_ok-atom-2.field-0) None es None None)) (sym entries) key_limited
