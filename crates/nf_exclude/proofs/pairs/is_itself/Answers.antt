use Rattle.std.proofs.Common.{arith, sym}
use Rattle.std.proofs.lemmas.Grind.{common_steps}
use Rattle.nf_exclude.proofs.RuleLemmas.{itself_is, never_itself}
use Rattle.nf_exclude.proofs.pairs.is_itself.Goals as goal

pub returns-then-rule-name : goal.returns-then-rule-name
returns-then-rule-name c =
    let e = itself_is c.args.rule.now c.in-Unless.field-0 c.in-Unless.name c.args.first.now c.args.second.now c.in-Unless.is in
    grind (arith, common_steps)

pub returns-else-rule-name : goal.returns-else-rule-name
returns-else-rule-name c =
    let e = itself_is c.args.rule.now c.in-Unless.field-0 c.in-Unless.name c.args.first.now c.args.second.now c.in-Unless.is in
    grind (arith, common_steps)

pub returns-in_default : goal.returns-in_default
returns-in_default c = sym (never_itself c.args.rule.now c.args.first.now c.args.second.now c.in_default.not-Unless)
