use Rattle.std.proofs.Common.{◌≡◌, true, false, Some, IfOk, sym, subst, arith}
use Rattle.std.proofs.lemmas.Grind.{common_steps}
use Rattle.nf_model.specs.Results.{is_met}
use Rattle.nf_join.proofs.MadeLemmas.{joined_read, made_met, made_unmet}
use Rattle.nf_join.proofs.made.make.Goals as goal

pub returns-then-not-is_met-clause-value : goal.returns-then-not-is_met-clause-value
returns-then-not-is_met-clause-value g c =
    let unmet : is_met c.args.rule.now c.args.first.now (Some c.args.second.now) ≡ false = grind (arith, common_steps) in
    sym (made_unmet c.args.rule.now c.args.first.now c.args.second.now unmet)

pub build-requires-clause-places : goal.build-requires-clause-places
build-requires-clause-places g c = joined_read c.args.rule.now c.args.first.now c.args.second.now c.requires.rule.inclusive c.requires.related c.requires.places

pub returns-clause-value : goal.returns-clause-value
returns-clause-value g c =
    let met : is_met c.args.rule.now c.args.first.now (Some c.args.second.now) ≡ true = grind (arith, common_steps) in
    subst (λ made. IfOk c.build.result (λ r. r ≡ made)) (sym (made_met c.args.rule.now c.args.first.now c.args.second.now c.requires.related met)) c.build.ensures.value
