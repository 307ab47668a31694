use Rattle.std.proofs.Common.{◌≡◌, true, false, None, IfOk, sym, subst, arith}
use Rattle.std.proofs.lemmas.Grind.{common_steps}
use Rattle.nf_model.specs.Results.{is_met}
use Rattle.nf_join.proofs.OneLemmas.{one_read, one_met, one_unmet}
use Rattle.nf_join.proofs.ones.make_one.Goals as goal

pub returns-then-not-is_met-clause-value : goal.returns-then-not-is_met-clause-value
returns-then-not-is_met-clause-value g c =
    let unmet : is_met c.args.rule.now c.args.one.now None ≡ false = grind (arith, common_steps) in
    sym (one_unmet c.args.rule.now c.args.one.now unmet)

pub build-requires-clause-places : goal.build-requires-clause-places
build-requires-clause-places g c = one_read c.args.rule.now c.args.one.now c.requires.places

pub returns-clause-value : goal.returns-clause-value
returns-clause-value g c =
    let met : is_met c.args.rule.now c.args.one.now None ≡ true = grind (arith, common_steps) in
    subst (λ made. IfOk c.build.result (λ r. r ≡ made)) (sym (one_met c.args.rule.now c.args.one.now c.requires.one met)) c.build.ensures.value
