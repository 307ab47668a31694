use Rattle.std.proofs.Common.{◌≡◌, ◌∷◌, sym, ap, subst, ◌∙◌}
use Rattle.std.specs.List.{list_any}
use Rattle.nf_core.specs.Sets.{IsSet}
use Rattle.nf_index.proofs.ForgetLemmas.{is_before, first_tells}
use Rattle.nf_index.proofs.forgetting.is_any_before.Goals as goal

pub returns-in-Some-clause-any : goal.returns-in-Some-clause-any
returns-in-Some-clause-any c =
    let whole : c.args.begins.now ≡ c.in-Some.first.now ∷ c.next.new.self = sym c.walk.ensures.items ∙ c.in-Some.ensures.steps in
    c.begins_before.ensures ∙ sym (first_tells c.args.time.now c.in-Some.first.now c.next.new.self (subst IsSet whole c.walk.ensures.sorted)) ∙ ap (list_any (is_before c.args.time.now)) (sym whole)
