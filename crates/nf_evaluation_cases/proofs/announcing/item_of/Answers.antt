use Rattle.std.proofs.Common.{◌≡◌, length, sym, ◌∙◌, rules}
use Rattle.nf_core.specs.Plan.{keys_of}
use Rattle.nf_evaluation_cases.proofs.PrintedLemmas.{printable}
use Rattle.nf_evaluation_cases.proofs.announcing.item_of.Goals as goal

pub returns : goal.returns
returns c =
    let plan = c.args.plan.now in
    let number = c.in_ok-number.number in
    let wide : length c.start.inside.row ≡ length (keys_of plan number) = search rules in
    printable plan number c.name.result.now _ c.names.ensures.valid (sym c.is_wide.ensures ∙ c.if-is_wide.false) c.name.ensures c.in_ok-new.ensures c.in_ok-keys_listed.ensures wide
