use Rattle.std.proofs.Common.{◌≡◌, None, Option, refl, rules, subst, sym}
use Rattle.std.specs.Prelude.{IfSome, option_map}
use Rattle.nfer_cli.specs.Evaluating.{EvaluatesWithin}
use Rattle.nfer_cli.specs.Words.{Asked}
use Rattle.nfer_cli.specs.inner.Commands.{asked_by}
use Rattle.nfer_cli.proofs.CallLemmas.{carried_usage}
use Rattle.nfer_cli.proofs.RunningLemmas.{always}
use Rattle.nfer_cli.proofs.top_call.answer.Goals as goal

pub returns-in_default-clause-carries_out : goal.returns-in_default-clause-carries_out
returns-in_default-clause-carries_out g c =
    let none : option_map asked_by c.args.command ≡ None = search rules in
    carried_usage (option_map asked_by c.args.command) (g.F.Shelf.tells c.args.shelf.now) (g.O.Sink.tells c.args.out.now) none

pub returns-in_default-clause-evaluates : goal.returns-in_default-clause-evaluates
returns-in_default-clause-evaluates g c =
    let none : option_map asked_by c.args.command ≡ None = search rules in
    subst (λ (q : Option Asked). IfSome (g.F.Shelf.tells c.args.shelf.now).files (λ files. EvaluatesWithin q files c.args.steps.now c.args.steps.now)) (sym none)
    (always (g.F.Shelf.tells c.args.shelf.now).files _ (λ files. refl))
