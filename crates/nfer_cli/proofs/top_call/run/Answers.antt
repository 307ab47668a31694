use Rattle.std.proofs.Common.{Option, subst}
use Rattle.std.specs.Prelude.{IfSome, option_map}
use Rattle.nfer_cli.specs.Calls.{CarriesOut}
use Rattle.nfer_cli.specs.Evaluating.{EvaluatesWithin}
use Rattle.nfer_cli.specs.Messages.{Reports, message}
use Rattle.nfer_cli.specs.Words.{Asked, file_words}
use Rattle.nfer_cli.specs.inner.Commands.{asked_by}
use Rattle.nfer_cli.proofs.AskedLemmas.{one_for, names_files, nothing_for}
use Rattle.nfer_cli.proofs.top_call.run.Goals as goal

pub answer-status-requires : goal.answer-status-requires
answer-status-requires g c = names_files c.args.words.now (option_map asked_by c.command-command.result) c.command-command.ensures

pub returns-clause-usage : goal.returns-clause-usage
returns-clause-usage g c =
    let nothing = nothing_for c.args.words.now (option_map asked_by c.command-command.result) c.command-command.ensures in
    (λ is. nothing.0 (c.answer-status.ensures.carries_out.usage.0 is), λ asks. c.answer-status.ensures.carries_out.usage.1 (nothing.1 asks))

pub returns-clause-carries_out : goal.returns-clause-carries_out
returns-clause-carries_out g c = λ question asks.
    subst (λ (q : Option Asked). CarriesOut q c.answer-status.result (g.F.Shelf.tells c.args.shelf.now) (g.F.Shelf.tells c.answer-status.new.shelf) (g.O.Sink.tells c.args.out.now) (g.O.Sink.tells c.answer-status.new.out))
    (one_for c.args.words.now (option_map asked_by c.command-command.result) question c.command-command.ensures asks) c.answer-status.ensures.carries_out

pub returns-clause-evaluates : goal.returns-clause-evaluates
returns-clause-evaluates g c = λ question asks.
    subst (λ (q : Option Asked). IfSome (g.F.Shelf.tells c.args.shelf.now).files (λ files. EvaluatesWithin q files c.args.steps.now c.answer-status.new.steps))
    (one_for c.args.words.now (option_map asked_by c.command-command.result) question c.command-command.ensures asks) c.answer-status.ensures.evaluates

pub returns-clause-message : goal.returns-clause-message
returns-clause-message g c = λ question asks.
    subst (λ (q : Option Asked). Reports (g.E.Sink.tells c.args.err.now) (g.E.Sink.tells c.report.new.err) (message (file_words q) c.answer-status.result))
    (one_for c.args.words.now (option_map asked_by c.command-command.result) question c.command-command.ensures asks) c.report.ensures.message
