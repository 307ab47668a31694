use Rattle.std.proofs.Common.{rules}
use Rattle.nfer_cli.proofs.AskedLemmas.{asked_nothing}
use Rattle.nfer_cli.proofs.command.Command.parse.Goals as goal

pub returns-in_default : goal.returns-in_default
returns-in_default c = asked_nothing c.args.words.now c.in_ok-name.words.now c.as_str.result.now (search rules) c.in_default.not-check c.in_default.not-follow c.in_default.not-infer c.in_default.not-drill
