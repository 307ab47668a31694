use Rattle.nf_typing.proofs.RightKindLemmas.{right}
use Rattle.nf_typing.proofs.rules.check_rule.Goals as goal

pub returns-clause-right : goal.returns-clause-right
returns-clause-right c = right c.check_parts.result c.args.rule.now c.check_parts.ensures
