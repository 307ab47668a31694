use Rattle.std.specs.Prelude.{codes, decimal}
use Rattle.nfer_cli.proofs.ReportLemmas.{same_text, numbered_text}
use Rattle.nfer_cli.proofs.messages.write_at_rule.Goals as goal

pub returns-clause-rule : goal.returns-clause-rule
returns-clause-rule g c =
    same_text _ _ _ _ (numbered_text (codes "nfer: rule ") (decimal c.args.rule) (codes ": ") c.args.what.now (codes "\n") _ c.format.ensures.text) c.write_texts.ensures.texts
