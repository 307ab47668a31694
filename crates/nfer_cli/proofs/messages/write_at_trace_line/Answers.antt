use Rattle.std.specs.Prelude.{codes, decimal}
use Rattle.nfer_cli.proofs.ReportLemmas.{same_text, numbered_text}
use Rattle.nfer_cli.proofs.messages.write_at_trace_line.Goals as goal

pub returns-clause-line : goal.returns-clause-line
returns-clause-line g c =
    same_text _ _ _ _ (numbered_text (codes "nfer: line ") (decimal c.args.line) (codes ": ") c.args.what.now (codes "\n") _ c.format.ensures.text) c.write_texts.ensures.texts
