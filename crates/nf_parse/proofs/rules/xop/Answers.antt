use Rattle.std.proofs.Common.{sym, ap, ◌∙◌}
use Rattle.nf_grammar.specs.inner.Parsers.{in_table}
use Rattle.nf_parse.specs.Grammar.{xop_of}
use Rattle.nf_parse.proofs.PartStepLemmas.{table_refused}
use Rattle.nf_parse.proofs.rules.xop.Goals as goal

pub returns-in_default-clause-reads : goal.returns-in_default-clause-reads
returns-in_default-clause-reads c = rw c.refuse.ensures (table_refused xop_of c.args.reader.now (ap (in_table xop_of) (sym c.next.ensures) ∙ sym c.xop_of.ensures ∙ c.in_default.is))
