use Rattle.std.proofs.Common.{rules, append_assoc}
use Rattle.nf_cast.proofs.Public.TextLemmas.{block_lines}
use Rattle.nf_cast.proofs.statement_text.+statement.Goals as goal

pub push_block-returns : goal.push_block-returns
push_block-returns t c = search (rules, append_assoc, block_lines)
