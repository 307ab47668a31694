use Rattle.nf_print.proofs.LineLemmas.{line_spells}
use Rattle.nf_print.proofs.laws.canonical_lines_are_read.Goals as goal

pub returns : goal.returns
returns c =
    let reads = c.words_are_read.ensures in
    line_spells (record { name = reads.name; number = reads.number; text = reads.text; long_mark = reads.long_mark; short_mark = reads.short_mark; blank = reads.blank })
    c.plain_texts.ensures.plain c.trees_are_expressions.ensures.expression
