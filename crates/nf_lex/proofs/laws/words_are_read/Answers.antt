use Rattle.nf_lex.proofs.PrintedWordLemmas.{name_read, number_read, text_read, long_read, short_read, blank_read}
use Rattle.nf_lex.proofs.laws.words_are_read.Goals as goal

pub returns-clause-name : goal.returns-clause-name
returns-clause-name c = name_read

pub returns-clause-number : goal.returns-clause-number
returns-clause-number c = number_read

pub returns-clause-text : goal.returns-clause-text
returns-clause-text c = text_read

pub returns-clause-long_mark : goal.returns-clause-long_mark
returns-clause-long_mark c = long_read

pub returns-clause-short_mark : goal.returns-clause-short_mark
returns-clause-short_mark c = short_read

pub returns-clause-blank : goal.returns-clause-blank
returns-clause-blank c = blank_read
