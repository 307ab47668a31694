use Rattle.nf_text.proofs.PlainTextLemmas.{plain_bytes, no_separators, plain_read, plain_found, plain_words_answer}
use Rattle.nf_text.proofs.laws.plain_texts.Goals as goal

pub returns-clause-bytes : goal.returns-clause-bytes
returns-clause-bytes c = λ text. (plain_bytes text, no_separators text)

pub returns-clause-plain : goal.returns-clause-plain
returns-clause-plain c = λ text. (plain_read text, plain_found text)

pub returns-clause-words : goal.returns-clause-words
returns-clause-words c = plain_words_answer
