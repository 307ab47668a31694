use Rattle.nf_lex.proofs.SpellingLemmas.{ident_is_identifier, identifier_is_ident, text_is_written, quoted_is_word, quoted_is_sound}
use Rattle.nf_lex.proofs.Public.QuotedTextLemmas.{body_of_quoted}
use Rattle.nf_lex.proofs.laws.tokens_are_written.Goals as goal

pub returns-clause-identifier : goal.returns-clause-identifier
returns-clause-identifier c = λ word. (ident_is_identifier word, identifier_is_ident word)

pub returns-clause-text : goal.returns-clause-text
returns-clause-text c = text_is_written c.plain_texts.ensures.plain

pub returns-clause-quoted : goal.returns-clause-quoted
returns-clause-quoted c = quoted_is_word

pub returns-clause-sound : goal.returns-clause-sound
returns-clause-sound c = quoted_is_sound c.plain_texts.ensures.plain

pub returns-clause-body : goal.returns-clause-body
returns-clause-body c = body_of_quoted
