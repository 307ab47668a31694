use Rattle.nf_lex.proofs.LongestTokenLemmas.{text_after}
use Rattle.nf_lex.proofs.words.text_at.Goals as goal

pub returns-then-body-rest : goal.returns-then-body-rest
returns-then-body-rest c = text_after _ _ _ _ c.in_ok-rest.ensures.cases.0 c.requires c.text_len-body.ensures.len c.if-body-rest.true
