use Rattle.std.proofs.Common.{sym, ◌∙◌}
use Rattle.nf_lex.proofs.PlaceLemmas.{token_word}
use Rattle.nf_lex.proofs.WordFormLemmas.{word_some, faulty_word}
use Rattle.nf_lex.proofs.scanning.token_piece.Goals as goal

pub returns-in-Some-fault_of-clause-piece : goal.returns-in-Some-fault_of-clause-piece
returns-in-Some-fault_of-clause-piece c =
    let word = token_word c.args.bytes.now c.requires.no_line c.requires.no_block _ _ c.requires.no_blank c.in-Some.ensures in
    faulty_word _ _ _ _ _ word (sym c.fault_of.ensures ∙ c.in-Some-fault_of.is)

pub returns-in-None-clause-piece : goal.returns-in-None-clause-piece
returns-in-None-clause-piece c =
    (token_word c.args.bytes.now c.requires.no_line c.requires.no_block _ _ c.requires.no_blank c.in-Some.ensures, sym c.fault_of.ensures ∙ c.in-None.is)

pub returns-in-None-clause-some : goal.returns-in-None-clause-some
returns-in-None-clause-some c =
    word_some _ _ _ (token_word c.args.bytes.now c.requires.no_line c.requires.no_block _ _ c.requires.no_blank c.in-Some.ensures)
