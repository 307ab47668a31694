use Rattle.nf_line.proofs.CutLineLemmas.{long_piece, long_piece_broken_off, long_meaning}
use Rattle.nf_line.proofs.laws.long_lines_are_long_pieces.Goals as goal

pub returns-clause-whole : goal.returns-clause-whole
returns-clause-whole c = long_piece

pub returns-clause-broken_off : goal.returns-clause-broken_off
returns-clause-broken_off c = long_piece_broken_off

pub returns-clause-meaning : goal.returns-clause-meaning
returns-clause-meaning c = long_meaning
