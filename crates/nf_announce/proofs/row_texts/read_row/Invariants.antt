use Rattle.nf_announce.proofs.RowTextLemmas.{AreRead}
use Rattle.nf_announce.proofs.row_texts.read_row.Given as goal

abbrev pub invariant-loop-place : goal.invariant-loop-place
invariant-loop-place g l = AreRead (g.K.Keys.keys l.keys) l.fn.pairs l.place l.row l.pairs
