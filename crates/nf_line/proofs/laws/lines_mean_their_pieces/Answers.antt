use Rattle.nf_line.proofs.CutLineLemmas.{meaning_within, meaning_beyond, meanings_so_far, meanings_broken_off}
use Rattle.nf_line.proofs.laws.lines_mean_their_pieces.Goals as goal

pub returns-clause-within : goal.returns-clause-within
returns-clause-within c = meaning_within

pub returns-clause-long : goal.returns-clause-long
returns-clause-long c = meaning_beyond

pub returns-clause-all : goal.returns-clause-all
returns-clause-all c = meanings_so_far

pub returns-clause-broken_off : goal.returns-clause-broken_off
returns-clause-broken_off c = meanings_broken_off
