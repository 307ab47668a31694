use Rattle.nf_line.proofs.StandingLemmas.{whole, broken_off, too_long, cut_standing, handed_out, rest_within}
use Rattle.nf_line.proofs.laws.traces_go_on_from_where_they_stand.Goals as goal

pub returns-clause-whole : goal.returns-clause-whole
returns-clause-whole c = whole

pub returns-clause-so_far : goal.returns-clause-so_far
returns-clause-so_far c = broken_off

pub returns-clause-too_long : goal.returns-clause-too_long
returns-clause-too_long c = too_long

pub returns-clause-cut : goal.returns-clause-cut
returns-clause-cut c = cut_standing

pub returns-clause-lines : goal.returns-clause-lines
returns-clause-lines c = handed_out

pub returns-clause-within : goal.returns-clause-within
returns-clause-within c = rest_within
