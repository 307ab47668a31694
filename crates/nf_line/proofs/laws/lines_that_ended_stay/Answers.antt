use Rattle.nf_line.proofs.EndedLineLemmas.{whole, broken_off}
use Rattle.nf_line.proofs.laws.lines_that_ended_stay.Goals as goal

pub returns-clause-whole : goal.returns-clause-whole
returns-clause-whole c = whole

pub returns-clause-broken_off : goal.returns-clause-broken_off
returns-clause-broken_off c = broken_off
