use Rattle.nf_line.proofs.TraceLemmas.{refused_stays, events_stay, events_at_limit, unrefused_before, never_too_long}
use Rattle.nf_line.proofs.laws.what_is_known_of_a_trace_stays.Goals as goal

pub returns-clause-refused : goal.returns-clause-refused
returns-clause-refused c = refused_stays

pub returns-clause-goes_on : goal.returns-clause-goes_on
returns-clause-goes_on c = events_stay

pub returns-clause-at_limit : goal.returns-clause-at_limit
returns-clause-at_limit c = events_at_limit

pub returns-clause-shorter : goal.returns-clause-shorter
returns-clause-shorter c = unrefused_before

pub returns-clause-never_too_long : goal.returns-clause-never_too_long
returns-clause-never_too_long c = never_too_long
