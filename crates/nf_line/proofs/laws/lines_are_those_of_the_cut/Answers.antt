use Rattle.nf_line.proofs.CutLineLemmas.{next_call, next_content, whole_run, lines_of_cut}
use Rattle.nf_line.proofs.laws.lines_are_those_of_the_cut.Goals as goal

pub returns-clause-step : goal.returns-clause-step
returns-clause-step c = next_call

pub returns-clause-whole : goal.returns-clause-whole
returns-clause-whole c = whole_run

pub returns-clause-last : goal.returns-clause-last
returns-clause-last c = lines_of_cut

pub returns-clause-content : goal.returns-clause-content
returns-clause-content c = next_content
