use Rattle.nf_text.proofs.SpellingLemmas.{printed_spelling, spelled_whole, whole_canonical}
use Rattle.nf_text.proofs.laws.printed_numbers_are_read.Goals as goal

pub returns-clause-read : goal.returns-clause-read
returns-clause-read c = printed_spelling

pub returns-clause-canonical : goal.returns-clause-canonical
returns-clause-canonical c = λ text n e. (whole_canonical text n (spelled_whole text n e)).0

pub returns-clause-within : goal.returns-clause-within
returns-clause-within c = λ text n e. (whole_canonical text n (spelled_whole text n e)).1
