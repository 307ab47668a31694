use Rattle.std.proofs.Common.{true, codes}
use Rattle.std.proofs.lemmas.Slice.Eq.{bytes_eq-Decides}
use Rattle.nf_text.proofs.SpellingLemmas.{truth_apart, spelled_truth, spelled_false, spelled_words, plain_words}
use Rattle.nf_text.proofs.laws.spellings_are_apart.Goals as goal

pub returns-clause-apart : goal.returns-clause-apart
returns-clause-apart c = truth_apart

pub returns-clause-truth : goal.returns-clause-truth
returns-clause-truth c = λ text e. (bytes_eq-Decides text (codes "true")).0 (spelled_truth text true e).1

pub returns-clause-falsehood : goal.returns-clause-falsehood
returns-clause-falsehood c = spelled_false

pub returns-clause-words : goal.returns-clause-words
returns-clause-words c = spelled_words

pub returns-clause-plain : goal.returns-clause-plain
returns-clause-plain c = plain_words
