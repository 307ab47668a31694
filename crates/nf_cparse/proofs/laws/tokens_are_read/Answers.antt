use Rattle.nf_cparse.proofs.ReadPieceLemmas.{word_read, literal_read, mark_read}
use Rattle.nf_cparse.proofs.laws.tokens_are_read.Goals as goal

pub returns-clause-word : goal.returns-clause-word
returns-clause-word c = word_read

pub returns-clause-literal : goal.returns-clause-literal
returns-clause-literal c = λ first second digits third rest a b d e s. literal_read first second digits third rest a b d e s

pub returns-clause-mark : goal.returns-clause-mark
returns-clause-mark c = mark_read
