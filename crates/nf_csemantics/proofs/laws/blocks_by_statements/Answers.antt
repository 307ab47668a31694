-- By the lemma of blocks.
use Rattle.std.proofs.Common.{ap}
use Rattle.nf_csemantics.proofs.Public.RunLemmas.{run_of_stmts}
use Rattle.nf_csemantics.proofs.laws.blocks_by_statements.Goals as goal

pub returns : goal.returns
returns c calls stmts s = ap (λ f. f s) (run_of_stmts calls stmts)
