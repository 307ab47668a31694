-- By the lemma of each form.
use Rattle.std.proofs.Common.{None, Some, ap}
use Rattle.nf_csemantics.proofs.Public.RunLemmas.{run_Local, run_Assign, run_Store, run_Call, run_If, run_IfElse, run_For, run_Return}
use Rattle.nf_csemantics.proofs.laws.statements_by_form.Goals as goal

pub returns-clause-local : goal.returns-clause-local
returns-clause-local c calls constant x r s = ap (λ f. f s) (run_Local calls constant x r)

pub returns-clause-assign : goal.returns-clause-assign
returns-clause-assign c calls x r s = ap (λ f. f s) (run_Assign calls x r)

pub returns-clause-store : goal.returns-clause-store
returns-clause-store c calls x index a s = ap (λ f. f s) (run_Store calls x index a)

pub returns-clause-call : goal.returns-clause-call
returns-clause-call c calls f arguments s = ap (λ g. g s) (run_Call calls f arguments)

pub returns-clause-if_alone : goal.returns-clause-if_alone
returns-clause-if_alone c calls e a s = ap (λ f. f s) (run_If calls e a)

pub returns-clause-if_else : goal.returns-clause-if_else
returns-clause-if_else c calls e a b s = ap (λ f. f s) (run_IfElse calls e a b)

pub returns-clause-repeats : goal.returns-clause-repeats
returns-clause-repeats c calls x to body s = ap (λ f. f s) (run_For calls x to body)

pub returns-clause-return_void : goal.returns-clause-return_void
returns-clause-return_void c calls s = ap (λ f. f s) (run_Return calls None)

pub returns-clause-return_value : goal.returns-clause-return_value
returns-clause-return_value c calls a s = ap (λ f. f s) (run_Return calls (Some a))
