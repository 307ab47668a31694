-- By the lemma of each form.
use Rattle.std.proofs.Common.{ap}
use Rattle.nf_csemantics.proofs.Public.ValueLemmas.{value_Lit, value_Name, value_Cell, value_Neg, value_Not, value_Bin}
use Rattle.nf_csemantics.proofs.laws.values_by_form.Goals as goal

pub returns-clause-literal : goal.returns-clause-literal
returns-clause-literal c n s = ap (λ f. f s) (value_Lit n)

pub returns-clause-name : goal.returns-clause-name
returns-clause-name c x s = ap (λ f. f s) (value_Name x)

pub returns-clause-cell : goal.returns-clause-cell
returns-clause-cell c x index s = ap (λ f. f s) (value_Cell x index)

pub returns-clause-minus : goal.returns-clause-minus
returns-clause-minus c a s = ap (λ f. f s) (value_Neg a)

pub returns-clause-not : goal.returns-clause-not
returns-clause-not c a s = ap (λ f. f s) (value_Not a)

pub returns-clause-binary : goal.returns-clause-binary
returns-clause-binary c o a b s = ap (λ f. f s) (value_Bin o a b)
