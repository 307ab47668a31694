use Rattle.std.proofs.Common.{rules, ◌≡◌, ℕ, List, Err, ap, sym, subst}
use Rattle.std.proofs.lemmas.Result.{err_from_is_err_and}
use Rattle.std.specs.Option.{option_copied}
use Rattle.nf_order.specs.Dependence.{IsFirstCycle}
use Rattle.nf_order.specs.declared.fault.OrderFault.TheVariants as order
use Rattle.nf_spec.specs.Specification.{SpecifiesFrom, OrNoMemory}
use Rattle.nf_spec.proofs.SpecifiedLemmas.{wrong_kinds, no_levels}
use Rattle.nf_spec.proofs.PlannedRuleLemmas.{has_identifiers}
use Rattle.nf_spec.proofs.compiling.compile_modules.Goals as goal

pub returns-in_err-check_kinds-clause-specifies : goal.returns-in_err-check_kinds-clause-specifies
returns-in_err-check_kinds-clause-specifies c =
    let root = option_copied c.args.root in
    let handed : c.from_residual-in_err-check_kinds.result ≡ Err c.in_err-check_kinds.field-0.0 = search rules in
    subst (OrNoMemory (SpecifiesFrom c.args.modules.now root)) (sym handed)
    (wrong_kinds c.args.modules.now root c.in_ok-rules.rules c.in_err-check_kinds.field-0.0 c.in_ok-rules.ensures.selects c.in_err-check_kinds.ensures.err)

pub returns-in_err-levels-clause-specifies : goal.returns-in_err-levels-clause-specifies
returns-in_err-levels-clause-specifies c =
    let root = option_copied c.args.root in
    let why = c.in_err-levels.field-0.0 in
    let handed = err_from_is_err_and c.from_residual-in_err-levels.result c.from_residual-in_err-levels.ensures.1 in
    let first : (name : List ℕ) → why ≡ order.Cycle name → IsFirstCycle c.in_ok-rules.rules name = λ name is. c.in_err-levels.ensures.cycle name (ap Err is) in
    subst (OrNoMemory (SpecifiesFrom c.args.modules.now root)) (sym handed.1)
    (no_levels c.args.modules.now root c.in_ok-rules.rules why handed.0 c.in_ok-rules.ensures.selects c.in_ok-check_kinds.ensures.ok handed.2 first)

pub returns-clause-identifiers : goal.returns-clause-identifiers
returns-clause-identifiers c = has_identifiers c.in_ok-rules.rules c.in_ok-levels.levels c.in_ok-plan.plan c.in_ok-rules.ensures.written c.in_ok-plan.ensures
