use Rattle.std.proofs.Common.{Err, inr, sym, subst}
use Rattle.std.specs.Option.{option_copied}
use Rattle.nf_modules.specs.Selection.{Selects}
use Rattle.nf_modules.specs.inner.Places.{number_in}
use Rattle.nf_modules.specs.declared.fault.ModuleFault.TheVariants as fault
use Rattle.nf_modules.proofs.AnswerLemmas.{as_reached, reached_long, handed_on, missing_root, missing_import, no_fault}
use Rattle.nf_modules.proofs.selection.selected.Goals as goal

pub returns-in_err-places : goal.returns-in_err-places
returns-in_err-places c = handed_on c.args.modules.now (option_copied c.args.root) c.from_residual.result c.in_err-places.field-0.0 c.from_residual.ensures.1 c.in_err-places.ensures.err

pub returns-in-Some : goal.returns-in-Some
returns-in-Some c =
    inr (subst (λ name. Selects c.args.modules.now (option_copied c.args.root) (Err (fault.NoModule name))) (sym c.in_ok-new.ensures)
    (missing_root c.args.modules.now (option_copied c.args.root) (number_in c.in_ok-places.places) c.in_ok-places.ensures.ok c.in-Some.name.now c.in-Some.ensures))

pub missing_import-requires : goal.missing_import-requires
missing_import-requires c = reached_long c.args.modules.now (option_copied c.args.root) c.as_slice-reached.result.now c.in_ok-marks.marks.items c.as_slice-reached.ensures.value c.in_ok-marks.ensures

pub returns-in-Some-missing_import : goal.returns-in-Some-missing_import
returns-in-Some-missing_import c =
    let walks = as_reached c.args.modules.now (option_copied c.args.root) c.as_slice-reached.result.now c.in_ok-marks.marks.items c.as_slice-reached.ensures.value c.in_ok-marks.ensures in
    inr (subst (λ name. Selects c.args.modules.now (option_copied c.args.root) (Err (fault.NoModule name))) (sym c.in_ok-copy.ensures)
    (missing_import c.args.modules.now (option_copied c.args.root) (number_in c.in_ok-places.places) c.in_ok-places.ensures.ok c.as_slice-reached.result.now walks c.in_default.ensures c.in-Some-missing_import.name.now c.in-Some-missing_import.ensures))

pub rules_of-requires : goal.rules_of-requires
rules_of-requires c = reached_long c.args.modules.now (option_copied c.args.root) c.as_slice-reached.result.now c.in_ok-marks.marks.items c.as_slice-reached.ensures.value c.in_ok-marks.ensures

pub returns : goal.returns
returns c =
    let walks = as_reached c.args.modules.now (option_copied c.args.root) c.as_slice-reached.result.now c.in_ok-marks.marks.items c.as_slice-reached.ensures.value c.in_ok-marks.ensures in
    inr (no_fault c.args.modules.now (option_copied c.args.root) (number_in c.in_ok-places.places) c.in_ok-places.ensures.ok c.as_slice-reached.result.now walks c.in_default.ensures c.in_ok-rules_of.field-0 c.in_default-missing_import.ensures c.in_ok-rules_of.ensures)
