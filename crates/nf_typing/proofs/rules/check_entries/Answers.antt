use Rattle.std.proofs.Common.{Err, sym, ap, ◌∙◌}
use Rattle.std.proofs.lemmas.Result.{err_from_is_err_and}
use Rattle.std.specs.Result.{result_err}
use Rattle.nf_typing.proofs.RulePartLemmas.{goes_on, fails, ends}
use Rattle.nf_typing.proofs.rules.check_entries.Goals as goal

pub returns-in_err-check_entry : goal.returns-in_err-check_entry
returns-in_err-check_entry c =
    let p = err_from_is_err_and c.from_residual.result c.from_residual.ensures.1 in
    ap result_err (p.1 ∙ ap Err p.2)
    ∙ fails c.args.rule.now.body c.args.entries.now _ c.entries.place c.index-entries-place.result c.in_err-check_entry.field-0.0 c.entries-test.true c.index-entries-place.is c.entries.invariant (ap result_err (sym c.in_err-check_entry.was) ∙ c.check_entry.ensures)

pub entries-preserved : goal.entries-preserved
entries-preserved c = goes_on c.args.rule.now.body c.args.entries.now _ c.entries.place c.index-entries-place.result c.entries-test.true c.index-entries-place.is c.entries.invariant (ap result_err (sym c.in_ok-check_entry.was) ∙ c.check_entry.ensures)

pub returns : goal.returns
returns c = ends c.args.rule.now.body c.args.entries.now _ c.entries.place c.entries-test.false c.entries.invariant
