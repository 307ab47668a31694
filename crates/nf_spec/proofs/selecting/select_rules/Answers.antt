use Rattle.std.specs.Option.{option_copied}
use Rattle.nf_core.specs.Trees.{IsWritten}
use Rattle.nf_spec.proofs.SelectedRuleLemmas.{selected_here, selected_all}
use Rattle.nf_spec.proofs.selecting.select_rules.Goals as goal

pub returns-clause-written : goal.returns-clause-written
returns-clause-written c =
    let root = option_copied c.args.root in
    let rules = c.in_ok-select.field-0 in
    selected_all IsWritten c.args.modules.now root rules (selected_here c.args.modules.now root rules c.select.result c.in_ok-select.was c.select.ensures.selects) c.requires.written
