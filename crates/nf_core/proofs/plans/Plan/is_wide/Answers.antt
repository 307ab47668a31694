use Rattle.std.proofs.Common.{[], sym, ap, ◌∙◌}
use Rattle.nf_core.specs.Identifiers.{is_wide_name}
use Rattle.nf_core.proofs.NumberingLemmas.{get_or-slice_get}
use Rattle.nf_core.proofs.plans.Plan.is_wide.Goals as goal

pub returns : goal.returns
returns c = c.is_wide_name.ensures ∙ sym (ap is_wide_name (get_or-slice_get c.args.self.now.names c.args.name c.name.result.now [] c.name.ensures))
