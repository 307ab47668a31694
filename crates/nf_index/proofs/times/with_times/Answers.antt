use Rattle.std.proofs.Common.{◌∙◌, Some}
use Rattle.nf_index.specs.inner.Orders.{is_between, has_times}
use Rattle.nf_index.proofs.PlaceLemmas.{filter_members, between_times}
use Rattle.nf_index.proofs.times.with_times.Goals as goal

pub returns : goal.returns
returns c =
    c.between.ensures
    ∙ filter_members (is_between (Some c.args.times.now) c.after_times.result) (has_times c.args.times.now) c.args.begins.now
    (λ i there. between_times c.args.times.now c.after_times.result i (c.after_times.ensures.is i (c.requires.stored i there)))
