use Rattle.std.proofs.Common.{◌+◌, [], rules}
use Rattle.std.proofs.lemmas.List.{get_or_read}
use Rattle.std.specs.List.{range_with_len}
use Rattle.nf_core.specs.Plan.{is_head}
use Rattle.nf_model.specs.Changes.{named, lacking}
use Rattle.nf_model.specs.Pools.{of_name}
use Rattle.nf_model.proofs.ListLemmas.{numbers_more, filtered_more}
use Rattle.nf_model.proofs.changes.beyond.Goals as goal

pub loop-name-preserved : goal.loop-name-preserved
loop-name-preserved c =
    let name = c.loop-name.name in
    let member = get_or_read c.args.pools.now _ _ (search rules) c.index-pools-place.is [] in
    let other = get_or_read c.args.others.now _ _ (search rules) c.index-others-place.is [] in
    filtered_more (λ n. named n (lacking (of_name c.args.pools.now n) (of_name c.args.others.now n))) (is_head c.args.plan.now) []
    c.loop-name.out c.push_head_lacking.new.out (range_with_len 0 name) (range_with_len 0 (name + 1)) name
    (numbers_more name) c.loop-name.invariant (rw (← member, ← other) c.in_ok-push_head_lacking.ensures)
