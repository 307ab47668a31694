use Rattle.std.proofs.Common.{◌≡◌, filter, flat_map}
use Rattle.std.specs.List.{range_with_len}
use Rattle.nf_core.specs.Plan.{is_head}
use Rattle.nf_model.specs.Changes.{named, lacking}
use Rattle.nf_model.specs.Pools.{of_name}
use Rattle.nf_model.proofs.changes.beyond.Given as goal

-- what the heads so far have and lack
abbrev pub invariant-loop-name : goal.invariant-loop-name
invariant-loop-name l =
    l.out ≡ flat_map (λ n. named n (lacking (of_name l.pools n) (of_name l.others n))) (filter (is_head l.plan) (range_with_len 0 l.name))
