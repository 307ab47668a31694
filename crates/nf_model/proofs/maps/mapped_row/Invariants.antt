use Rattle.std.proofs.Common.{◌≡◌, ◌+◌, map}
use Rattle.std.specs.List.{range_with_len}
use Rattle.std.specs.Option.{option_copied}
use Rattle.nf_model.specs.Results.{cell_of}
use Rattle.nf_model.proofs.EntryLemmas.{mapped}
use Rattle.nf_model.proofs.maps.mapped_row.Given as goal

-- the cells so far, and the entries that were evaluated for them
abbrev pub invariant-loop-place : goal.invariant-loop-place
invariant-loop-place g l = record {
  cells : l.row ≡ map (λ place. cell_of l.entries place l.first (option_copied l.second)) (range_with_len 0 l.place);
  counted : l.steps ≡ l.fn.steps + mapped l.entries l.place;
}
