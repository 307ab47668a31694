use Rattle.std.proofs.Common.{◌≡◌, ◌++◌, All, filter_map, Some}
use Rattle.nf_model.specs.Members.{HavePlaces, clause_terms}
use Rattle.nf_model.specs.Results.{of_pair}
use Rattle.nf_model.proofs.results.push_pairs_of.Given as goal

-- the list so far, followed by the results of what is left, whose rows have what is read
abbrev pub invariant-loop-second : goal.invariant-loop-second
invariant-loop-second g l = record {
  list : l.out ++ filter_map (of_pair l.rule l.op l.first) l.second-iterator ≡ l.fn.out ++ filter_map (of_pair l.rule l.op l.first) l.seconds;
  places : All (λ j. HavePlaces (clause_terms l.rule) l.first (Some j)) l.second-iterator;
}
