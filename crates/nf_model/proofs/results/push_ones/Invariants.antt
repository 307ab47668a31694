use Rattle.std.proofs.Common.{◌≡◌, ◌++◌, All, filter_map, None}
use Rattle.nf_model.specs.Members.{HavePlaces, clause_terms}
use Rattle.nf_model.specs.Results.{of_one}
use Rattle.nf_model.proofs.results.push_ones.Given as goal

-- the list so far, followed by the results of what is left, whose rows have what is read
abbrev pub invariant-loop-first : goal.invariant-loop-first
invariant-loop-first g l = record {
  list : l.out ++ filter_map (of_one l.rule) l.first-iterator ≡ l.fn.out ++ filter_map (of_one l.rule) l.firsts;
  places : All (λ i. HavePlaces (clause_terms l.rule) i None) l.first-iterator;
}
