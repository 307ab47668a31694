use Rattle.std.proofs.Common.{◌≡◌, ◌++◌, All, filter_map, flat_map, Some}
use Rattle.nf_model.specs.Members.{HavePlaces, clause_terms}
use Rattle.nf_model.specs.Results.{of_pair}
use Rattle.nf_model.proofs.results.push_pairs.Given as goal

-- the list so far, followed by the results of what is left, whose rows have what is read
abbrev pub invariant-loop-first : goal.invariant-loop-first
invariant-loop-first g l = record {
  list : l.out ++ flat_map (λ i. filter_map (of_pair l.rule l.op i) l.seconds) l.first-iterator ≡ l.fn.out ++ flat_map (λ i. filter_map (of_pair l.rule l.op i) l.seconds) l.firsts;
  places : All (λ i. All (λ j. HavePlaces (clause_terms l.rule) i (Some j)) l.seconds) l.first-iterator;
}
