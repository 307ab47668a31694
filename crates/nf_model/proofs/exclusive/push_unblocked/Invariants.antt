use Rattle.std.proofs.Common.{◌≡◌, ◌++◌, All, filter_map, Some, None, option_to_list}
use Rattle.nf_model.specs.Members.{HavePlaces, result_terms}
use Rattle.nf_model.specs.Results.{of_unblocked}
use Rattle.nf_model.proofs.exclusive.push_unblocked.Given as goal

-- the list so far, followed by the results of what is left, whose rows have what is read
abbrev pub invariant-loop-first : goal.invariant-loop-first
invariant-loop-first g l = record {
  list : l.out ++ filter_map (of_unblocked l.rule l.xop l.one_name l.others) l.first-iterator ≡ l.fn.out ++ filter_map (of_unblocked l.rule l.xop l.one_name l.others) l.firsts;
  pairs : All (λ i. All (λ j. HavePlaces (option_to_list l.rule.filter) i (Some j)) l.others) l.first-iterator;
  places : All (λ i. HavePlaces (result_terms l.rule) i None) l.first-iterator;
}
