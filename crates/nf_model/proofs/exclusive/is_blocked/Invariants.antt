use Rattle.std.proofs.Common.{◌≡◌, All, Some, option_to_list}
use Rattle.std.specs.List.{list_any}
use Rattle.nf_model.specs.Members.{HavePlaces}
use Rattle.nf_model.specs.Results.{is_blocker}
use Rattle.nf_model.proofs.exclusive.is_blocked.Given as goal

-- what is left decides, and its rows have what is read
abbrev pub invariant-loop-second : goal.invariant-loop-second
invariant-loop-second g l = record {
  rest : list_any (is_blocker l.rule l.xop l.one_name l.first) l.second-iterator ≡ list_any (is_blocker l.rule l.xop l.one_name l.first) l.others;
  places : All (λ j. HavePlaces (option_to_list l.rule.filter) l.first (Some j)) l.second-iterator;
}
