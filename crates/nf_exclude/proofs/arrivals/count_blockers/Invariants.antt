use Rattle.std.proofs.Common.{◌≡◌, ◌+◌, ◌≤◌, true, All, Some, option_to_list, sum_by}
use Rattle.nf_model.specs.Members.{HavePlaces}
use Rattle.nf_pairs.specs.Partners.{is_related}
use Rattle.nf_exclude.specs.Exclusions.{blockers_among}
use Rattle.nf_exclude.specs.inner.Turns.{asked}
use Rattle.nf_exclude.proofs.arrivals.count_blockers.Given as goal

-- the count so far, and the blockers among what is left
abbrev pub invariant-loop-second : goal.invariant-loop-second
invariant-loop-second g l = record {
  count : l.count + blockers_among l.rule l.second-iterator l.first ≡ blockers_among l.rule l.seconds l.first;
  cost : l.steps + sum_by (asked l.rule l.first) l.second-iterator ≤ l.fn.steps + sum_by (asked l.rule l.first) l.seconds;
  related : All (λ j. is_related l.rule.link l.first j ≡ true) l.second-iterator;
  pairs : All (λ j. HavePlaces (option_to_list l.rule.filter) l.first (Some j)) l.second-iterator;
}
