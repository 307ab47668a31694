use Rattle.std.proofs.Common.{◌≡◌, ◌+◌, ◌≤◌, true, All, Some, None, option_to_list, sum_by}
use Rattle.nf_core.specs.Sets.{has}
use Rattle.nf_model.specs.Changes.{lacking}
use Rattle.nf_model.specs.Members.{HavePlaces, result_terms}
use Rattle.nf_pairs.specs.Partners.{is_related}
use Rattle.nf_pairs.specs.inner.Walks.{unskipped}
use Rattle.nf_exclude.specs.inner.Turns.{asked, blocked_at, blocked_one, Walked}
use Rattle.nf_exclude.proofs.pairs.turn_partners.Given as goal

-- the numbers so far, and what is left: members that are related, whose rows have what is read
abbrev pub invariant-loop-first : goal.invariant-loop-first
invariant-loop-first g l = record {
  walked :
      Walked l.rule (lacking l.firsts l.skipped) l.turn l.fn.blockers l.blockers l.fn.out l.out (λ q. blocked_one l.rule (lacking l.firsts l.skipped) q l.second)
      (λ q. sum_by (λ i. blocked_at l.rule l.skipped l.second i q) l.first-iterator);
  cost :
      l.steps + sum_by (unskipped l.skipped (λ i. asked l.rule i l.second)) l.first-iterator
      ≤ l.fn.steps + sum_by (unskipped l.skipped (λ i. asked l.rule i l.second)) l.firsts;
  related : All (λ i. is_related l.rule.link i l.second ≡ true) l.first-iterator;
  members : All (λ i. has l.firsts i ≡ true) l.first-iterator;
  pairs : All (λ i. HavePlaces (option_to_list l.rule.filter) i (Some l.second)) l.first-iterator;
  places : All (λ i. HavePlaces (result_terms l.rule) i None) l.first-iterator;
}
