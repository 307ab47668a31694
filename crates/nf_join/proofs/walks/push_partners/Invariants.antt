use Rattle.std.proofs.Common.{◌≡◌, ◌+◌, ◌≤◌, true, All}
use Rattle.nf_core.specs.Intervals.{Interval}
use Rattle.nf_pairs.specs.Partners.{is_related, paired}
use Rattle.nf_join.specs.inner.Made.{HavePairPlaces, makes, costs, stored_sum}
use Rattle.nf_tally.specs.Numbers.{often}
use Rattle.nf_join.proofs.walks.push_partners.Given as goal

-- what is there, with what the partners that are left make, and each of these is related and has what is read
abbrev pub invariant-loop-stored : goal.invariant-loop-stored
invariant-loop-stored g l = record {
  often : (q : Interval) → often l.out q + stored_sum l.which (makes l.rule q) l.skip l.stored-iterator l.one ≡ often l.fn.out q + stored_sum l.which (makes l.rule q) l.skip l.store l.one;
  cost : l.steps + stored_sum l.which (costs l.rule) l.skip l.stored-iterator l.one ≤ l.fn.steps + stored_sum l.which (costs l.rule) l.skip l.store l.one;
  related : All (λ j. paired l.which (is_related l.rule.link) l.one j ≡ true) l.stored-iterator;
  places : All (HavePairPlaces l.rule l.which l.one) l.stored-iterator;
}
