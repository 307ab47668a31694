use Rattle.std.proofs.Common.{◌≡◌, not, filter, length}
use Rattle.nf_index.specs.inner.Orders.{IsIndex}
use Rattle.nf_index.proofs.ForgetLemmas.{is_before}
use Rattle.nf_index.proofs.store.Store.forget.Given as goal

abbrev pub invariant-loop-interval : goal.invariant-loop-interval
invariant-loop-interval l = record {
  index : IsIndex l.self-inside.begins l.self-inside.ends l.self-inside.falls;
  kept : filter (λ i. not (is_before l.before i)) l.self-inside.begins ≡ filter (λ i. not (is_before l.before i)) l.fn.self;
}

abbrev pub decreases-loop-interval : goal.decreases-loop-interval
decreases-loop-interval l = length l.self-inside.begins
