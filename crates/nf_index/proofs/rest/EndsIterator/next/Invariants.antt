use Rattle.std.proofs.Common.{◌≡◌, ◌++◌, length}
use Rattle.nf_index.specs.inner.Orders.{AreStored, AreInOrder, by_times, or_none}
use Rattle.nf_index.proofs.rest.EndsIterator.next.Given as goal

abbrev pub invariant-loop-interval : goal.invariant-loop-interval
invariant-loop-interval l = record {
  left : or_none l.self-inside.part ++ by_times l.self-inside.begins.now l.self-inside.times ≡ l.fn.self;
  stored : AreStored l.self-inside.begins.now;
  order : AreInOrder l.self-inside.times;
}

abbrev pub decreases-loop-interval : goal.decreases-loop-interval
decreases-loop-interval l = length l.self-inside.times
