use Rattle.std.proofs.Common.{◌≡◌, length, filter}
use Rattle.nf_index.specs.inner.Walks.{left}
use Rattle.nf_index.specs.inner.Windows.{in_window}
use Rattle.nf_index.proofs.matching.MatchingIterator.next.Given as goal

abbrev pub invariant-loop-interval : goal.invariant-loop-interval
invariant-loop-interval l = filter (in_window l.self-inside.window l.self-inside.times.start l.self-inside.times.stop) (left l.self-inside.rest) ≡ l.fn.self

abbrev pub decreases-loop-interval : goal.decreases-loop-interval
decreases-loop-interval l = length (left l.self-inside.rest)
