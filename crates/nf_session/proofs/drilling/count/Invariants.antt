use Rattle.std.proofs.Common.{◌≡◌, ◌+◌, ◌<◌, ◌^◌, length}
use Rattle.nf_session.specs.Drill.{counted}
use Rattle.nf_session.proofs.drilling.count.Given as goal

-- the count so far, and those that are left
abbrev pub invariant-loop-interval : goal.invariant-loop-interval
invariant-loop-interval l = record {
  all : counted (l.count + length l._interval-iterator) ≡ counted (length l.fn.held);
  low : l.count < 2 ^ 64;
}
