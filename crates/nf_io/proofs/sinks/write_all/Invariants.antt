use Rattle.std.proofs.Common.{length, ◌-◌, ◌≤◌, take}
use Rattle.nf_io.specs.Bytes.{Took}
use Rattle.nf_io.proofs.sinks.write_all.Given as goal

abbrev pub invariant-pieces : goal.invariant-pieces
invariant-pieces g l = record {
  within : l.from ≤ length l.bytes;
  took : Took (g.O.Sink.tells l.initial.out).taken (g.O.Sink.tells l.out).taken (take l.from l.bytes);
  later : (g.O.Sink.tells l.initial.out).faults ≤ (g.O.Sink.tells l.out).faults;
}

abbrev pub decreases-pieces : goal.decreases-pieces
decreases-pieces g l = length l.bytes - l.from
