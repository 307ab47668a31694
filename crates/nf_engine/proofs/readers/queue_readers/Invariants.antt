-- The rules so far are in the queue.
use Rattle.std.proofs.Common.{take}
use Rattle.nf_engine.specs.inner.Readers.{HasQueued}
use Rattle.nf_engine.proofs.readers.queue_readers.Given as goal

abbrev pub invariant-loop-number : goal.invariant-loop-number
invariant-loop-number l = HasQueued l.plan (take l.number-index l.numbers) l.fn.queue l.queue
