-- One rule more is in the queue.
use Rattle.std.proofs.Common.{take, get_or, ◌+◌}
use Rattle.std.proofs.lemmas.List.{take_more}
use Rattle.nf_engine.proofs.ReaderLemmas.{none_queued, one_queued}
use Rattle.nf_engine.proofs.readers.queue_readers.Goals as goal

pub loop-number-init : goal.loop-number-init
loop-number-init c = none_queued c.args.plan.now c.args.queue.now

pub loop-number-preserved : goal.loop-number-preserved
loop-number-preserved c =
    one_queued c.args.plan.now (take c.loop-number.number-index c.args.numbers.now) (take (c.loop-number.number-index + 1) c.args.numbers.now) (get_or c.args.numbers.now c.loop-number.number-index 0)
    c.args.queue.now c.loop-number.queue c.queue_rule.new.queue (take_more c.args.numbers.now c.loop-number.number-index 0 c.loop-number-test.true) c.loop-number.invariant c.in_ok-queue_rule.ensures
