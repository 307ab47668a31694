-- What stood first went.
use Rattle.std.proofs.Common.{◌≡◌, List, Some, slice_get, subst}
use Rattle.nf_engine.specs.declared.queues.Due.{Due}
use Rattle.nf_engine.specs.inner.Queues.{IsPopped}
use Rattle.nf_engine.proofs.QueueLemmas.{popped_is}
use Rattle.nf_engine.proofs.queues.Queue.pop.Goals as goal

pub returns : goal.returns
returns c =
    subst (λ (old : List Due). (d : Due) → slice_get old 0 ≡ Some d → IsPopped old c.pop_first.new.self.keys d) c.self.view_is
    (popped_is c.pop_first.result c.self.inside.due.keys c.pop_first.new.self.keys c.pop_first.ensures.removal c.pop_first.ensures.all_above c.pop_first.ensures.variant.1)
