-- The other numbers stay.
use Rattle.std.proofs.Common.{None}
use Rattle.nf_tally.proofs.NumberLemmas.{positive_updated}
use Rattle.nf_tally.proofs.counts.Counts.clear.Goals as goal

pub invariant_of-self : goal.invariant_of-self
invariant_of-self c =
    positive_updated c.args.interval.now None c.self.inside.numbers.entries c.remove.new.self.entries c.remove.ensures.updates.0 tt c.self.invariant
