-- The number that is written is above 0.
use Rattle.std.proofs.Common.{Some}
use Rattle.nf_tally.proofs.NumberLemmas.{positive_updated}
use Rattle.nf_tally.proofs.counts.Counts.put.Goals as goal

pub invariant_of-self-2 : goal.invariant_of-self-2
invariant_of-self-2 c =
    positive_updated c.args.interval (Some c.args.count) c.self.inside.numbers.entries c.insert.new.self.entries c.in_ok-insert.ensures.updates.0 c.requires c.self.invariant
