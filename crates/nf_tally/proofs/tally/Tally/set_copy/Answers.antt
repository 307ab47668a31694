-- The number is 0, and so it was.
use Rattle.nf_tally.proofs.NumberLemmas.{zero_unset}
use Rattle.nf_tally.proofs.tally.Tally.set_copy.Goals as goal

pub returns-then-count-eq0-clause-ok : goal.returns-then-count-eq0-clause-ok
returns-then-count-eq0-clause-ok c = λ q. zero_unset c.args.interval.now q c.args.count c.args.self.now c.if-count-eq0.true c.requires
