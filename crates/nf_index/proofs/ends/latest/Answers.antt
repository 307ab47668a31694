use Rattle.nf_index.proofs.FirstEndLemmas.{latest_end}
use Rattle.nf_index.proofs.ends.latest.Goals as goal

pub returns : goal.returns
returns c = rw c.copied.ensures (latest_end c.args.ends.now c.iter.result _ c.next_back.result c.iter.ensures.sorted c.iter.ensures.items c.next_back.ensures.steps)
