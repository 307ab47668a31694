use Rattle.nf_announce.proofs.Public.AnnouncementOrderLemmas.{sorted_in_order}
use Rattle.nf_announce.proofs.ordered_lines.ordered.Goals as goal

pub returns : goal.returns
returns c = sorted_in_order _ _ c.in_ok-sort.ensures.permutation c.in_ok-sort.ensures.sorted
