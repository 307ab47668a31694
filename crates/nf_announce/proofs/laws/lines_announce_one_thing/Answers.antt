use Rattle.nf_announce.proofs.LinePartLemmas.{announced_once, printed_announces}
use Rattle.nf_announce.proofs.laws.lines_announce_one_thing.Goals as goal

pub returns : goal.returns
returns c = record {
  one = λ plan line a b valid h k. announced_once plan valid line a b h k;
  printed = λ plan a line valid within head proper in_time texts e. printed_announces plan valid a line within head proper in_time texts e;
}
