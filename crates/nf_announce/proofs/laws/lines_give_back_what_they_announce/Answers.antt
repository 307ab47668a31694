use Rattle.std.proofs.Common.{◌≢◌}
use Rattle.std.proofs.lemmas.List.Elements.{All-from_recursion}
use Rattle.nf_announce.specs.Announcements.{announcement, unsigned_line}
use Rattle.nf_announce.proofs.Public.LineBackLemmas.{signed_back, line_unfed}
use Rattle.nf_announce.proofs.laws.lines_give_back_what_they_announce.Goals as goal

pub returns : goal.returns
returns c = record {
  back = λ plan sign other a b valid mine its narrow thin p q e. signed_back plan valid sign other a b mine its narrow thin p q e;
  no_feed = λ plan a valid within narrow p. All-from_recursion (λ byte. byte ≢ 10) (unsigned_line (announcement plan a)) (line_unfed plan valid a.name within narrow a.interval p);
}
