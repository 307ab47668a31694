use Rattle.std.proofs.Common.{sym, ◌∙◌}
use Rattle.nf_index.specs.Matching.{matches}
use Rattle.nf_pairs.proofs.MatchingLemmas.{matched_is}
use Rattle.nf_pairs.proofs.related.partners.Goals as goal

pub returns : goal.returns
returns c =
    let is = matched_is c.args.rule.now.link c.relation.result c.relation.ensures c.args.which c.args.one.now in
    record {
      among = matches c.relation.result c.args.which c.args.one.now.start c.args.one.now.stop;
      related = λ j h. sym (is j) ∙ h;
      complete = λ j h k. is j ∙ h;
      each = c.matching_with.ensures.exactly;
    }
