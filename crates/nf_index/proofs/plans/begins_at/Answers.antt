use Rattle.std.proofs.Common.{◌∙◌, not, ◌&&◌}
use Rattle.nf_index.proofs.WalkLemmas.{covers_part, equal_between}
use Rattle.nf_index.proofs.plans.begins_at.Goals as goal

pub returns : goal.returns
returns c w only =
    covers_part w _ c.args.begins.now _ c.part.ensures
    (λ i there h. (λ k. c.begin_from.ensures.is i (c.requires.stored i there) k && not (c.begin_after.ensures.is i (c.requires.stored i there) k)) ∙ equal_between i.start c.args.time.now (only i h))
