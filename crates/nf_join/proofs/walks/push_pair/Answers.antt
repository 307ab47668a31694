use Rattle.std.proofs.Common.{◌≡◌, false, arith}
use Rattle.std.proofs.lemmas.Grind.{common_steps}
use Rattle.nf_pairs.specs.Partners.{is_related}
use Rattle.nf_join.proofs.MadeLemmas.{makes_unrelated}
use Rattle.nf_join.proofs.walks.push_pair.Goals as goal

pub returns-then-not-is_related-clause-often : goal.returns-then-not-is_related-clause-often
returns-then-not-is_related-clause-often g c =
    let apart : is_related c.args.rule.now.link c.args.first.now c.args.second.now ≡ false = grind (arith, common_steps) in
    λ q. let none = makes_unrelated c.args.rule.now q c.args.first.now c.args.second.now apart in omega arith
