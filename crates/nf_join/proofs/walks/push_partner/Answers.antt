use Rattle.std.proofs.Common.{◌≡◌, ◌+◌, false, sym, ap, ◌∙◌, arith}
use Rattle.std.proofs.lemmas.Grind.{common_steps}
use Rattle.std.proofs.lemmas.Result.{on_ok_weaker}
use Rattle.nf_core.specs.Sets.{has}
use Rattle.nf_join.specs.inner.Made.{makes}
use Rattle.nf_tally.specs.Numbers.{often}
use Rattle.nf_join.proofs.MadeLemmas.{first_pair, second_pair}
use Rattle.nf_join.proofs.walks.push_partner.Goals as goal

pub returns-in-First-clause-often : goal.returns-in-First-clause-often
returns-in-First-clause-often g c =
    let absent : has c.args.skip.now c.args.stored.now ≡ false = grind (arith, common_steps) in
    on_ok_weaker c.push_made.result
    (λ h q. h q ∙ ap (λ n. often c.args.out.now q + n) (sym (first_pair (makes c.args.rule.now q) c.args.skip.now c.args.which c.args.one.now c.args.stored.now c.in-First.is absent)))
    c.push_made.ensures.often

pub returns-in-Second-clause-often : goal.returns-in-Second-clause-often
returns-in-Second-clause-often g c =
    let absent : has c.args.skip.now c.args.stored.now ≡ false = grind (arith, common_steps) in
    on_ok_weaker c.push_made-in-Second.result
    (λ h q. h q ∙ ap (λ n. often c.args.out.now q + n) (sym (second_pair (makes c.args.rule.now q) c.args.skip.now c.args.which c.args.one.now c.args.stored.now c.in-Second.is absent)))
    c.push_made-in-Second.ensures.often
