use Rattle.std.proofs.Common.{◌++◌, length, ap, arith}
use Rattle.std.proofs.lemmas.List.{length-append}
use Rattle.nf_evaluation_cases.proofs.FollowerLemmas.{its_plan}
use Rattle.nf_evaluation_cases.proofs.following.fed.Goals as goal

pub pieces-preserved : goal.pieces-preserved
pieces-preserved g c =
    let bytes = c.pieces.invariant.0 in
    let piece = c.as_bytes.result.now in
    let fed = c.in-Ok.ensures.feeds c.args.plan.now c.args.follower.content.full bytes (omega (arith, c.pieces.invariant.2, c.saturating_add-count.ensures, c.if-count-gt-MOST_FED.false, ap length c.as_bytes.ensures.value)) c.pieces.invariant.1 in (
      bytes ++ piece,
      fed.stands,
      omega (arith, length-append bytes piece, c.pieces.invariant.2, c.saturating_add-count.ensures, c.if-count-gt-MOST_FED.false, ap length c.as_bytes.ensures.value),
      omega (arith, c.if-count-gt-MOST_FED.false),
    )

pub returns : goal.returns
returns g c = its_plan c.args.plan.now c.args.follower.content.full c.pieces.invariant.0 c.pieces.follower c.pieces.invariant.1
