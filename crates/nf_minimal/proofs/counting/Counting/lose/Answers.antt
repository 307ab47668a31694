-- A further source goes; where there is none the candidate leaves.
use Rattle.std.proofs.Common.{◌≡◌, arith}
use Rattle.std.proofs.lemmas.Result.{on_ok_weaker}
use Rattle.nf_tally.specs.Numbers.{number}
use Rattle.nf_minimal.specs.inner.Moves.{Leaves}
use Rattle.nf_minimal.proofs.FurtherLemmas.{fewer_left}
use Rattle.nf_minimal.proofs.counting.Counting.lose.Goals as goal

pub returns : goal.returns
returns c =
    let i = c.args.interval in
    let old = c.args.self.now in
    let next = c.leave.new.self in
    let number_is = c.number.ensures in
    let off = c.if-number-gt0.false in
    let none : number old.more i ≡ 0 = omega (arith, number_is, off) in
    on_ok_weaker c.leave.result
    (λ (leaves : Leaves i old.judging next). record {
      full = leaves.full;
      right = record {
        judged = leaves.judged;
        fewer = fewer_left i old.judging.held old.judging.suppressed next.held next.suppressed old.more c.requires.right.fewer none leaves.members;
      };
      totals = λ q. let e = leaves.members q in omega (arith, e);
      net = leaves.net;
    }) c.leave.ensures
