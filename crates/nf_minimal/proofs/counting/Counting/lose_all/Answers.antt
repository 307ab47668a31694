-- One more loses a source, which it still has.
use Rattle.std.proofs.Common.{List, ap, ◌∙◌, arith}
use Rattle.nf_core.specs.Intervals.{Interval}
use Rattle.nf_core.proofs.Public.SameIntervalLemmas.{same_self}
use Rattle.nf_tally.specs.Numbers.{often}
use Rattle.nf_tally.proofs.Public.OftenLemmas.{often_push}
use Rattle.nf_minimal.specs.inner.Judged.{once_if}
use Rattle.nf_minimal.proofs.counting.Counting.lose_all.Goals as goal

pub lose-requires-clause-there : goal.lose-requires-clause-there
lose-requires-clause-there c =
    let i = c.in-Some.interval in
    let rest = ap (λ (is : List Interval). often is i) c.in-Some.ensures.items ∙ often_push c.pop.new.self.items i i in
    let one = ap (λ b. once_if b) (same_self i) in
    let totals = c.loop-interval.invariant.totals i in
    let room = c.requires.there i in
    omega (arith, rest, one, totals, room)

pub loop-interval-preserved : goal.loop-interval-preserved
loop-interval-preserved c =
    let i = c.in-Some.interval in
    let before = c.loop-interval.invariant in
    let step = c.in_ok-lose.ensures in
    record {
      full = step.full ∙ before.full;
      right = step.right;
      totals = λ q.
          let rest = ap (λ (is : List Interval). often is q) c.in-Some.ensures.items ∙ often_push c.pop.new.self.items i q in
          let a = before.totals q in
          let b = step.totals q in
          omega (arith, rest, a, b);
      net = λ was lead. step.net was (before.net was lead);
    }
