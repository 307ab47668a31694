-- One more is taken out, until none that is stored is barred.
use Rattle.std.proofs.Common.{◌≡◌, ◌+◌, ◌<◌, true, List, length, subst, sym, ap, ◌∙◌, arith}
use Rattle.std.proofs.lemmas.Map.Made.{length-remove_key}
use Rattle.nf_core.specs.Intervals.{Interval, same}
use Rattle.nf_core.specs.Sets.{IsSet, has}
use Rattle.nf_core.proofs.Public.SetLemmas.{IsSet-removed}
use Rattle.nf_tally.specs.Numbers.{one_at, often}
use Rattle.nf_tally.proofs.Public.OftenLemmas.{often_push}
use Rattle.nf_minimal.specs.inner.Barred.{bars, IsOneBarred}
use Rattle.nf_minimal.specs.inner.Judged.{once_if}
use Rattle.nf_minimal.proofs.MovingLemmas.{others_stay}
use Rattle.nf_minimal.proofs.PresentLemmas.{once_removed}
use Rattle.nf_minimal.proofs.judging.release.Goals as goal
use Rattle.nf_minimal.proofs.judging.release.Goals.{In_ok-push}

found : (c : In_ok-push) → (has c.loop-outer.store c.in-Some.one ≡ true) × (bars c.args.full c.args.interval.now c.in-Some.one ≡ true)
found c = subst (IsOneBarred c.args.full c.args.interval.now c.loop-outer.store) c.in-Some.is c.in_ok-one.ensures

pub loop-outer-smaller : goal.loop-outer-smaller
loop-outer-smaller c =
    let e = ap length c.remove.ensures.rest in
    let f = length-remove_key (same c.in-Some.one) c.loop-outer.store (found c).0 in
    let less : length c.remove.new.self < length c.loop-outer.store = omega (arith, e, f) in
    less

pub loop-outer-preserved : goal.loop-outer-preserved
loop-outer-preserved c =
    let one = c.in-Some.one in
    let store = c.loop-outer.store in
    let before = c.loop-outer.invariant in
    record {
      set = subst IsSet (sym c.remove.ensures.rest) (IsSet-removed one store before.set);
      counts = λ q.
          let a = ap (λ (is : List Interval). often is q) c.in_ok-push.ensures.ok ∙ often_push c.loop-outer.outer one q in
          let b = ap (λ (is : List Interval). once_if (has is q) + one_at one q) c.remove.ensures.rest ∙ once_removed one q store before.set (found c).0 in
          let d = before.counts q in
          omega (arith, a, b, d);
      kept = λ q h. ap (λ (is : List Interval). has is q) c.remove.ensures.rest ∙ others_stay c.args.full c.args.interval.now one store before.set (found c).1 q h ∙ before.kept q h;
    }
