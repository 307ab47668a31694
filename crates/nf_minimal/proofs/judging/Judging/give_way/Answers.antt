-- One more is suppressed, until none that is held is barred.
use Rattle.std.proofs.Common.{◌≡◌, ◌<◌, true, false, not, ◌&&◌, ◌||◌, Bool, List, None, length, subst, sym, ap, ◌∙◌, arith}
use Rattle.std.proofs.lemmas.Map.Made.{length-remove_key}
use Rattle.nf_core.specs.Intervals.{Interval, same}
use Rattle.nf_core.specs.Sets.{IsSet, has}
use Rattle.nf_core.proofs.Public.SetLemmas.{IsSet-inserted, IsSet-removed}
use Rattle.nf_minimal.specs.inner.Barred.{bars, IsOneBarred}
use Rattle.nf_minimal.proofs.MovingLemmas.{others_stay, fewer, gathered, all_out, all_gathered}
use Rattle.nf_minimal.proofs.judging.Judging.give_way.Goals as goal
use Rattle.nf_minimal.proofs.judging.Judging.give_way.Goals.{In_ok-suppress}

found : (c : In_ok-suppress) → (has c.loop-outer.self.held c.in-Some.outer ≡ true) × (bars c.loop-outer.self.full c.args.interval.now c.in-Some.outer ≡ true)
found c = subst (IsOneBarred c.loop-outer.self.full c.args.interval.now c.loop-outer.self.held) c.in-Some.is c.in_ok-outer.ensures

pub loop-outer-smaller : goal.loop-outer-smaller
loop-outer-smaller c =
    let e = ap length c.in_ok-suppress.ensures.held in
    let f = length-remove_key (same c.in-Some.outer) c.loop-outer.self.held (found c).0 in
    let less : length c.suppress.new.self.held < length c.loop-outer.self.held = omega (arith, e, f) in
    less

pub loop-outer-preserved : goal.loop-outer-preserved
loop-outer-preserved c =
    let full = c.args.self.now.full in
    let i = c.args.interval.now in
    let outer = c.in-Some.outer in
    let held = c.loop-outer.self.held in
    let before = c.loop-outer.invariant in
    let step = c.in_ok-suppress.ensures in
    let bar : bars full i outer ≡ true = ap (λ (f : Bool). bars f i outer) (sym before.full) ∙ (found c).1 in
    record {
      full = step.full ∙ before.full;
      held_set = subst IsSet (sym step.held) (IsSet-removed outer held before.held_set);
      suppressed_set = subst IsSet (sym step.suppressed) (IsSet-inserted outer c.loop-outer.self.suppressed before.suppressed_set);
      kept = λ q h. ap (λ (is : List Interval). has is q) step.held ∙ others_stay full i outer held before.held_set bar q h ∙ before.kept q h;
      within = λ q there. before.within q (fewer full i outer held before.held_set bar q (sym (ap (λ (is : List Interval). has is q) step.held) ∙ there));
      moved = λ q. ap (λ (is : List Interval). has is q) step.suppressed
          ∙ gathered full i outer held before.held_set bar (has c.args.self.now.held) (has c.args.self.now.suppressed) c.loop-outer.self.suppressed q (before.within outer (found c).0) (before.moved q)
          ∙ sym (ap (λ (is : List Interval). has c.args.self.now.suppressed q || (has c.args.self.now.held q && not (has is q))) step.held);
      net = λ was lead. step.net was (before.net was lead);
    }

pub returns : goal.returns
returns c =
    let full = c.args.self.now.full in
    let i = c.args.interval.now in
    let held = c.loop-outer.self.held in
    let end = c.loop-outer.invariant in
    let none : IsOneBarred c.loop-outer.self.full i held None = subst (IsOneBarred c.loop-outer.self.full i held) c.in_default.is c.in_ok-outer.ensures in
    let out : (q : Interval) → has held q ≡ true → bars full i q ≡ false = λ q there. ap (λ (f : Bool). bars f i q) (sym end.full) ∙ none q there in
    let kept : (q : Interval) → has held q ≡ (has c.args.self.now.held q && not (bars full i q)) = λ q. all_out (bars full i q) (has held q) (has c.args.self.now.held q) (end.kept q) (out q) in
    record {
      full = end.full;
      held_set = end.held_set;
      suppressed_set = end.suppressed_set;
      held = kept;
      suppressed = λ q. all_gathered (bars full i q) (has held q) (has c.args.self.now.held q) (has c.args.self.now.suppressed q) (has c.loop-outer.self.suppressed q) (kept q) (end.moved q);
      net = end.net;
    }
