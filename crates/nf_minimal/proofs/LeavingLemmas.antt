-- A held candidate leaves, and the suppressed ones that it bars are taken out to arrive again.
use Rattle.std.proofs.Common.{◌≡◌, ◌+◌, ◌≤◌, Bool, true, false, ◌||◌, List, subst, sym, ap, ◌∙◌, arith}
use Rattle.nf_core.specs.Intervals.{Interval}
use Rattle.nf_core.specs.Sets.{IsSet, has, removed}
use Rattle.nf_tally.specs.Numbers.{one_at, often}
use Rattle.nf_minimal.specs.inner.Barred.{bars}
use Rattle.nf_minimal.specs.inner.Judged.{IsJudged, present, once_if}
use Rattle.nf_minimal.proofs.JudgedLemmas.{held_leaves}
use Rattle.nf_minimal.proofs.PresentLemmas.{first_has, removed_absent, fewer_held, once_most}

-- what the calls gave: the two stores without the interval, and what was taken out of the second one
pub record Left (full : Bool) (i : Interval) (held suppressed held_left stored rest outer : List Interval) : Type 0 where
  pub judged : IsJudged full held suppressed
  pub there : present held suppressed i ≡ 1
  pub out : has suppressed i ≡ false
  pub held_is : held_left ≡ removed i held
  pub stored_is : stored ≡ removed i suppressed
  pub set : IsSet rest
  pub counts : (q : Interval) → often outer q + once_if (has rest q) ≡ once_if (has stored q)
  pub kept : (q : Interval) → bars full i q ≡ false → has rest q ≡ has stored q
  pub free : (q : Interval) → has rest q ≡ true → bars full i q ≡ false

module _ (full : Bool) (i : Interval) (held suppressed held_left stored rest outer : List Interval) (left : Left full i held suppressed held_left stored rest outer) where
  stays : stored ≡ suppressed
  stays = left.stored_is ∙ removed_absent i suppressed left.judged.suppressed_set left.out

  pub was_held : has held i ≡ true
  was_held = first_has (has held i) (has suppressed i) left.there left.out

  pub stored_set : IsSet stored
  stored_set = subst IsSet (sym stays) left.judged.suppressed_set

  removed_judged : IsJudged full (removed i held) rest
  removed_judged =
      held_leaves full i held suppressed rest left.judged left.set
      (λ q h. left.kept q h ∙ ap (λ (is : List Interval). has is q) stays) left.free

  pub left_judged : IsJudged full held_left rest
  left_judged = subst (λ (is : List Interval). IsJudged full is rest) (sym left.held_is) removed_judged

  pub left_members : (q : Interval) → present held_left rest q + often outer q + one_at i q ≡ present held suppressed q
  left_members q = ap (λ (is : List Interval). present is rest q + often outer q + one_at i q) left.held_is
      ∙ fewer_held full i q held suppressed left.judged full rest outer removed_judged was_held (left.counts q ∙ ap (λ (is : List Interval). once_if (has is q)) stays)

  pub left_room : (q : Interval) → present held_left rest q + often outer q ≤ 1
  left_room q = let a = left_members q in let b = once_most (has held q || has suppressed q) in omega (arith, a, b)
