-- What the moves of candidates between the two stores keep and change.
use Rattle.std.specs.Prelude.{◌≡◌, ◌+◌, not, ◌&&◌, ◌||◌, List}
use Rattle.nf_core.specs.Intervals.{Interval}
use Rattle.nf_core.specs.Sets.{IsSet, has, inserted, removed}
use Rattle.nf_tally.specs.Numbers.{one_at, often}
use Rattle.nf_minimal.specs.inner.Barred.{bars}
use Rattle.nf_minimal.specs.inner.Judged.{IsJudged, Carries, present}
use Rattle.nf_minimal.specs.declared.judging.Judging.{Judging}

-- one held interval is suppressed
pub record Suppresses (outer : Interval) (old new : Judging) : Type 0 where
  pub full : new.full ≡ old.full
  pub held : new.held ≡ removed outer old.held
  pub suppressed : new.suppressed ≡ inserted outer old.suppressed
  pub net : Carries old.held new.held old.net new.net

-- all held ones that an interval bars are suppressed
pub record GivesWay (i : Interval) (old new : Judging) : Type 0 where
  pub full : new.full ≡ old.full
  pub held_set : IsSet new.held
  pub suppressed_set : IsSet new.suppressed
  pub held : (q : Interval) → has new.held q ≡ (has old.held q && not (bars old.full i q))
  pub suppressed : (q : Interval) → has new.suppressed q ≡ (has old.suppressed q || (has old.held q && bars old.full i q))
  pub net : Carries old.held new.held old.net new.net

-- one interval becomes a candidate
pub record Arrives (i : Interval) (old new : Judging) : Type 0 where
  pub full : new.full ≡ old.full
  pub judged : IsJudged new.full new.held new.suppressed
  pub members : (q : Interval) → present new.held new.suppressed q ≡ present old.held old.suppressed q + one_at i q
  pub net : Carries old.held new.held old.net new.net

-- each of a list becomes one
pub record ArriveAll (is : List Interval) (old new : Judging) : Type 0 where
  pub full : new.full ≡ old.full
  pub judged : IsJudged new.full new.held new.suppressed
  pub members : (q : Interval) → present new.held new.suppressed q ≡ present old.held old.suppressed q + often is q
  pub net : Carries old.held new.held old.net new.net

-- one candidate is none any more
pub record Leaves (i : Interval) (old new : Judging) : Type 0 where
  pub full : new.full ≡ old.full
  pub judged : IsJudged new.full new.held new.suppressed
  pub members : (q : Interval) → present new.held new.suppressed q + one_at i q ≡ present old.held old.suppressed q
  pub net : Carries old.held new.held old.net new.net
