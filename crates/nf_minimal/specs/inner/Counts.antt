-- What sources that come and go change in the candidates and in their further sources.
use Rattle.std.specs.Prelude.{◌≡◌, ℕ, ◌+◌, List}
use Rattle.nf_core.specs.Intervals.{Interval}
use Rattle.nf_tally.specs.Numbers.{number, one_at, often}
use Rattle.nf_minimal.specs.inner.Judged.{Carries, present}
use Rattle.nf_minimal.specs.inner.Further.{IsStocked}
use Rattle.nf_minimal.specs.declared.counting.Counting.{Counting}

-- how many sources an interval has: the first one of a candidate, and its further ones
abbrev pub total : Counting → Interval → ℕ
total c q = present c.judging.held c.judging.suppressed q + number c.more q

-- further sources are counted of judged candidates alone
abbrev pub IsRight : Counting → Type 0
IsRight c = IsStocked c.judging.full c.more c.judging.held c.judging.suppressed

-- an interval gains a source
pub record Gains (i : Interval) (old new : Counting) : Type 0 where
  pub full : new.judging.full ≡ old.judging.full
  pub right : IsRight new
  pub totals : (q : Interval) → total new q ≡ total old q + one_at i q
  pub net : Carries old.judging.held new.judging.held old.judging.net new.judging.net

-- each of a list gains one
pub record GainAll (is : List Interval) (old new : Counting) : Type 0 where
  pub full : new.judging.full ≡ old.judging.full
  pub right : IsRight new
  pub totals : (q : Interval) → total new q ≡ total old q + often is q
  pub net : Carries old.judging.held new.judging.held old.judging.net new.judging.net

-- an interval loses a source
pub record Loses (i : Interval) (old new : Counting) : Type 0 where
  pub full : new.judging.full ≡ old.judging.full
  pub right : IsRight new
  pub totals : (q : Interval) → total new q + one_at i q ≡ total old q
  pub net : Carries old.judging.held new.judging.held old.judging.net new.judging.net

-- each of a list loses one
pub record LoseAll (is : List Interval) (old new : Counting) : Type 0 where
  pub full : new.judging.full ≡ old.judging.full
  pub right : IsRight new
  pub totals : (q : Interval) → total new q + often is q ≡ total old q
  pub net : Carries old.judging.held new.judging.held old.judging.net new.judging.net
