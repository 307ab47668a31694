use Rattle.std.proofs.Common.{refl, ◌∙◌, None}
use Rattle.nf_index.specs.inner.Windows.{in_window}
use Rattle.nf_index.specs.declared.windows.Window.TheVariants.{BeginsAfter, BeginsAtEnd, EndsBefore, EndsAtBegin, SameBegin, SameEnd, SameTimes, Within, Around, StrictlyWithin, StrictlyAround, Overlaps}
use Rattle.nf_index.proofs.AskLemmas.{within_asks, around_asks, overlaps_asks, strictly_within_asks, strictly_around_asks, strictly_within_apart, strictly_around_apart, not_strictly, same_times_asks}
use Rattle.nf_index.proofs.WalkLemmas.{covers_part, between_is}
use Rattle.nf_index.proofs.plans.walk_of.Goals as goal

pub returns-in-BeginsAfter : goal.returns-in-BeginsAfter
unfolding in_window
returns-in-BeginsAfter c =
    rw c.in-BeginsAfter.is (covers_part (in_window BeginsAfter c.args.times.now.start c.args.times.now.stop) _ c.args.begins.now _ c.part.ensures (λ i there h. between_is c.begin_after.result None i (c.begin_after.ensures.is i (c.requires.index.stored i there) ∙ h) refl))

pub returns-in-BeginsAtEnd : goal.returns-in-BeginsAtEnd
unfolding in_window
returns-in-BeginsAtEnd c = rw c.in-BeginsAtEnd.is (c.begins_at.ensures (in_window BeginsAtEnd c.args.times.now.start c.args.times.now.stop) (λ i h. h))

pub returns-in-SameBegin : goal.returns-in-SameBegin
unfolding in_window
returns-in-SameBegin c = rw c.in-SameBegin.is (c.begins_at-in-SameBegin.ensures (in_window SameBegin c.args.times.now.start c.args.times.now.stop) (λ i h. h))

pub returns-in-EndsBefore : goal.returns-in-EndsBefore
unfolding in_window
returns-in-EndsBefore c = rw c.in-EndsBefore.is (c.ending_before.ensures (in_window EndsBefore c.args.times.now.start c.args.times.now.stop) (λ i h. h))

pub returns-in-EndsAtBegin : goal.returns-in-EndsAtBegin
unfolding in_window
returns-in-EndsAtBegin c = rw c.in-EndsAtBegin.is (c.ending_at.ensures (in_window EndsAtBegin c.args.times.now.start c.args.times.now.stop) (λ i h. h))

pub returns-in-SameEnd : goal.returns-in-SameEnd
unfolding in_window
returns-in-SameEnd c = rw c.in-SameEnd.is (c.ending_at-in-SameEnd.ensures (in_window SameEnd c.args.times.now.start c.args.times.now.stop) (λ i h. h))

pub returns-in-SameTimes : goal.returns-in-SameTimes
returns-in-SameTimes c = rw c.in-SameTimes.is (c.at.ensures (in_window SameTimes c.args.times.now.start c.args.times.now.stop) (same_times_asks c.args.times.now))

pub returns-in-Within : goal.returns-in-Within
returns-in-Within c = rw c.in-Within.is (c.within.ensures (in_window Within c.args.times.now.start c.args.times.now.stop) (within_asks c.args.times.now.start c.args.times.now.stop) (not_strictly (in_window Within c.args.times.now.start c.args.times.now.stop) c.args.times.now))

pub returns-in-StrictlyWithin : goal.returns-in-StrictlyWithin
returns-in-StrictlyWithin c = rw c.in-StrictlyWithin.is (c.within-in-StrictlyWithin.ensures (in_window StrictlyWithin c.args.times.now.start c.args.times.now.stop) (strictly_within_asks c.args.times.now.start c.args.times.now.stop) (strictly_within_apart c.args.times.now))

pub returns-in-Around : goal.returns-in-Around
returns-in-Around c = rw c.in-Around.is (c.around.ensures (in_window Around c.args.times.now.start c.args.times.now.stop) (around_asks c.args.times.now.start c.args.times.now.stop) (not_strictly (in_window Around c.args.times.now.start c.args.times.now.stop) c.args.times.now))

pub returns-in-StrictlyAround : goal.returns-in-StrictlyAround
returns-in-StrictlyAround c = rw c.in-StrictlyAround.is (c.around-in-StrictlyAround.ensures (in_window StrictlyAround c.args.times.now.start c.args.times.now.stop) (strictly_around_asks c.args.times.now.start c.args.times.now.stop) (strictly_around_apart c.args.times.now))

pub returns-in-Overlaps : goal.returns-in-Overlaps
returns-in-Overlaps c = rw c.in-Overlaps.is (c.overlapping.ensures (in_window Overlaps c.args.times.now.start c.args.times.now.stop) (overlaps_asks c.args.times.now.start c.args.times.now.stop))
