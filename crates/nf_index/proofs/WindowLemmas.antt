-- Tests of two times, the other way round, and the relations for which it doesn't matter which member an interval is.
use Rattle.std.proofs.Common.{◌≡◌, ℤ, Bool, true, false, ◌&&◌, refl, ap, ◌∙◌}
use Rattle.std.specs.declared.cmp.Ordering.{Ordering}
use Rattle.std.specs.declared.cmp.Ordering.TheVariants.{Less, Equal, Greater}
use Rattle.std.specs.Ordering.{is_eq, int_cmp, int_eq, ordering_reverse}
use Rattle.std.specs.Cmp.{int_cmp_total}
use Rattle.std.specs.Prelude.{int_lt}
use Rattle.nf_core.specs.Intervals.{Interval}
use Rattle.nf_core.specs.Relations.{holds}
use Rattle.nf_core.specs.declared.operators.Op.TheVariants.{Coincide, Start, Finish, Overlap, Slice}
use Rattle.nf_index.specs.Matching.{matches}
use Rattle.nf_index.specs.inner.Windows.{in_window}
use Rattle.nf_index.specs.declared.relations.Rel.TheVariants.{Pair}
use Rattle.nf_index.specs.declared.relations.Which.{Which}
use Rattle.nf_index.specs.declared.relations.Which.TheVariants.{First, Second}
use Rattle.nf_index.specs.declared.windows.Window.TheVariants.{SameBegin, SameEnd, SameTimes, Overlaps}

pub equal_swapped : (m n : ℤ) → int_eq m n ≡ int_eq n m
equal_swapped m n = ap is_eq (int_cmp_total.antisymm m n) ∙ turned (int_cmp n m)
  where
    turned : (o : Ordering) → is_eq (ordering_reverse o) ≡ is_eq o
    turned Less = refl
    turned Equal = refl
    turned Greater = refl

pub and_swapped : (a b : Bool) → (a && b) ≡ (b && a)
and_swapped true true = refl
and_swapped true false = refl
and_swapped false true = refl
and_swapped false false = refl

pub coincide_alike : (which : Which) (start stop : ℤ) (i : Interval) → in_window SameTimes start stop i ≡ matches (Pair Coincide) which start stop i
unfolding in_window holds
coincide_alike First start stop i = refl
coincide_alike Second start stop i = λ k. equal_swapped i.start start k && equal_swapped i.stop stop k

pub start_alike : (which : Which) (start stop : ℤ) (i : Interval) → in_window SameBegin start stop i ≡ matches (Pair Start) which start stop i
unfolding in_window holds
start_alike First start stop i = refl
start_alike Second start stop i = equal_swapped i.start start

pub finish_alike : (which : Which) (start stop : ℤ) (i : Interval) → in_window SameEnd start stop i ≡ matches (Pair Finish) which start stop i
unfolding in_window holds
finish_alike First start stop i = refl
finish_alike Second start stop i = equal_swapped i.stop stop

pub overlap_alike : (which : Which) (start stop : ℤ) (i : Interval) → in_window Overlaps start stop i ≡ matches (Pair Overlap) which start stop i
unfolding in_window holds
overlap_alike First start stop i = refl
overlap_alike Second start stop i = and_swapped (int_lt i.start stop) (int_lt start i.stop)

pub slice_alike : (which : Which) (start stop : ℤ) (i : Interval) → in_window Overlaps start stop i ≡ matches (Pair Slice) which start stop i
unfolding in_window holds
slice_alike First start stop i = refl
slice_alike Second start stop i = and_swapped (int_lt i.start stop) (int_lt start i.stop)
