use Rattle.std.proofs.Common.{refl}
use Rattle.nf_core.specs.Relations.{holds}
use Rattle.nf_index.specs.inner.Windows.{in_window}
use Rattle.nf_index.proofs.WindowLemmas.{equal_swapped, coincide_alike, start_alike, finish_alike, overlap_alike, slice_alike}
use Rattle.nf_index.proofs.windows.pair_window.Goals as goal

pub returns-in-Before-First : goal.returns-in-Before-First
unfolding in_window holds
returns-in-Before-First c start stop i = rw (c.in-Before-First.is-0, c.in-Before-First.is-1) (refl)

pub returns-in-Before-Second : goal.returns-in-Before-Second
unfolding in_window holds
returns-in-Before-Second c start stop i = rw (c.in-Before-Second.is-0, c.in-Before-Second.is-1) (refl)

pub returns-in-Meet-First : goal.returns-in-Meet-First
unfolding in_window holds
returns-in-Meet-First c start stop i = rw (c.in-Meet-First.is-0, c.in-Meet-First.is-1) (refl)

pub returns-in-Meet-Second : goal.returns-in-Meet-Second
unfolding in_window holds
returns-in-Meet-Second c start stop i = rw (c.in-Meet-Second.is-0, c.in-Meet-Second.is-1) (equal_swapped i.start stop)

pub returns-in-During-First : goal.returns-in-During-First
unfolding in_window holds
returns-in-During-First c start stop i = rw (c.in-During-First.is-0, c.in-During-First.is-1) (refl)

pub returns-in-During-Second : goal.returns-in-During-Second
unfolding in_window holds
returns-in-During-Second c start stop i = rw (c.in-During-Second.is-0, c.in-During-Second.is-1) (refl)

pub returns-in-Coincide-default : goal.returns-in-Coincide-default
returns-in-Coincide-default c start stop i = rw c.in-Coincide-default.is-0 (coincide_alike c.args.which start stop i)

pub returns-in-Start-default : goal.returns-in-Start-default
returns-in-Start-default c start stop i = rw c.in-Start-default.is-0 (start_alike c.args.which start stop i)

pub returns-in-Finish-default : goal.returns-in-Finish-default
returns-in-Finish-default c start stop i = rw c.in-Finish-default.is-0 (finish_alike c.args.which start stop i)

pub returns-in-Overlap-default : goal.returns-in-Overlap-default
returns-in-Overlap-default c start stop i = rw c.in-Overlap-default.is-0 (overlap_alike c.args.which start stop i)

pub returns-in-Slice-default : goal.returns-in-Slice-default
returns-in-Slice-default c start stop i = rw c.in-Slice-default.is-0 (slice_alike c.args.which start stop i)
