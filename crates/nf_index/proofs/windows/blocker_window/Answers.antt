use Rattle.std.proofs.Common.{refl}
use Rattle.nf_core.specs.Relations.{blocks}
use Rattle.nf_index.specs.inner.Windows.{in_window}
use Rattle.nf_index.proofs.WindowLemmas.{equal_swapped}
use Rattle.nf_index.proofs.windows.blocker_window.Goals as goal

pub returns-in-After-First : goal.returns-in-After-First
unfolding in_window blocks
returns-in-After-First c start stop i = rw (c.in-After-First.is-0, c.in-After-First.is-1) (refl)

pub returns-in-After-Second : goal.returns-in-After-Second
unfolding in_window blocks
returns-in-After-Second c start stop i = rw (c.in-After-Second.is-0, c.in-After-Second.is-1) (refl)

pub returns-in-Follow-First : goal.returns-in-Follow-First
unfolding in_window blocks
returns-in-Follow-First c start stop i = rw (c.in-Follow-First.is-0, c.in-Follow-First.is-1) (equal_swapped i.start stop)

pub returns-in-Follow-Second : goal.returns-in-Follow-Second
unfolding in_window blocks
returns-in-Follow-Second c start stop i = rw (c.in-Follow-Second.is-0, c.in-Follow-Second.is-1) (refl)

pub returns-in-Contain-First : goal.returns-in-Contain-First
unfolding in_window blocks
returns-in-Contain-First c start stop i = rw (c.in-Contain-First.is-0, c.in-Contain-First.is-1) (refl)

pub returns-in-Contain-Second : goal.returns-in-Contain-Second
unfolding in_window blocks
returns-in-Contain-Second c start stop i = rw (c.in-Contain-Second.is-0, c.in-Contain-Second.is-1) (refl)
