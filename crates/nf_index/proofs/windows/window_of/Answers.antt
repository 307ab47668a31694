use Rattle.std.proofs.Common.{refl, not, ◌&&◌}
use Rattle.std.specs.Prelude.{int_le}
use Rattle.nf_index.specs.inner.Windows.{in_window}
use Rattle.nf_index.proofs.WindowLemmas.{equal_swapped}
use Rattle.nf_index.proofs.windows.window_of.Goals as goal

pub returns-in-First : goal.returns-in-First
unfolding in_window
returns-in-First c start stop i = rw (c.in-Inside.is, c.in-First.is) refl

pub returns-in-Second : goal.returns-in-Second
unfolding in_window
returns-in-Second c start stop i = rw (c.in-Inside.is, c.in-Second.is) (λ k. int_le i.start start && int_le stop i.stop && not (equal_swapped i.start start k && equal_swapped i.stop stop k))
