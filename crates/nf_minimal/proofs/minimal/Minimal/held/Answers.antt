-- The held ones of the two stores are what is held of the candidates.
use Rattle.std.proofs.Common.{◌∙◌, ap}
use Rattle.nf_minimal.specs.Minimals.{Minimal, held_of}
use Rattle.nf_minimal.specs.inner.Further.{sources_of}
use Rattle.nf_minimal.proofs.FurtherLemmas.{stocked_kept}
use Rattle.nf_minimal.proofs.HeldLemmas.{held_is}
use Rattle.nf_minimal.proofs.minimal.Minimal.held.Goals as goal

pub returns : goal.returns
returns c =
    let m = c.self.inside in
    held_is (record { full = m.full; sources = sources_of m.more m.held m.suppressed }) m.held m.suppressed (stocked_kept m.full m.more m.held m.suppressed c.self.invariant)
    ∙ ap (λ (m : Minimal). held_of m) c.self.view_is
