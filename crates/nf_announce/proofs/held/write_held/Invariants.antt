use Rattle.std.proofs.Common.{◌≡◌}
use Rattle.nf_core.specs.Plan.{is_head}
use Rattle.nf_model.specs.Changes.{named, pool_of}
use Rattle.nf_announce.specs.Announcements.{announcement}
use Rattle.nf_announce.proofs.HeldTextLemmas.{made_below}
use Rattle.nf_announce.proofs.held.write_held.Given as goal

-- the announcements of the heads so far
abbrev pub invariant-loop-name : goal.invariant-loop-name
invariant-loop-name g l =
    l.announced.items ≡ made_below (announcement l.plan) (λ n. named n (pool_of (g.I.Inferer.content l.inferer) n))
    (is_head l.plan) l.name
