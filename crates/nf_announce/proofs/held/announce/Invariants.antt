use Rattle.std.proofs.Common.{◌≡◌, ◌++◌, map}
use Rattle.nf_model.specs.Changes.{named}
use Rattle.nf_announce.specs.Announcements.{announcement}
use Rattle.nf_announce.proofs.held.announce.Given as goal

-- the announcements so far, followed by those of what is left
abbrev pub invariant-loop-interval : goal.invariant-loop-interval
invariant-loop-interval l =
    l.announced.items ++ map (announcement l.plan) (named l.name l.interval-iterator)
    ≡ l.fn.announced.items ++ map (announcement l.plan) (named l.name l.fn.held)
