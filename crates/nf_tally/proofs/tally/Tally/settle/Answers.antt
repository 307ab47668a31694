-- The delta is followed from nothing through both lists.
use Rattle.std.proofs.Common.{subst, sym}
use Rattle.nf_core.specs.declared.intervals.Delta.{Delta}
use Rattle.nf_tally.specs.Numbers.{Numbers, number, IsNet}
use Rattle.nf_tally.specs.Deltas.{Leads}
use Rattle.nf_tally.specs.inner.Carried.{on}
use Rattle.nf_tally.specs.inner.Counted.{counted}
use Rattle.nf_tally.proofs.CarriedLemmas.{net_from_leads}
use Rattle.nf_tally.proofs.Public.LeadLemmas.{leads_nowhere}
use Rattle.nf_tally.proofs.tally.Tally.settle.Goals as goal

pub returns-clause-delta : goal.returns-clause-delta
returns-clause-delta c =
    let was = on c.args.self in
    let first = subst (λ (d : Delta). Leads was was d) (sym c.new-net.ensures) (leads_nowhere was) in
    let added = c.in_ok-gain_all.ensures.net was first in
    let taken = c.in_ok-lose_all.ensures.net was added in
    let net = net_from_leads c.args.self c.lose_all.new.tally c.lose_all.new.net taken in
    subst (λ (d : Delta). IsNet (number c.args.self) (number (counted c.tally-2.inside.known c.tally-2.inside.beyond)) d) (sym c.in_ok-into_delta.ensures)
    (subst (λ (numbers : Numbers). IsNet (number c.args.self) (number numbers) c.lose_all.new.net) (sym c.tally-2.view_is) net)
