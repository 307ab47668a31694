-- The sources that came are gained and those that went are lost; the delta is followed from nothing through both.
use Rattle.std.proofs.Common.{◌≡◌, Bool, subst, sym, ap, ◌∙◌, arith}
use Rattle.nf_core.specs.Sets.{has}
use Rattle.nf_core.specs.declared.intervals.Delta.{Delta}
use Rattle.nf_tally.specs.Numbers.{number}
use Rattle.nf_tally.specs.Deltas.{Leads}
use Rattle.nf_tally.proofs.Public.LeadLemmas.{leads_nowhere, lead_lists}
use Rattle.nf_model.specs.Changes.{delta_of}
use Rattle.nf_minimal.specs.Minimals.{Minimal, held_of}
use Rattle.nf_minimal.specs.inner.Further.{sources_of, IsStocked}
use Rattle.nf_minimal.proofs.FurtherLemmas.{sources_total, stocked_kept}
use Rattle.nf_minimal.proofs.HeldLemmas.{held_is}
use Rattle.nf_minimal.proofs.minimal.Minimal.apply.Goals as goal

pub lose_all-requires-clause-there : goal.lose_all-requires-clause-there
lose_all-requires-clause-there c = λ q.
    let m = c.self.inside in
    let a = ap (λ (m : Minimal). number m.sources q) c.self.view_is in
    let b = sources_total m.full m.more m.held m.suppressed c.self.invariant q in
    let d = c.in_ok-gain_all.ensures.totals q in
    let e = c.requires.enough q in
    omega (arith, a, b, d, e)

pub returns-clause-sources : goal.returns-clause-sources
returns-clause-sources c = λ q.
    let m = c.self.inside in
    let new = c.lose_all.new.self in
    let gained = c.in_ok-gain_all.ensures in
    let lost = c.in_ok-lose_all.ensures in
    let a = ap (λ (m : Minimal). number m.sources q) c.self.view_is in
    let b = sources_total m.full m.more m.held m.suppressed c.self.invariant q in
    let d = gained.totals q in
    let e = lost.totals q in
    let f = sources_total new.judging.full new.more new.judging.held new.judging.suppressed lost.right q in
    omega (arith, a, b, d, e, f)

pub returns-clause-delta : goal.returns-clause-delta
returns-clause-delta c =
    let m = c.self.inside in
    let new = c.lose_all.new.self in
    let gained = c.in_ok-gain_all.ensures in
    let lost = c.in_ok-lose_all.ensures in
    let right : IsStocked m.full new.more new.judging.held new.judging.suppressed =
    subst (λ (f : Bool). IsStocked f new.more new.judging.held new.judging.suppressed) (lost.full ∙ gained.full) lost.right in
    let start = subst (λ (d : Delta). Leads (has m.held) (has m.held) d) (sym c.new-net.ensures) (leads_nowhere (has m.held)) in
    let lead = lost.net (has m.held) (gained.net (has m.held) start) in
    let lists : new.judging.net ≡ delta_of m.held new.judging.held =
    lead_lists m.held new.judging.held new.judging.net c.self.invariant.judged.held_set lost.right.judged.held_set lead in
    let old_is : m.held ≡ held_of c.args.self =
    held_is (record { full = m.full; sources = sources_of m.more m.held m.suppressed }) m.held m.suppressed (stocked_kept m.full m.more m.held m.suppressed c.self.invariant)
    ∙ ap (λ (m : Minimal). held_of m) c.self.view_is in
    let new_is : new.judging.held ≡ held_of (record { full = m.full; sources = sources_of new.more new.judging.held new.judging.suppressed }) =
    held_is (record { full = m.full; sources = sources_of new.more new.judging.held new.judging.suppressed }) new.judging.held new.judging.suppressed
    (stocked_kept m.full new.more new.judging.held new.judging.suppressed right) in
    c.in_ok-delta.ensures ∙ lists ∙ λ k. delta_of (old_is k) (new_is k)
