-- Where all are held none is barred; else the walk inside says it.
use Rattle.std.proofs.Common.{Bool, Bor, sym, ap, ◌∙◌}
use Rattle.nf_core.specs.Intervals.{Interval}
use Rattle.nf_index.specs.Matching.{matches}
use Rattle.nf_index.specs.declared.relations.Rel.TheVariants.{Inside}
use Rattle.nf_index.specs.declared.relations.Which.TheVariants.{First}
use Rattle.nf_minimal.specs.inner.Barred.{bars, is_barred}
use Rattle.nf_minimal.proofs.HeldLemmas.{none_barred}
use Rattle.nf_minimal.proofs.LookupLemmas.{any_found}
use Rattle.nf_minimal.proofs.lookups.is_barred.Goals as goal

pub returns-then-full : goal.returns-then-full
returns-then-full c = sym (ap (λ (f : Bool). is_barred f c.args.store.now c.args.interval.now) c.if-full.true ∙ none_barred c.args.store.now c.args.interval.now)

pub returns : goal.returns
unfolding bars
returns c =
    let i = c.args.interval.now in
    c.is_some.ensures
    ∙ any_found (matches Inside First i.start i.stop) c.args.store.now (λ (x : Bor Interval). x.now) c.next.result c.matching_with-inner.result c.next.new.self
    c.matching_with-inner.ensures.exactly c.next.ensures.steps
    ∙ ap (λ (f : Bool). is_barred f c.args.store.now i) (sym c.if-full.false)
