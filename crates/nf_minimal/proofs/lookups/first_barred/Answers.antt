-- Where all are held none is barred; else the walk around says it.
use Rattle.std.proofs.Common.{Bool, false, ap, ◌∙◌}
use Rattle.nf_core.specs.Sets.{has}
use Rattle.nf_index.specs.Matching.{matches}
use Rattle.nf_index.specs.declared.relations.Rel.TheVariants.{Inside}
use Rattle.nf_index.specs.declared.relations.Which.TheVariants.{Second}
use Rattle.nf_minimal.specs.inner.Barred.{bars}
use Rattle.nf_minimal.proofs.LookupLemmas.{none_passes, first_passes}
use Rattle.nf_minimal.proofs.lookups.first_barred.Goals as goal

pub returns-then-full : goal.returns-then-full
unfolding bars
returns-then-full c = λ q there. ap (λ (f : Bool). bars f c.args.interval.now q) c.if-full.true

pub returns-in_ok-copy-in-Some : goal.returns-in_ok-copy-in-Some
unfolding bars
returns-in_ok-copy-in-Some c =
    let i = c.args.interval.now in
    let it = first_passes (matches Inside Second i.start i.stop) c.args.store.now c.matching_with-outer.result c.next.new.self c.in-Some.first.now
    c.matching_with-outer.ensures.exactly c.in-Some.ensures.steps in (
      ap (has c.args.store.now) c.in_ok-copy-in-Some.ensures ∙ it.0,
      ap (λ (f : Bool). bars f i c.in_ok-copy-in-Some.field-0) c.if-full.false ∙ ap (bars false i) c.in_ok-copy-in-Some.ensures ∙ it.1,
    )

pub returns-in-None : goal.returns-in-None
unfolding bars
returns-in-None c = λ q there.
    let i = c.args.interval.now in
    ap (λ (f : Bool). bars f i q) c.if-full.false
    ∙ none_passes (matches Inside Second i.start i.stop) c.args.store.now c.matching_with-outer.result c.matching_with-outer.ensures.exactly c.in-None.ensures.steps.0 q there
