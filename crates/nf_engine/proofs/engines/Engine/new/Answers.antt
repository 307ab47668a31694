-- Where nothing was entered everything that is kept is empty.
use Rattle.std.proofs.Common.{◌≡◌, ℕ, [], length, replicate, ap, sym, subst, ◌∙◌}
use Rattle.nf_core.specs.Plan.{Plan}
use Rattle.nf_model.specs.Pools.{Inputs}
use Rattle.nf_engine.specs.inner.Engines.{content_of, IsEngine}
use Rattle.nf_engine.proofs.EmptyLemmas.{empty_content, empty_engine}
use Rattle.nf_engine.proofs.engines.Engine.new.Goals as goal

pub invariant_of-result : goal.invariant_of-result
invariant_of-result c =
    let none : c.in_ok-entered.entered.items ≡ replicate (length c.args.plan.now.names) [] =
    c.in_ok-entered.ensures ∙ ap (λ (n : ℕ). let empty : Inputs = replicate n [] in empty) c.names.ensures.count in
    subst (λ (plan : Plan). IsEngine plan c.args.full c.in_ok-entered.entered.items c.in_ok-names.names.items c.in_ok-rules.rules.items c.in_ok-readers.readers.items) (sym c.in_ok-plan.ensures)
    (empty_engine c.args.plan.now c.args.full c.names.ensures.valid c.in_ok-entered.entered.items c.in_ok-names.names.items none c.in_ok-names.ensures.none
    c.in_ok-rules.rules.items c.in_ok-readers.readers.items c.in_ok-names.ensures.each c.in_ok-names.ensures.all c.in_ok-rules.ensures.each c.in_ok-rules.ensures.parts c.in_ok-readers.ensures)

pub returns : goal.returns
returns c =
    let none : c.in_ok-entered.entered.items ≡ replicate (length c.args.plan.now.names) [] =
    c.in_ok-entered.ensures ∙ ap (λ (n : ℕ). let empty : Inputs = replicate n [] in empty) c.names.ensures.count in
    record {
      content =
          ap (λ (plan : Plan). content_of plan c.args.full c.in_ok-entered.entered.items c.in_ok-names.names.items) c.in_ok-plan.ensures
          ∙ empty_content c.args.plan.now c.args.full c.names.ensures.valid c.in_ok-entered.entered.items c.in_ok-names.names.items none c.in_ok-names.ensures.none;
    }
