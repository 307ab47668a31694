-- What is held of a name's candidates is its pool.
use Rattle.std.proofs.Common.{◌≡◌, ◌<◌, length, ap, sym, subst, ◌∙◌, arith}
use Rattle.std.proofs.lemmas.List.{get_or_read}
use Rattle.nf_model.specs.Changes.{Content, pool_of}
use Rattle.nf_minimal.specs.Minimals.{Minimal, held_of}
use Rattle.nf_engine.specs.inner.Engines.{inputs_of}
use Rattle.nf_engine.specs.inner.Rounds.{no_candidates}
use Rattle.nf_engine.proofs.StepLemmas.{held_are_pools}
use Rattle.nf_engine.proofs.engines.EngineInferer.held.Goals as goal

pub returns-clause-pool : goal.returns-clause-pool
returns-clause-pool c =
    let e = c.self.inside in
    let named : c.args.name < length e.plan.names = subst (λ (s : Content). c.args.name < length s.plan.names) (sym c.self.view_is) c.requires in
    let each : length e.names.items ≡ length e.plan.names = c.self.invariant.kept.each_name in
    c.walk.ensures.all ∙ c.held.ensures ∙ ap (λ (m : Minimal). held_of m) (get_or_read e.names.items c.args.name c.index.result.now (omega (arith, each, named)) c.index.ensures no_candidates)
    ∙ held_are_pools e.plan e.full (inputs_of e.plan e.entered.items e.names.items) e.names.items e.rules.items c.self.invariant.content.valid c.self.invariant.kept c.args.name named
    ∙ ap (λ (s : Content). pool_of s c.args.name) c.self.view_is
