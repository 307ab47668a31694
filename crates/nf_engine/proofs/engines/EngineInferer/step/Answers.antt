-- The step leads from the evaluator's content to that with the interval.
use Rattle.std.proofs.Common.{length, refl, sym, subst, ◌∙◌, rules, ap}
use Rattle.nf_model.specs.Pools.{Inputs}
use Rattle.nf_engine.specs.inner.Readers.{AreReaders}
use Rattle.nf_engine.proofs.EngineLemmas.{named, enter_passes, enter_starts, enter_work, left_names, left_change, left_stands, left_content}
use Rattle.nf_engine.proofs.engines.EngineInferer.step.Goals as goal

pub enter-requires : goal.enter-requires
enter-requires g c = λ κs below. (
  below,
  (
    enter_passes c.self.inside.plan c.self.inside.full c.self.inside.entered.items c.self.inside.names.items c.self.inside.rules.items c.self.inside.readers.items c.self.invariant
        c.args.name c.args.interval c.args.self c.self.view_is c.requires.name c.requires.narrow c.requires.row (search rules) c.as_slice-sets.result.now c.as_slice-sets.ensures.value,
    (
      ap (λ (ls : Inputs). length ls) c.as_slice-sets.ensures.value ∙ c.self.invariant.each_entered,
      (
        c.self.invariant.kept.each_name,
        (
          subst (AreReaders c.self.inside.plan) (sym c.as_slice-lists.ensures.value) c.self.invariant.index,
          (
            named c.self.inside.plan c.self.inside.full c.self.inside.entered.items c.self.inside.names.items c.self.inside.rules.items c.self.inside.readers.items c.self.invariant
                c.args.name c.args.interval c.args.self c.self.view_is c.requires.name c.requires.narrow c.requires.row (search rules) c.as_slice-sets.result.now c.as_slice-sets.ensures.value,
            enter_starts c.self.inside.plan c.self.inside.full c.self.inside.entered.items c.self.inside.names.items c.self.inside.rules.items c.self.inside.readers.items c.self.invariant
                c.args.name c.args.interval c.args.self c.self.view_is c.requires.name c.requires.narrow c.requires.row (search rules) c.as_slice-sets.result.now c.as_slice-sets.ensures.value
                _ refl refl c.new.ensures c.new-2.ensures,
          ),
        ),
      ),
    ),
  ),
)

pub returns-in_err-new-clause-work : goal.returns-in_err-new-clause-work
returns-in_err-new-clause-work g c = λ thrifty.
    enter_work c.self.inside.plan c.self.inside.full c.self.inside.entered.items c.self.inside.names.items c.self.inside.rules.items c.self.inside.readers.items c.self.invariant
    c.args.name c.args.interval c.args.self c.self.view_is c.requires.name c.requires.narrow c.requires.row (search rules) c.as_slice-sets.result.now c.as_slice-sets.ensures.value
    c.args.steps.now c.enter.new.steps c.in_err-new.ensures.cost

pub returns-in_err-keep-clause-work : goal.returns-in_err-keep-clause-work
returns-in_err-keep-clause-work g c = λ thrifty.
    enter_work c.self.inside.plan c.self.inside.full c.self.inside.entered.items c.self.inside.names.items c.self.inside.rules.items c.self.inside.readers.items c.self.invariant
    c.args.name c.args.interval c.args.self c.self.view_is c.requires.name c.requires.narrow c.requires.row (search rules) c.as_slice-sets.result.now c.as_slice-sets.ensures.value
    c.args.steps.now c.enter.new.steps c.in_ok-new.ensures.cost

pub into_change-requires : goal.into_change-requires
into_change-requires g c =
    left_names c.self.inside.plan c.self.inside.full c.self.inside.entered.items c.self.inside.names.items c.self.inside.rules.items c.self.inside.readers.items c.self.invariant
    c.args.name c.args.interval c.args.self c.self.view_is c.requires.name c.requires.narrow c.requires.row (search rules) c.as_slice-sets.result.now c.as_slice-sets.ensures.value
    c.in_ok-own.own c.in_ok-new.new c.in_ok-own.ensures c.in_ok-new.ensures.new c.enter.new.round c.in_ok-new.ensures.ended

pub returns-in_err-change-clause-work : goal.returns-in_err-change-clause-work
returns-in_err-change-clause-work g c = λ thrifty.
    enter_work c.self.inside.plan c.self.inside.full c.self.inside.entered.items c.self.inside.names.items c.self.inside.rules.items c.self.inside.readers.items c.self.invariant
    c.args.name c.args.interval c.args.self c.self.view_is c.requires.name c.requires.narrow c.requires.row (search rules) c.as_slice-sets.result.now c.as_slice-sets.ensures.value
    c.args.steps.now c.enter.new.steps c.in_ok-new.ensures.cost

pub invariant_of-engine : goal.invariant_of-engine
invariant_of-engine g c =
    left_stands c.self.inside.plan c.self.inside.full c.self.inside.entered.items c.self.inside.names.items c.self.inside.rules.items c.self.inside.readers.items c.self.invariant
    c.args.name c.args.interval c.args.self c.self.view_is c.requires.name c.requires.narrow c.requires.row (search rules) c.as_slice-sets.result.now c.as_slice-sets.ensures.value
    c.in_ok-own.own c.in_ok-new.new c.in_ok-own.ensures c.in_ok-new.ensures.new c.enter.new.round c.in_ok-new.ensures.ended c.keep.new.entered.items c.in_ok-keep.ensures

pub returns-clause-content : goal.returns-clause-content
returns-clause-content g c =
    left_content c.self.inside.plan c.self.inside.full c.self.inside.entered.items c.self.inside.names.items c.self.inside.rules.items c.self.inside.readers.items c.self.invariant
    c.args.name c.args.interval c.args.self c.self.view_is c.requires.name c.requires.narrow c.requires.row (search rules) c.as_slice-sets.result.now c.as_slice-sets.ensures.value
    c.in_ok-own.own c.in_ok-new.new c.in_ok-own.ensures c.in_ok-new.ensures.new c.enter.new.round c.in_ok-new.ensures.ended c.keep.new.entered.items c.in_ok-keep.ensures

pub returns-clause-change : goal.returns-clause-change
returns-clause-change g c =
    left_change c.self.inside.plan c.self.inside.full c.self.inside.entered.items c.self.inside.names.items c.self.inside.rules.items c.self.inside.readers.items c.self.invariant
    c.args.name c.args.interval c.args.self c.self.view_is c.requires.name c.requires.narrow c.requires.row (search rules) c.as_slice-sets.result.now c.as_slice-sets.ensures.value
    c.in_ok-own.own c.in_ok-new.new c.in_ok-own.ensures c.in_ok-new.ensures.new c.enter.new.round c.in_ok-new.ensures.ended c.in_ok-change.change c.in_ok-change.ensures

pub returns-clause-work : goal.returns-clause-work
returns-clause-work g c = λ thrifty.
    enter_work c.self.inside.plan c.self.inside.full c.self.inside.entered.items c.self.inside.names.items c.self.inside.rules.items c.self.inside.readers.items c.self.invariant
    c.args.name c.args.interval c.args.self c.self.view_is c.requires.name c.requires.narrow c.requires.row (search rules) c.as_slice-sets.result.now c.as_slice-sets.ensures.value
    c.args.steps.now c.enter.new.steps c.in_ok-new.ensures.cost
