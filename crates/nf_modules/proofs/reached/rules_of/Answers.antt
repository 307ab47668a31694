use Rattle.std.proofs.Common.{◌++◌, List, get_or, arith, sym, ap, ◌∙◌, cond, [], false, refl}
use Rattle.std.proofs.lemmas.Option.{slice_get_read}
use Rattle.nf_core.specs.Trees.{Rule}
use Rattle.nf_core.specs.declared.trees.Module.{Module}
use Rattle.nf_modules.proofs.ReadingLemmas.{read_more}
use Rattle.nf_modules.proofs.reached.rules_of.Goals as goal

pub loop-place-preserved : goal.loop-place-preserved
loop-place-preserved c =
    c.in_ok-add_module.ensures
    ∙ ap (λ (rules : List Rule). rules ++ cond (get_or c.args.reached.now c.loop-place.place false) c.index-modules-place.result.rules []) c.loop-place.invariant
    ∙ sym (read_more (λ (m : Module). m.rules) c.args.reached.now c.args.modules.now c.loop-place.place c.index-modules-place.result c.requires
    (slice_get_read c.args.modules.now _ c.loop-place.place c.index-modules-place.result refl (omega arith) c.index-modules-place.is))
