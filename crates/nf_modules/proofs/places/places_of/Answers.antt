use Rattle.std.proofs.Common.{arith}
use Rattle.nf_modules.specs.inner.Places.{number_in}
use Rattle.nf_modules.proofs.ModulePlaceLemmas.{failed, refused_of_all}
use Rattle.nf_modules.proofs.places.places_of.Goals as goal

pub returns-in_err-add_module-clause-err : goal.returns-in_err-add_module-clause-err
returns-in_err-add_module-clause-err c =
    failed _ c.from_residual.result c.in_err-add_module.field-0.0 c.from_residual.ensures.1 (refused_of_all (number_in c.loop-place.places) c.args.modules.now c.loop-place.place c.index-modules-place.result c.in_err-add_module.field-0.0 (omega arith) c.index-modules-place.is c.loop-place.invariant c.in_err-add_module.ensures.err)
