use Rattle.std.proofs.Common.{◌+◌, None, Some, arith, refl, sym}
use Rattle.std.proofs.lemmas.Option.{slice_get_read}
use Rattle.nf_core.specs.declared.trees.Module.{Module}
use Rattle.nf_modules.specs.inner.Places.{number_in, has_no_number}
use Rattle.nf_modules.proofs.ReadingLemmas.{turn, found_before}
use Rattle.nf_modules.proofs.reached.missing_import.Goals as goal

pub returns-in-Some : goal.returns-in-Some
returns-in-Some c =
    sym (found_before (has_no_number (number_in c.args.places.now)) (λ (m : Module). m.imports) c.args.reached.now c.args.modules.now (c.loop-place.place + 1) c.in-Some.name.now
    (turn (has_no_number (number_in c.args.places.now)) (λ (m : Module). m.imports) c.args.reached.now c.args.modules.now c.loop-place.place c.index-modules-place.result (Some c.in-Some.name.now) c.requires
    (slice_get_read c.args.modules.now _ c.loop-place.place c.index-modules-place.result refl (omega arith) c.index-modules-place.is) c.loop-place.invariant c.in-Some.ensures))

pub loop-place-preserved : goal.loop-place-preserved
loop-place-preserved c =
    turn (has_no_number (number_in c.args.places.now)) (λ (m : Module). m.imports) c.args.reached.now c.args.modules.now c.loop-place.place c.index-modules-place.result None c.requires
    (slice_get_read c.args.modules.now _ c.loop-place.place c.index-modules-place.result refl (omega arith) c.index-modules-place.is) c.loop-place.invariant c.in_default.ensures
