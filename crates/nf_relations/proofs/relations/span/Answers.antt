use Rattle.std.proofs.Common.{◌≡◌, arith, to_z, of_z, w64, refl}
use Rattle.std.proofs.lemmas.Grind.{common_steps}
use Rattle.nf_core.specs.Relations.{span, int_min, int_max}
use Rattle.nf_relations.proofs.relations.span.Goals as goal

pub returns-in-Overlap : goal.returns-in-Overlap
unfolding span
returns-in-Overlap c =
    let low : to_z w64 (of_z w64 c.min-in-Overlap.result) ≡ int_min c.args.s1 c.args.s2 = grind (arith, common_steps) in
    let high : to_z w64 (of_z w64 c.max-in-Overlap.result) ≡ int_max c.args.e1 c.args.e2 = grind (arith, common_steps) in
    rw (c.in-Overlap.is, low, high) refl

pub returns-in-Slice : goal.returns-in-Slice
unfolding span
returns-in-Slice c =
    let high : to_z w64 (of_z w64 c.max-in-Slice.result) ≡ int_max c.args.s1 c.args.s2 = grind (arith, common_steps) in
    let low : to_z w64 (of_z w64 c.min-in-Slice.result) ≡ int_min c.args.e1 c.args.e2 = grind (arith, common_steps) in
    rw (c.in-Slice.is, low, high) refl
