use Rattle.std.proofs.Common.{arith, ◌<◌}
use Rattle.nf_text.proofs.FieldLemmas.{one_field, more_fields}
use Rattle.nf_text.proofs.field_list.cut.Goals as goal

pub returns-in-Some : goal.returns-in-Some
returns-in-Some c =
    let low : c.from.result < 128 = omega arith in
    let h = c.in-Some.ensures.byte low (λ w o f. f) in
    let k = rw c.from.ensures at h in
    more_fields _ _ _ _ k.0 k.1 k.2

pub returns-in-None : goal.returns-in-None
returns-in-None c =
    let low : c.from.result < 128 = omega arith in
    let h = c.in-None.ensures.byte low (λ w o f. f) in
    one_field _ _ (rw c.from.ensures at h)
