use Rattle.std.proofs.Common.{◌^◌, ◌<◌, arith, rules}
use Rattle.nf_text.proofs.NumeralLemmas.{within_digits}
use Rattle.nf_text.proofs.digits.number_of.Goals as goal

pub overflow_mul-number : goal.overflow_mul-number
overflow_mul-number c =
    let below : c.loop-byte.number < 10 ^ 18 = within_digits c.loop-byte.number c.loop-byte.byte-index (omega (arith, c.requires, c.loop-byte-test.true)) c.loop-byte.invariant.below in search (rules, below)

pub overflow_add-number : goal.overflow_add-number
overflow_add-number c =
    let below : c.loop-byte.number < 10 ^ 18 = within_digits c.loop-byte.number c.loop-byte.byte-index (omega (arith, c.requires, c.loop-byte-test.true)) c.loop-byte.invariant.below in search (rules, below)
