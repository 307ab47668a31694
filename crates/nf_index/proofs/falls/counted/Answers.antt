use Rattle.std.proofs.Common.{arith}
use Rattle.nf_index.proofs.FallLemmas.{falls_most}
use Rattle.nf_index.proofs.falls.counted.Goals as goal

pub overflow_add-result : goal.overflow_add-result
overflow_add-result c = record { fits = omega (arith, falls_most c.args.begins.now) }
