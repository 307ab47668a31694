use Rattle.std.proofs.Common.{arith}
use Rattle.std.proofs.lemmas.List.{length-take-le}
use Rattle.nf_io.proofs.PieceLemmas.{take-append_copied}
use Rattle.nf_io.proofs.copied.copy_after.Goals as goal

pub returns-clause-bytes : goal.returns-clause-bytes
returns-clause-bytes c =
    take-append_copied _ c.copy_some.new.places _ c.args.bytes.now c.args.used c.copy_some.result
    (length-take-le c.args.used c.args.places.now c.requires)
    (omega arith)
    c.copy_some.ensures.bytes
