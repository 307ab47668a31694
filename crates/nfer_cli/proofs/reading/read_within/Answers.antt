use Rattle.std.proofs.Common.{arith, ap, length}
use Rattle.nfer_cli.proofs.FileLemmas.{passed}
use Rattle.nfer_cli.proofs.reading.read_within.Goals as goal

pub returns-then-as_slice-most-clause-too_long : goal.returns-then-as_slice-most-clause-too_long
returns-then-as_slice-most-clause-too_long g c = λ _ whole h.
    passed _ _ _ _ _ (c.in_ok-more.ensures.reads whole h) (omega (arith, ap length c.as_slice.ensures)) (omega (arith, c.in_ok-more.ensures.piece))
