use Rattle.std.proofs.Common.{rules}
use Rattle.nfer_cli.proofs.FileLemmas.{stopped}
use Rattle.nfer_cli.proofs.reading.read_rest.Goals as goal

pub returns-clause-end : goal.returns-clause-end
returns-clause-end g c = λ whole h. c.in_ok-read_within.ensures.end (search rules) whole (c.pieces.invariant.reads whole h)

pub returns-in_err-read_within-clause-unread : goal.returns-in_err-read_within-clause-unread
returns-in_err-read_within-clause-unread g c = λ e whole h. stopped _ _ _ _ _ (c.pieces.invariant.reads whole h) c.pieces.invariant.within (c.read_within.ensures.unread (search rules))
