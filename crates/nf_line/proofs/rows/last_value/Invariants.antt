use Rattle.std.proofs.Common.{◌≡◌, None}
use Rattle.std.specs.Option.{option_copied}
use Rattle.nf_line.proofs.LastPairLemmas.{last_from}
use Rattle.nf_line.proofs.rows.last_value.Given as goal

abbrev pub invariant-loop-written : goal.invariant-loop-written
invariant-loop-written l = last_from l.key (option_copied l.last) l.written-iterator ≡ last_from l.key None l.fn.pairs
