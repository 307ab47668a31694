use Rattle.std.proofs.Common.{◌≡◌, map, length}
use Rattle.nf_parse.specs.State.{sym_in}
use Rattle.nf_parse.proofs.token_symbols.sym_in.Given as goal

abbrev pub invariant-entries : goal.invariant-entries
invariant-entries l =
    sym_in (map (λ entry. (entry.0.now, entry.1)) l.table) l.word
    ≡ sym_in (map (λ entry. (entry.0.now, entry.1)) l.initial.table) l.word

abbrev pub decreases-entries : goal.decreases-entries
decreases-entries l = length l.table
