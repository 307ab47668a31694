use Rattle.std.proofs.Common.{◌≡◌, map, length, bytes_eq}
use Rattle.std.specs.Map.{lookup}
use Rattle.nf_cparse.proofs.names.symbol_in.Given as goal

abbrev pub invariant-entries : goal.invariant-entries
invariant-entries l =
    lookup (bytes_eq l.word) (map (λ entry. (entry.0.now, entry.1)) l.table)
    ≡ lookup (bytes_eq l.word) (map (λ entry. (entry.0.now, entry.1)) l.initial.table)

abbrev pub decreases-entries : goal.decreases-entries
decreases-entries l = length l.table
