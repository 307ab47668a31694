use Rattle.std.proofs.Common.{◌≡◌, map, length}
use Rattle.nf_lex.specs.Words.{is_among}
use Rattle.nf_cparse.proofs.names.is_among.Given as goal

abbrev pub invariant-entries : goal.invariant-entries
invariant-entries l = is_among (map (λ entry. entry.now) l.table) l.word ≡ is_among (map (λ entry. entry.now) l.initial.table) l.word

abbrev pub decreases-entries : goal.decreases-entries
decreases-entries l = length l.table
