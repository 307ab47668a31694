use Rattle.std.proofs.Common.{◌≡◌, ◌||◌, ◌==◌, length}
use Rattle.std.specs.List.{list_all}
use Rattle.nf_core.specs.Identifiers.{is_digit}
use Rattle.nf_cast.specs.Names.{is_small}
use Rattle.nf_cparse.proofs.names.are_small_inner.Given as goal

abbrev pub invariant-bytes : goal.invariant-bytes
invariant-bytes l =
    list_all (λ b. is_small b || is_digit b || b == 95) l.bytes ≡ list_all (λ b. is_small b || is_digit b || b == 95) l.initial.bytes

abbrev pub decreases-bytes : goal.decreases-bytes
decreases-bytes l = length l.bytes
