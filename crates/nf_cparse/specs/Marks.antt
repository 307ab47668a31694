-- The longest mark at the front of bytes.
use Rattle.std.specs.Prelude.{◌≡◌, ℕ, ◌≤◌, true, nat_eq, List, length, Option, Contains}
use Rattle.std.specs.List.{starts_with}
use Rattle.nf_cparse.specs.declared.symbol.Sym.{Sym}
use Rattle.nf_cparse.specs.Symbols.{c_marks}

-- a mark, and what it is to the grammar, if it is a token
abbrev pub Mark : Type 0
Mark = List ℕ × Option Sym

-- bytes begin with this mark of the table, and with no longer one of it
pub record IsLongestMark (bytes : List ℕ) (mark : Mark) : Type 0 where
  pub there : Contains c_marks mark
  pub begins : starts_with nat_eq bytes mark.0 ≡ true
  pub longest : (other : Mark) → Contains c_marks other → starts_with nat_eq bytes other.0 ≡ true → length other.0 ≤ length mark.0
