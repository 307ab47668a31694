-- Tests of the next word that look at its bytes.
use Rattle.std.specs.Prelude.{ℕ, Bool, false, ◌&&◌, ◌==◌, List, Option, Some, None, bytes_eq}
use denote.Enum.Bare.{sameb}
use Rattle.nf_cparse.specs.contracts.symbol.Sym.{the_type}
use Rattle.nf_cparse.specs.declared.symbol.Sym.TheVariants as sym
use Rattle.nf_cparse.specs.Lexing.{Word}
use Rattle.nf_cparse.specs.Grammar.{literal_value}

-- a literal of this value
abbrev pub is_value : ℕ → Option Word → Bool
is_value n None = false
is_value n (Some word) = sameb the_type word.sym sym.Lit && literal_value word.text == n

-- an identifier with just these bytes
abbrev pub is_name : List ℕ → Option Word → Bool
is_name text None = false
is_name text (Some word) = sameb the_type word.sym sym.Ident && bytes_eq word.text text
