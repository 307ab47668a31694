-- What a shelf and a sink tell of themselves: all that a contract sees of one, whatever it is made of.
use Rattle.std.specs.Prelude.{ℕ, Bool, List, Option}
use Rattle.nf_io.specs.Files.{Files}

-- what a shelf tells: its files, the name asked for last and the bytes left of the current file, each where told; whether its last call failed; and its faults so far
pub record ShelfTells : Type 0 where
  pub files : Option Files
  pub asked : Option (List ℕ)
  pub rest : Option (List ℕ)
  pub failed : Bool
  pub faults : ℕ

-- what a sink tells: the bytes that it took, where told; and its faults so far
pub record SinkTells : Type 0 where
  pub taken : Option (List ℕ)
  pub faults : ℕ
