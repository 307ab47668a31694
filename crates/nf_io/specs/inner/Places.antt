-- Places in the map of the files, as the shelf without failures keeps them.
use Rattle.std.specs.Prelude.{ℕ, ◌<◌, ◌≤◌, IfSome, slice_get, List, [], length, Option, None, Some, unwrap_or}
use Rattle.nf_io.specs.Files.{Files}

-- the name and the bytes at this place of a map, and nothing of either where there is no such place
abbrev pub entry_at : Files → Option ℕ → List ℕ × List ℕ
entry_at files None = ([], [])
entry_at files (Some place) = unwrap_or (slice_get files place) ([], [])

-- a shelf stands in the file at this place: a read may give a byte, and no more was read than is there
pub record IsReading (files : Files) (most : ℕ) (place from : Option ℕ) : Type 0 where
  pub some : 0 < most
  pub within : IfSome from (λ start. start ≤ length (entry_at files place).1)
