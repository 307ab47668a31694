-- The sources of a specification: its files, in the order of the words.
use Rattle.std.specs.Prelude.{ℕ, List, map}
use Rattle.nf_io.specs.Files.{Files, bytes_of}

-- the bytes of the files with these names
abbrev pub sources_of : Files → List (List ℕ) → List (List ℕ)
sources_of files names = map (bytes_of files) names
