-- Named files, and the bytes of each.
use Rattle.std.specs.Prelude.{ℕ, List, [], Option, option_map, unwrap_or, is_some, find, bytes_eq, if◌then◌else◌}

-- a map from names to bytes, as a list of names with their bytes; the first entry of a name counts
abbrev pub Files : Type 0
Files = List (List ℕ × List ℕ)

-- the bytes of the file of this name, where there is one
abbrev pub file_of : Files → List ℕ → Option (List ℕ)
file_of files name = option_map (λ entry. entry.1) (find (λ entry. bytes_eq entry.0 name) files)

-- the bytes of the file of this name, and none where there is no such file
abbrev pub bytes_of : Files → List ℕ → List ℕ
bytes_of files name = unwrap_or (file_of files name) []

-- the name itself where there is a file of this name, else the empty text
abbrev pub asked_of : Files → List ℕ → List ℕ
asked_of files name = if is_some (file_of files name) then name else []
