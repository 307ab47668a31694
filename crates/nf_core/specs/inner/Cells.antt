-- The cells of a row, as they are kept: shared by its copies.
use Rattle.std.specs.Prelude.{List, Option, Some, None, []}

-- what is listed behind a pointer, nothing where there is none
abbrev pub listed : {P : Type 0} {X : Type 0} → (P → List X) → Option P → List X
listed items None = []
listed items (Some pointer) = items pointer
