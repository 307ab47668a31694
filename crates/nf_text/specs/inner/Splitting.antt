-- What a cut text has left.
use Rattle.std.specs.Prelude.{ℕ, List, [], Option, Some, None}
use Rattle.std.specs.Borrow.{Bor}
use Rattle.nf_text.specs.Fields.{fields_of}

-- the fields of a text that is left, if one is
abbrev pub fields_left : ℕ → Option (Bor (List ℕ)) → List (List ℕ)
fields_left mark None = []
fields_left mark (Some text) = fields_of mark text.now
