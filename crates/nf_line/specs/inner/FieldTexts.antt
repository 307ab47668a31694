-- The fields of a line as the code has them.
use Rattle.std.specs.Prelude.{ℕ, Bool, true, false, List, [], ◌∷◌, Option, Some, None}
use Rattle.std.specs.Borrow.{Bor}
use Rattle.std.specs.List.{list_any}
use Rattle.nf_line.specs.Lines.{is_empty}
use Rattle.nf_line.specs.Line.{Parts}
use Rattle.nf_line.specs.declared.fields.Fields as fields

-- the text of an end, which is that of the begin where there is none of its own
abbrev pub stop_text : List ℕ → Option (Bor (List ℕ)) → List ℕ
stop_text start None = start
stop_text start (Some stop) = stop.now

-- the parts that fields are
abbrev pub parts_in : fields.Fields → Parts
parts_in fields = record {
  name = fields.name.now;
  start = fields.start.now;
  stop = stop_text fields.start.now fields.stop;
  keys = fields.keys.now;
  values = fields.values.now;
}

-- a line has the fault Fields where it is in no form, or its name is empty
abbrev pub lacks_fields : Option Parts → Bool
lacks_fields None = true
lacks_fields (Some parts) = is_empty parts.name

-- whether one of some parts is empty; where other bytes stand before the first one, that isn't
abbrev pub has_empty : Bool → List (List ℕ) → Bool
has_empty true parts = list_any is_empty parts
has_empty false [] = false
has_empty false (part ∷ parts) = list_any is_empty parts
