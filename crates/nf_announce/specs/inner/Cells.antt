-- The two lists in the data of an announcement, and what a cell adds to one.
use Rattle.std.specs.Prelude.{ℕ, Bool, true, false, List, [], ◌∷◌, flat_map, Option, Some, None}
use Rattle.nf_core.specs.declared.values.Value as value
use Rattle.nf_announce.specs.Announcements.{text_of_value, joined}
use Rattle.nf_announce.specs.declared.data_text.Part.{Part}
use Rattle.nf_announce.specs.declared.data_text.Part.TheVariants as part

-- the key or the value's text of a present cell
abbrev pub part_of : Part → List ℕ × List ℕ → List ℕ
part_of part.Keys cell = cell.0
part_of part.Values cell = cell.1

-- what a cell adds to one of the lists: nothing where it is missing, else its key or value, after a `;` unless it is the first
abbrev pub cell_text : Bool → Part → List ℕ → Option value.Value → List ℕ
cell_text first which key None = []
cell_text true which key (Some v) = part_of which (key, text_of_value v)
cell_text false which key (Some v) = 59 ∷ part_of which (key, text_of_value v)

-- texts joined by `;`, after others unless they are the first
abbrev pub joined_after : Bool → List (List ℕ) → List ℕ
joined_after true texts = joined texts
joined_after false texts = flat_map (λ text. 59 ∷ text) texts
