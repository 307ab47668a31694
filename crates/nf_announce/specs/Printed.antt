-- What is printed without a plan: signed intervals with their names and keys.
use Rattle.std.specs.Prelude.{◌≡◌, ℕ, not, List, ◌++◌, length, map, filter, flat_map, All, IsTrue}
use Rattle.std.specs.List.Sorted.{IsStrictlySortedBy}
use Rattle.nf_core.specs.Texts.{text_cmp}
use Rattle.nf_core.specs.Identifiers.{is_identifier}
use Rattle.nf_announce.specs.Announcements.{Announcement, data_text, in_order, signed_line, plus, minus}
use Rattle.nf_announce.specs.declared.printed.Printed.{Printed}

-- what can be printed: a name and keys that are identifiers, the keys ascending, and a cell for each of them
pub record IsPrintable (item : Printed) : Type 0 where
  pub name : IsTrue (is_identifier item.name)
  pub keys : All (λ key. IsTrue (is_identifier key)) item.keys
  pub ascending : IsStrictlySortedBy text_cmp item.keys
  pub each : length item.row ≡ length item.keys

-- the announcement of an interval with its name and its keys
abbrev pub printed : Printed → Announcement
printed item = record {
  name = item.name;
  start = item.start;
  stop = item.stop;
  rest = data_text item.keys item.row;
}

-- the lines of some items, in order, each with the sign
abbrev pub lines_of_items : ℕ → List Printed → List ℕ
lines_of_items sign items = flat_map (signed_line sign) (in_order (map printed items))

-- the lines of all items, equal ones as often as they stand: those that are withdrawn, and then those that are added
unfoldable pub printed_text : List Printed → List ℕ
printed_text items =
    lines_of_items minus (filter (λ (item : Printed). not item.added) items)
    ++ lines_of_items plus (filter (λ (item : Printed). item.added) items)
