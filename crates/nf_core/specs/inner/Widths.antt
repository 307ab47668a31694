-- Names that are put in by their width: the wide ones, or the others.
use Rattle.std.specs.Prelude.{ℕ, Bool, not, List, filter, if◌then◌else◌}
use Rattle.indexmap.specs.IndexSet.{insert_all}
use Rattle.nf_core.specs.Texts.{text_eq}
use Rattle.nf_core.specs.Identifiers.{is_wide_name}

-- whether a name is as wide as asked
abbrev pub has_width : Bool → List ℕ → Bool
has_width wide name = if wide then is_wide_name name else not (is_wide_name name)

-- names with those of some others that are as wide as asked
abbrev pub with_names : Bool → List (List ℕ) → List (List ℕ) → List (List ℕ)
with_names wide names others = insert_all text_eq names (filter (has_width wide) others)
