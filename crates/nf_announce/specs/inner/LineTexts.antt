-- The line of an announcement with a sign, where there is one, and the sign of an item.
use Rattle.std.specs.Prelude.{ℕ, Bool, true, false, not, List, [], ◌∷◌, ◌++◌, Option, option_to_list}
use Rattle.nf_announce.specs.Announcements.{Announcement, unsigned_line}
use Rattle.nf_announce.specs.declared.printed.Printed.{Printed}

-- the sign, where there is one
abbrev pub sign_text : Option ℕ → List ℕ
sign_text = option_to_list

-- the sign where there is one, the line and LF
abbrev pub line_after : Option ℕ → Announcement → List ℕ
line_after sign a = sign_text sign ++ (unsigned_line a ++ 10 ∷ [])

-- whether an item is added, or whether it is withdrawn
abbrev pub has_sign : Bool → Printed → Bool
has_sign true item = item.added
has_sign false item = not item.added
