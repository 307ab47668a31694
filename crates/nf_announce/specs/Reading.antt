-- What an announcement line announces.
use Rattle.std.specs.Prelude.{◌≡◌, ℕ, ◌<◌, Bool, [], ◌∷◌, ◌++◌, List, length, IsTrue, Option, Some, ⊤, if◌then◌else◌}
use Rattle.std.specs.Str.{is_utf8}
use Rattle.nf_core.specs.Plan.{Plan, is_head, keys_of}
use Rattle.nf_core.specs.declared.values.Value as value
use Rattle.nf_core.specs.declared.values.Value.TheVariants as variant
use Rattle.nf_model.specs.Members.{IsInTime}
use Rattle.nf_model.specs.ProperRows.{IsProper}
use Rattle.nf_announce.specs.Announcements.{announcement, signed_line, plus, minus}
use Rattle.nf_announce.specs.declared.read_lines.Signed.{Signed}

-- the sign of what is added, and of what is withdrawn
abbrev pub sign_of : Bool → ℕ
sign_of added = if added then plus else minus

-- a cell's text is UTF-8, where it has one
abbrev pub HasTexts : Option value.Value → Type 0
HasTexts (Some (variant.Text text)) = IsTrue (is_utf8 text)
HasTexts other = ⊤

-- a line, without its LF, announces an interval of a head of the plan: the interval is one that a trace can give the head, and the line is what is printed of it, and is text
pub record Announces (plan : Plan) (line : List ℕ) (signed : Signed) : Type 0 where
  pub name : signed.item.name < length plan.names
  pub head : IsTrue (is_head plan signed.item.name)
  pub proper : IsProper (keys_of plan signed.item.name) signed.item.interval
  pub in_time : IsInTime signed.item.interval
  pub text : IsTrue (is_utf8 line)
  pub line_is : line ++ 10 ∷ [] ≡ signed_line (sign_of signed.added) (announcement plan signed.item)
