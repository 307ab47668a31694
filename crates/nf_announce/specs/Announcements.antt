-- Announcement lines, their order, and the text of a change.
use Rattle.std.specs.Prelude.{ℕ, ℤ, List, [], ◌∷◌, ◌++◌, map, fold, flat_map, filter_map, zip, Option, option_map, codes, slice_index_or, if◌then◌else◌}
use Rattle.std.specs.declared.cmp.Ordering.{Ordering}
use Rattle.std.specs.Ordering.{ordering_then, int_cmp, is_gt}
use Rattle.std.specs.Fmt.{signed_decimal}
use Rattle.nf_core.specs.Texts.{text_cmp}
use Rattle.nf_core.specs.Plan.{Plan, keys_of}
use Rattle.nf_core.specs.declared.values.Value as value
use Rattle.nf_core.specs.declared.values.Value.TheVariants as variant
use Rattle.nf_core.specs.declared.intervals.Named.{Named}
use Rattle.nf_core.specs.declared.intervals.Change.{Change}
use Rattle.nf_model.specs.Changes.{Content, pool_of, heads, named}

-- a truth value as its word, a whole number in canonical decimals, a text as it is
abbrev pub text_of_value : value.Value → List ℕ
text_of_value (variant.Bool b) = if b then codes "true" else codes "false"
text_of_value (variant.Int n) = signed_decimal n
text_of_value (variant.Text t) = t

-- texts with `;` between them
abbrev pub joined : List (List ℕ) → List ℕ
joined [] = []
joined (text ∷ []) = text
joined (text ∷ next ∷ texts) = text ++ 59 ∷ joined (next ∷ texts)

-- the keys of a row that are present, each with its value's text
abbrev pub present : List (List ℕ) → List (Option value.Value) → List (List ℕ × List ℕ)
present keys row =
    filter_map (λ (cell : List ℕ × Option value.Value). option_map (λ v. (cell.0, text_of_value v)) cell.1)
    (zip keys row)

-- the present keys and, after a `|`, their values
abbrev pub data_text : List (List ℕ) → List (Option value.Value) → List ℕ
data_text keys row =
    joined (map (λ (cell : List ℕ × List ℕ). cell.0) (present keys row))
    ++ 124 ∷ joined (map (λ (cell : List ℕ × List ℕ). cell.1) (present keys row))

-- an announcement without its sign: a name, a begin, an end, and the rest of the line
pub record Announcement : Type 0 where
  pub name : List ℕ
  pub start : ℤ
  pub stop : ℤ
  pub rest : List ℕ

-- the announcement of an interval of a name
abbrev pub announcement : Plan → Named → Announcement
announcement plan item = record {
  name = slice_index_or plan.names item.name [];
  start = item.interval.start;
  stop = item.interval.stop;
  rest = data_text (keys_of plan item.name) item.interval.row;
}

-- by name bytes, then by begin and by end as numbers, then by the bytes of the rest
abbrev pub announcement_cmp : Announcement → Announcement → Ordering
announcement_cmp a b =
    ordering_then (text_cmp a.name b.name) (ordering_then (int_cmp a.start b.start)
    (ordering_then (int_cmp a.stop b.stop) (text_cmp a.rest b.rest)))

-- an ordered list with an announcement put behind those that it doesn't come before
abbrev pub placed : Announcement → List Announcement → List Announcement
placed a [] = a ∷ []
placed a (b ∷ bs) = if is_gt (announcement_cmp b a) then a ∷ b ∷ bs else b ∷ placed a bs

-- announcements in their order, equal ones as often as they stand
abbrev pub in_order : List Announcement → List Announcement
in_order items = fold (λ ordered a. placed a ordered) [] items

-- `NAME|begin|end|keys|values`
abbrev pub unsigned_line : Announcement → List ℕ
unsigned_line a =
    a.name ++ 124 ∷ signed_decimal a.start ++ 124 ∷ signed_decimal a.stop ++ 124 ∷ a.rest

-- a sign, the line and LF
abbrev pub signed_line : ℕ → Announcement → List ℕ
signed_line sign a = sign ∷ unsigned_line a ++ 10 ∷ []

-- the signs of what is added and of what is withdrawn, `+` and `-`
abbrev pub plus : ℕ
plus = 43

abbrev pub minus : ℕ
minus = 45

-- the lines of some intervals, in order, each with the sign
abbrev pub lines_of : ℕ → Plan → List Named → List ℕ
lines_of sign plan items = flat_map (signed_line sign) (in_order (map (announcement plan) items))

-- a change as announcement lines: all that is gone with `-`, and then all that comes with `+`
unfoldable pub change_text : Plan → Change → List ℕ
change_text plan change = lines_of minus plan change.gone ++ lines_of plus plan change.come

-- the unsigned lines of all intervals in the pools of heads, in the order of additions
unfoldable pub shown : Content → List (List ℕ)
shown content =
    map unsigned_line (in_order (map (announcement content.plan)
    (flat_map (λ n. named n (pool_of content n)) (heads content.plan))))

-- what `infer` prints of a content: the lines that are shown, each with an LF
unfoldable pub held_text : Content → List ℕ
held_text content = flat_map (λ line. line ++ 10 ∷ []) (shown content)
