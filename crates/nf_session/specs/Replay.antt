-- What is shown after a text of announcement lines was read.
use Rattle.std.specs.Prelude.{◌≡◌, ℕ, Bool, ◌==◌, List, [], ◌∷◌, Option, Some, None, option_and_then, if◌then◌else◌}
use Rattle.std.specs.List.{list_any, IsDistinct}
use Rattle.std.specs.BTreeSet.{insert_key}
use Rattle.std.specs.Set.{remove_key}
use Rattle.nf_core.specs.Texts.{text_cmp, text_eq}
use Rattle.nf_core.specs.Plan.{Plan}
use Rattle.nf_core.specs.Written.{ascending}
use Rattle.nf_announce.specs.Announcements.{shown}
use Rattle.nf_line.specs.Lines.{cut}
use Rattle.nf_line.specs.Trace.{Event}
use Rattle.nf_session.specs.Follow.{content_after, follow_text}

-- `+` adds a line where it is absent, `-` takes one away where it is present, and everything else is undefined
abbrev pub replayed_line : List (List ℕ) → ℕ → List ℕ → Option (List (List ℕ))
replayed_line lines sign line =
    if list_any (text_eq line) lines
    then (if sign == 45 then Some (remove_key (text_eq line) lines) else None)
    else (if sign == 43 then Some (insert_key text_cmp lines line) else None)

abbrev pub replayed : List (List ℕ) → List ℕ → Option (List (List ℕ))
replayed lines [] = None
replayed lines (sign ∷ line) = replayed_line lines sign line

unfoldable pub replay_from : List (List ℕ) → List (List ℕ) → Option (List (List ℕ))
replay_from lines [] = Some lines
replay_from lines (piece ∷ pieces) =
    option_and_then (λ left. replay_from left pieces) (replayed lines piece)

-- the lines that are left when a text is read from no lines on, ascending; none where that is undefined
abbrev pub replay : List ℕ → Option (List (List ℕ))
replay text = replay_from [] (cut text)

-- reading the announcements of some events back is defined, and leaves exactly the lines that are shown after them,
-- of which none stands twice
pub record IsReplayed (plan : Plan) (full : Bool) (events : List Event) : Type 0 where
  pub defined : replay (follow_text plan full events)
      ≡ Some (ascending (shown (content_after plan full events)))
  pub once : IsDistinct text_eq (shown (content_after plan full events))
