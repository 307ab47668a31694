-- Cutting bytes that come in pieces: what is kept between two pieces, and what one piece gives.
use Rattle.std.specs.Prelude.{◌≡◌, ℕ, ◌+◌, ◌≤◌, ◌<◌, ◌==◌, nat_lt, Bool, true, false, ◌||◌, List, [], ◌∷◌, ◌++◌, length, map, take, All, Option, Some, None, option_to_list, if◌then◌else◌}
use Rattle.std.specs.List.{list_any, before_first}
use Rattle.nf_text.specs.Fields.{fields_of}
use Rattle.nf_line.specs.Lines.{line_limit, without_return}

-- what is kept: the bytes since the last line, and whether a line was too long
pub record Content : Type 0 where
  pub kept : List ℕ
  pub was_long : Bool

-- nothing is kept, and no line was too long
abbrev pub nothing_kept : Content
nothing_kept = record { kept = []; was_long = false }

-- after a line that was too long nothing is kept
abbrev pub after_long : Content
after_long = record { kept = []; was_long = true }

-- the kept bytes are fewer than a line may have, or as many, no LF is among them, and after a line that was too long there are none
pub record IsContent (content : Content) : Type 0 where
  pub within : length content.kept ≤ line_limit
  pub no_feed : list_any (λ byte. byte == 10) content.kept ≡ false
  pub none_after_long : content.was_long ≡ true → content.kept ≡ []

-- a line that can be read: it has at most 65,536 bytes, and no LF is among them
pub record CanBeRead (line : List ℕ) : Type 0 where
  pub within : length line ≤ line_limit
  pub no_feed : list_any (λ byte. byte == 10) line ≡ false

-- whether an LF stands in a piece
abbrev pub has_feed : List ℕ → Bool
has_feed piece = list_any (λ byte. byte == 10) piece

-- the bytes of a piece before its first LF, or all where it has none
abbrev pub before_feed : List ℕ → List ℕ
before_feed piece = before_first (λ byte. byte == 10) piece

-- a line is too long where the kept bytes and as many more are more than 65,536, or where one was before
abbrev pub goes_beyond : Content → ℕ → Bool
goes_beyond content count = content.was_long || nat_lt line_limit (length content.kept + count)

-- a piece makes a line too long where the bytes up to its first LF or its end do
abbrev pub is_long : Content → List ℕ → Bool
is_long content piece = goes_beyond content (length (before_feed piece))

-- how many bytes of a piece are used: those up to its first LF and the LF, or all where it has none
abbrev pub used_of : List ℕ → ℕ
used_of piece = if has_feed piece then length (before_feed piece) + 1 else length piece

-- the line that a piece ends, where an LF stands in it: the kept bytes and the piece up to its first LF, without one CR at their end
abbrev pub line_of : Content → List ℕ → Option (List ℕ)
line_of content piece = if has_feed piece then Some (without_return (content.kept ++ before_feed piece)) else None

-- what is kept after a piece: nothing where it ends a line, else the kept bytes and all of the piece
abbrev pub content_after : Content → List ℕ → Content
content_after content piece = record content { kept = if has_feed piece then [] else content.kept ++ piece }

-- the line that the kept bytes are at the end of all bytes, where any are kept, without one CR at its end
abbrev pub last_line : List ℕ → Option (List ℕ)
last_line [] = None
last_line (byte ∷ bytes) = Some (without_return (byte ∷ bytes))

-- how the bytes used so far, the lines handed out and the kept bytes stand to one another: between their LF bytes the bytes are the pieces of the lines, each of at most 65,536 bytes, and then the kept bytes, and each line is its piece without one CR at its end
pub record HasCut (bytes : List ℕ) (lines : List (List ℕ)) (kept : List ℕ) : Type 0 where
  pub pieces : List (List ℕ)
  pub bytes_are : fields_of 10 bytes ≡ pieces ++ kept ∷ []
  pub lines_are : lines ≡ map without_return pieces
  pub within : All (λ piece. length piece ≤ line_limit) pieces

-- behind some pieces stands one that is longer than a line may be
pub record IsLongBehind (pieces all : List (List ℕ)) : Type 0 where
  pub piece : List ℕ
  pub others : List (List ℕ)
  pub beyond : line_limit < length piece
  pub all_are : all ≡ pieces ++ piece ∷ others

-- what some calls came to: the bytes that they used, the lines that they handed out, and what is kept
pub record Run : Type 0 where
  pub bytes : List ℕ
  pub lines : List (List ℕ)
  pub content : Content

-- before the first call
abbrev pub start : Run
start = record { bytes = []; lines = []; content = nothing_kept }

-- one call more, with a piece
abbrev pub after_call : Run → List ℕ → Run
after_call run piece =
    if is_long run.content piece then record run { content = after_long }
    else record {
      bytes = run.bytes ++ take (used_of piece) piece;
      lines = run.lines ++ option_to_list (line_of run.content piece);
      content = content_after run.content piece;
    }
