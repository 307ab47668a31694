-- What a call of `next_line` answers and leaves.
use Rattle.std.specs.Prelude.{◌≡◌, ℕ, List, Result, Ok, Err}
use Rattle.std.specs.Option.{option_copied}
use Rattle.nf_line.specs.Cutting.{Content, after_long, used_of, line_of, content_after}
use Rattle.nf_line.specs.declared.taken.Taken.{Taken}
use Rattle.nf_line.specs.declared.fault.CutFault.{CutFault}
use Rattle.nf_line.specs.declared.fault.CutFault.TheVariants as fault

-- a piece was taken: the bytes up to its first LF were used, or all, and the line that it ended was handed out
pub record Takes (before : Content) (piece : List ℕ) (taken : Taken) : Type 0 where
  pub used : taken.used ≡ used_of piece
  pub line : option_copied taken.line ≡ line_of before piece

-- what is kept after a call: what its piece left, nothing after a line that was too long, and the same as before where memory was wanted
abbrev pub content_left : Content → List ℕ → Result Taken CutFault → Content
content_left before piece (Ok taken) = content_after before piece
content_left before piece (Err fault.Long) = after_long
content_left before piece (Err fault.NoMemory) = before
