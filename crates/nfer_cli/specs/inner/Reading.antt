-- How far a file was read.
use Rattle.std.specs.Prelude.{◌≡◌, ℕ, ◌+◌, ◌<◌, ◌≤◌, List, [], ◌++◌, length, drop, Bool, true, false, Option, Some, IfSome, Result, Err}
use Rattle.nf_io.specs.Files.{asked_of, bytes_of}
use Rattle.nf_io.specs.Tells.{ShelfTells}
use Rattle.nf_session.specs.Sessions.{piece_limit}
use Rattle.nfer_cli.specs.Answers.{StandsAtEnd, StandsPastIn, StandsShort}
use Rattle.nfer_cli.specs.declared.reading.Unread.{Unread}
use Rattle.nfer_cli.specs.declared.reading.Unread.TheVariants as why

-- these bytes were read of a whole file, and what is left is told
pub record HasRead (whole bytes : List ℕ) (rest : Option (List ℕ)) : Type 0 where
  pub left : List ℕ
  pub told : rest ≡ Some left
  pub split : whole ≡ bytes ++ left

-- a whole file was read to its end
pub record HasEnded (whole bytes : List ℕ) (rest : Option (List ℕ)) : Type 0 where
  pub told : rest ≡ Some []
  pub all : bytes ≡ whole

-- at most some bytes of a whole file were read
pub record HasStopped (most : ℕ) (whole : List ℕ) (rest : Option (List ℕ)) : Type 0 where
  pub read : ℕ
  pub within : read ≤ most
  pub told : rest ≡ Some (drop read whole)

-- more than some bytes of a whole file were read, and at most one piece past them
pub record HasPassed (most piece : ℕ) (whole : List ℕ) (rest : Option (List ℕ)) : Type 0 where
  pub read : ℕ
  pub past : most < length whole
  pub more : most < read
  pub within : read ≤ most + piece
  pub told : rest ≡ Some (drop read whole)

-- whether a file couldn't be read
abbrev pub is_unreadable : {A : Type 0} → Result A Unread → Bool
is_unreadable (Err why.Unreadable) = true
is_unreadable other = false

-- what was read of a whole file before is read of it with what was read since
abbrev pub ReadsOn : ShelfTells → List ℕ → ShelfTells → List ℕ → Type 0
ReadsOn before bytes now more =
    (whole : List ℕ) → HasRead whole bytes before.rest → HasRead whole more now.rest

-- what was read of a whole file before is the whole with what was read since
abbrev pub ReadsToEnd : ShelfTells → List ℕ → ShelfTells → List ℕ → Type 0
ReadsToEnd before bytes now more =
    (whole : List ℕ) → HasRead whole bytes before.rest → HasEnded whole more now.rest

-- of a whole file of which some bytes were read before, more than some were read by now
abbrev pub ReadsPast : ℕ → ShelfTells → List ℕ → ShelfTells → Type 0
ReadsPast most before bytes now =
    (whole : List ℕ) → HasRead whole bytes before.rest → HasPassed most piece_limit whole now.rest

-- of a whole file of which some bytes were read before, at most some were read by now
abbrev pub ReadsShort : ℕ → ShelfTells → List ℕ → ShelfTells → Type 0
ReadsShort most before bytes now =
    (whole : List ℕ) → HasRead whole bytes before.rest → HasStopped most whole now.rest

-- where the shelf tells its files, these are the bytes of the one of this name
abbrev pub IsFile : ShelfTells → List ℕ → List ℕ → Type 0
IsFile shelf name bytes = IfSome shelf.files (λ files. bytes ≡ bytes_of files name)

-- where the shelf tells its files, the one of this name has more than some bytes
abbrev pub IsLonger : ShelfTells → List ℕ → ℕ → Type 0
IsLonger shelf name most = IfSome shelf.files (λ files. most < length (bytes_of files name))

-- where the shelf tells its files, this one is asked for now
abbrev pub AsksFor : List ℕ → ShelfTells → ShelfTells → Type 0
AsksFor name before now = IfSome before.files (λ files. now.asked ≡ Some (asked_of files name))

-- where the shelf tells its files, it stands at the end of this one
abbrev pub EndsIn : List ℕ → ShelfTells → ShelfTells → Type 0
EndsIn name before now = IfSome before.files (λ files. StandsAtEnd files name now.asked now.rest)

-- where the shelf tells its files, it stands in this one past some bytes
abbrev pub PassesIn : List ℕ → ℕ → ShelfTells → ShelfTells → Type 0
PassesIn name most before now =
    IfSome before.files (λ files. StandsPastIn files name most now.asked now.rest)

-- where the shelf tells its files, it stands where reading of this one failed
abbrev pub StopsIn : List ℕ → ℕ → ShelfTells → ShelfTells → Type 0
StopsIn name most before now =
    IfSome before.files (λ files. StandsShort files name most now.asked now.rest)
