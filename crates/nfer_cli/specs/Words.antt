-- The words of the command line, and what they ask for.
use Rattle.std.specs.Prelude.{◌≡◌, ◌≤◌, ℕ, ◌^◌, Bool, true, false, not, ◌&&◌, ◌||◌, ◌==◌, nat_lt, List, [], ◌∷◌, ◌++◌, length, bytes_eq, codes, decimal, Option, Some, None, slice_index_or}
use Rattle.std.specs.List.{list_all, list_any}
use Rattle.nf_core.specs.Identifiers.{is_identifier}
use Rattle.nfer_cli.specs.declared.line_count.TheConstants.{MOST_DRILL_LINES}

-- what the options of a command give: whether every candidate is held, and the module that is selected with those
-- that it reaches, where one is named
pub record Options : Type 0 where
  pub full : Bool
  pub root : Option (List ℕ)

-- what no options give
abbrev pub no_options : Options
no_options = record { full = false; root = None }

-- a word is one of some words
abbrev pub is_among : List ℕ → List (List ℕ) → Bool
is_among word words = list_any (λ other. bytes_eq other word) words

-- words that are options as they are spelled, in any order, each at most once and each among these names, and
-- what they give; `--module` takes the word behind it, which is an identifier
pub data Gives (names : List (List ℕ)) : List (List ℕ) → Options → Type 0 where
  none : Gives names [] no_options
  full : {words : List (List ℕ)} {options : Options}
      → is_among (codes "--full") names ≡ true → options.full ≡ false → Gives names words options
      → Gives names (codes "--full" ∷ words) (record options { full = true })
  root : {words : List (List ℕ)} {options : Options} {name : List ℕ}
      → is_among (codes "--module") names ≡ true → options.root ≡ None → is_identifier name ≡ true
      → Gives names words options
      → Gives names (codes "--module" ∷ name ∷ words) (record options { root = Some name })

-- the options of `check`
abbrev pub check_options : List (List ℕ)
check_options = codes "--module" ∷ []

-- the options of `follow` and of `infer`
abbrev pub follow_options : List (List ℕ)
follow_options = codes "--full" ∷ codes "--module" ∷ []

-- a file word doesn't begin with `-`
abbrev pub is_file_word : List ℕ → Bool
is_file_word [] = true
is_file_word (byte ∷ bytes) = not (byte == 45)

-- one or more file words, fewer than 2^32
abbrev pub are_file_words : List (List ℕ) → Bool
are_file_words files =
    nat_lt 0 (length files) && nat_lt (length files) (2 ^ 32) && list_all is_file_word files

-- the word under which a command reads standard input
abbrev pub standard_input : List ℕ
standard_input = codes "-"

-- a word that names a trace is a file word, or `-`
abbrev pub is_trace_word : List ℕ → Bool
is_trace_word word = bytes_eq word standard_input || is_file_word word

-- a command with what its options give, the words of the specification's files, and the word of the trace where
-- it is given; of `drill` the number of its lines
pub data Asked : Type 0 where
  Check : Options → List (List ℕ) → Asked
  Follow : Options → List (List ℕ) → Asked
  Infer : Options → List (List ℕ) → List ℕ → Asked
  Drill : ℕ → Asked

-- the most lines of a made trace, 1,000,000
abbrev pub most_drill_lines : ℕ
most_drill_lines = MOST_DRILL_LINES

-- what words ask for: they are the command, then its options, then file words, and of `infer` the word of the
-- trace behind them; of `drill` they are the command and a canonical decimal from 1 to 1,000,000
pub data Asks : List (List ℕ) → Asked → Type 0 where
  check : {given files : List (List ℕ)} {options : Options}
      → Gives check_options given options → are_file_words files ≡ true
      → Asks (codes "check" ∷ given ++ files) (Check options files)
  follow : {given files : List (List ℕ)} {options : Options}
      → Gives follow_options given options → are_file_words files ≡ true
      → Asks (codes "follow" ∷ given ++ files) (Follow options files)
  infer : {given files : List (List ℕ)} {trace : List ℕ} {options : Options}
      → Gives follow_options given options → are_file_words files ≡ true
      → is_trace_word trace ≡ true
      → Asks (codes "infer" ∷ given ++ (files ++ trace ∷ [])) (Infer options files trace)
  drill : {lines : ℕ} → 1 ≤ lines → lines ≤ most_drill_lines
      → Asks (codes "drill" ∷ decimal lines ∷ []) (Drill lines)

-- words ask for nothing
abbrev pub AsksNothing : List (List ℕ) → Type 0
AsksNothing words = (question : Asked) → ¬ Asks words question

-- what words ask for, where they ask for anything
abbrev pub AsksFor : List (List ℕ) → Option Asked → Type 0
AsksFor words None = AsksNothing words
AsksFor words (Some question) = Asks words question

-- the word of the trace that a command reads, where it reads one: `follow` reads standard input
abbrev pub trace_of : Asked → Option (List ℕ)
trace_of (Check options files) = None
trace_of (Follow options files) = Some standard_input
trace_of (Infer options files trace) = Some trace
trace_of (Drill lines) = None

-- the words of a specification's files, in the order in which they are read
abbrev pub specification_words : Option Asked → List (List ℕ)
specification_words None = []
specification_words (Some (Check options files)) = files
specification_words (Some (Follow options files)) = files
specification_words (Some (Infer options files trace)) = files
specification_words (Some (Drill lines)) = []

-- the words of files with that of a trace behind them, where there is one
abbrev pub with_trace : List (List ℕ) → Option (List ℕ) → List (List ℕ)
with_trace files None = files
with_trace files (Some trace) = files ++ trace ∷ []

-- the file words of a command in the order in which the files are read: a trace is read behind the specification
abbrev pub file_words : Option Asked → List (List ℕ)
file_words None = []
file_words (Some question) = with_trace (specification_words (Some question)) (trace_of question)

-- the word at a place of some words, counted from 0, and the empty word past them
abbrev pub word_at : List (List ℕ) → ℕ → List ℕ
word_at words place = slice_index_or words place []
