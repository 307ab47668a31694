-- Commands as the code reads them from their words.
use Rattle.std.specs.Prelude.{ℕ, suc, ◌-◌, ◌<◌, ◌^◌, ◌&&◌, Bool, List, [], ◌∷◌, length, take, nat_lt, bytes_eq, codes, decimal, Option, Some, None, option_map, ⊤, if◌then◌else◌}
use Rattle.std.specs.List.{slice_get}
use Rattle.std.specs.Str.Parse.{digits_value}
use Rattle.nfer_cli.specs.Words.{Options, Asked, Check, Drill, Follow, Infer, most_drill_lines, no_options, check_options, follow_options, are_file_words, is_trace_word, file_words, specification_words}
use Rattle.nfer_cli.specs.inner.Options.{given_by, taken}
use Rattle.nfer_cli.specs.declared.command.Command.{Command}
use Rattle.nfer_cli.specs.declared.command.Command.TheVariants as command

-- a command asks for what its words say
abbrev pub asked_by : Command → Asked
asked_by (command.Check options files) = Check (given_by options) files.now
asked_by (command.Follow options files) = Follow (given_by options) files.now
asked_by (command.Infer options files trace) = Infer (given_by options) files.now trace.now
asked_by (command.Drill lines) = Drill lines

-- what options and file words ask of `check`
abbrev pub check_of : Option (Options × List (List ℕ)) → Option Asked
check_of None = None
check_of (Some given) = if are_file_words given.1 then Some (Check given.0 given.1) else None

-- what options and file words ask of `follow`
abbrev pub follow_of : Option (Options × List (List ℕ)) → Option Asked
follow_of None = None
follow_of (Some given) = if are_file_words given.1 then Some (Follow given.0 given.1) else None

-- what options, file words and the word of a trace behind them, where there is one, ask of `infer`
abbrev pub infer_with : Options → List (List ℕ) → Option (List ℕ) → Option Asked
infer_with options files None = None
infer_with options files (Some trace) =
    if are_file_words files && is_trace_word trace then Some (Infer options files trace) else None

-- what options and the words behind them ask of `infer`, the last of which is that of the trace
abbrev pub infer_of : Option (Options × List (List ℕ)) → Option Asked
infer_of None = None
infer_of (Some given) =
    let last = length given.1 - 1 in infer_with given.0 (take last given.1) (slice_get given.1 last)

-- a word is the canonical decimal of a number from 1 to 1,000,000
abbrev pub is_count_word : List ℕ → ℕ → Bool
is_count_word word lines =
    nat_lt 0 lines && nat_lt lines (suc most_drill_lines) && bytes_eq (decimal lines) word

-- the number from 1 to 1,000,000 that a word is the canonical decimal of
abbrev pub count_of : List ℕ → Option ℕ
count_of word =
    let lines = digits_value 10 word in if is_count_word word lines then Some lines else None

-- what words ask of `drill`: one word, the number of the lines
abbrev pub drill_of : List (List ℕ) → Option Asked
drill_of [] = None
drill_of (word ∷ []) = option_map Drill (count_of word)
drill_of (word ∷ next ∷ words) = None

-- what some words ask for, by the command that stands first
unfoldable pub asked : List (List ℕ) → Option Asked
asked [] = None
asked (name ∷ words) =
    if bytes_eq name (codes "check") then check_of (taken check_options no_options words)
    else (if bytes_eq name (codes "follow") then follow_of (taken follow_options no_options words)
    else (if bytes_eq name (codes "infer") then infer_of (taken follow_options no_options words)
    else (if bytes_eq name (codes "drill") then drill_of words
    else None)))

-- the file words of a command, and none without one
abbrev pub names_by : Option Command → List (List ℕ)
names_by command = file_words (option_map asked_by command)

-- what is asked names one file of a specification or more, and fewer than 2^32, unless it is `drill`, which names none
abbrev pub NamesFiles : Option Asked → Type 0
NamesFiles None = ⊤
NamesFiles (Some (Drill lines)) = ⊤
NamesFiles (Some question) =
    let files = specification_words (Some question) in (0 < length files) × (length files < 2 ^ 32)
