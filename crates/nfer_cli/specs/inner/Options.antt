-- Options as the code reads them, one after the other.
use Rattle.std.specs.Prelude.{◌≡◌, ℕ, Bool, true, not, ◌&&◌, List, [], ◌∷◌, bytes_eq, codes, map, Option, Some, None, if◌then◌else◌}
use Rattle.std.specs.Option.{is_some, option_copied}
use Rattle.nf_core.specs.Identifiers.{is_identifier}
use Rattle.nfer_cli.specs.Words.{Options, is_among}
use Rattle.nfer_cli.specs.declared.options.CommandOptions.{CommandOptions}
use denote.Ref.{Bor}

-- what the options of the code give
abbrev pub given_by : CommandOptions → Options
given_by options = record { full = options.full; root = option_copied options.root }

-- options and the words behind them, as the code has them
abbrev pub taken_by : CommandOptions × Bor (List (List ℕ)) → Options × List (List ℕ)
taken_by taken = (given_by taken.0, taken.1.now)

-- words as the code has them
abbrev pub words_by : List (Bor (List ℕ)) → List (List ℕ)
words_by words = map (λ word. word.now) words

-- whether a word may be the module that `--module` names, behind some options
abbrev pub names_root : Options → List ℕ → Bool
names_root options name = not (is_some options.root) && is_identifier name

-- what options give with those of these names that stand in front of some words, and the words behind them;
-- nothing where one is given twice or its word isn't one
unfoldable pub taken : List (List ℕ) → Options → List (List ℕ) → Option (Options × List (List ℕ))
taken names options [] = Some (options, [])
taken names options (word ∷ []) =
    if not (is_among word names) then Some (options, word ∷ [])
    else (if bytes_eq word (codes "--full") && not options.full
    then Some (record options { full = true }, [])
    else None)
taken names options (word ∷ next ∷ words) =
    if not (is_among word names) then Some (options, word ∷ next ∷ words)
    else (if bytes_eq word (codes "--full") then
    (if options.full then None else taken names (record options { full = true }) (next ∷ words))
    else (if bytes_eq word (codes "--module") && names_root options next then
    taken names (record options { root = Some next }) words
    else None))

-- what is taken behind options that were taken before
abbrev pub taken_behind : List (List ℕ) → Option (Options × List (List ℕ))
    → Option (Options × List (List ℕ))
taken_behind names None = None
taken_behind names (Some before) = taken names before.0 before.1

-- options and the words behind them are those with one option more, which is the first of some words: nothing
-- where it is refused
abbrev pub AreWithOption : Options → List ℕ → List (List ℕ)
    → Option (Options × List (List ℕ)) → Type 0
AreWithOption before word words after =
    (names : List (List ℕ)) → is_among word names ≡ true
    → taken names before (word ∷ words) ≡ taken_behind names after
