-- What words ask for, against the command that the code reads from them.
use Rattle.std.proofs.Common.{◌≡◌, ℕ, ◌<◌, refl, sym, ◌∙◌, ap, subst, arith, Bool, true, false, ◌&&◌, ◌==◌, List, [], ◌∷◌, ◌++◌, length, take, ◌-◌, Option, Some, None, ◌⊎◌, inl, inr}
use Rattle.std.specs.Prelude.{bytes_eq, codes, decimal, nat_lt, ◌^◌, ◌↔◌, option_map, if◌then◌else◌}
use Rattle.std.specs.List.{list_all, slice_get}
use Rattle.std.proofs.lemmas.Bool.{ltb-true}
use Rattle.std.proofs.lemmas.List.{append-nil}
use Rattle.std.proofs.lemmas.Slice.Eq.{bytes_eq-Decides}
use Rattle.nf_lemmas.proofs.BoolLemmas.{both}
use Rattle.nfer_cli.specs.Words.{Options, no_options, is_among, check_options, follow_options, is_file_word, are_file_words, is_trace_word, Gives, Asked, Check, Drill, Follow, Infer, Asks, check, drill, follow, infer, AsksNothing, AsksFor}
use Rattle.nfer_cli.specs.inner.Options.{taken}
use Rattle.nfer_cli.specs.inner.Commands.{check_of, count_of, drill_of, follow_of, infer_of, infer_with, asked, NamesFiles}
use Rattle.nfer_cli.proofs.CountLemmas.{IsCount, count_back, count_read}
use Rattle.nfer_cli.proofs.InferWordLemmas.{infer_last, infer_taken, last_behind}
use Rattle.nfer_cli.proofs.TakenOptionLemmas.{none_taken, Taken, taken_given, taken_back, joined_first}

-- a file word is no option
no_option : (word bytes : List ℕ) → is_file_word word ≡ true → bytes_eq (45 ∷ bytes) word ≡ false
no_option [] bytes is = refl
no_option (byte ∷ word) bytes is = let other : (45 == byte) ≡ false = grind arith in rw other refl

no_check_option : (word : List ℕ) → is_file_word word ≡ true → is_among word check_options ≡ false
no_check_option word is = rw (no_option word (codes "-module") is) refl

no_follow_option : (word : List ℕ) → is_file_word word ≡ true → is_among word follow_options ≡ false
no_follow_option word is = rw (no_option word (codes "-full") is, no_option word (codes "-module") is) refl

-- no option is taken where file words stand
none_before : (names : List (List ℕ)) → ((word : List ℕ) → is_file_word word ≡ true → is_among word names ≡ false) → (files behind : List (List ℕ)) → are_file_words files ≡ true
    → (options : Options) → taken names options (files ++ behind) ≡ Some (options, files ++ behind)
none_before names others [] behind are options = absurd cc
none_before names others (file ∷ files) behind are options =
    let each : list_all is_file_word (file ∷ files) ≡ true = (both (nat_lt 0 (length (file ∷ files)) && nat_lt (length (file ∷ files)) (2 ^ 32)) (list_all is_file_word (file ∷ files)) are).1 in
    none_taken names options file (files ++ behind) (others file (both (is_file_word file) (list_all is_file_word files) each).0)

-- options are read back, with the words behind them, of which none is an option in front
read_back : (names given words : List (List ℕ)) (options : Options) → ((before : Options) → taken names before words ≡ Some (before, words)) → Gives names given options
    → taken names no_options (given ++ words) ≡ Some (options, words)
read_back names given words options none gives =
    taken_given names given words no_options options none gives ∙ ap (option_map (λ o. (o, words))) (joined_first options)

-- file words with nothing behind them
files_back : (names given files : List (List ℕ)) (options : Options) → ((word : List ℕ) → is_file_word word ≡ true → is_among word names ≡ false) → Gives names given options → are_file_words files ≡ true
    → taken names no_options (given ++ files) ≡ Some (options, files)
files_back names given files options others gives are =
    read_back names given files options (λ before. subst (λ words. taken names before words ≡ Some (before, words)) (append-nil files) (none_before names others files [] are before)) gives

-- words are read as what they ask for
pub is_asked : (words : List (List ℕ)) (question : Asked) → Asks words question → asked words ≡ Some question
unfolding asked
is_asked words question (check {given} {files} {options} gives are) =
    let back = files_back check_options given files options no_check_option gives are in
    rw (back, are) refl
is_asked words question (follow {given} {files} {options} gives are) =
    let back = files_back follow_options given files options no_follow_option gives are in
    rw (back, are) refl
is_asked words question (infer {given} {files} {trace} {options} gives are names) =
    let behind = files ++ trace ∷ [] in
    let back = read_back follow_options given behind options (none_before follow_options no_follow_option files (trace ∷ []) are) gives in
    ap infer_of back ∙ infer_last options behind files trace refl ∙ infer_taken options files trace (rw (are, names) refl)
is_asked words question (drill {lines} some few) =
    ap (option_map Drill) (count_read (decimal lines) lines (record { some = some; few = few; spelled = refl }))

-- words that options are taken from are these options and the words behind them
record GivenBack (names words : List (List ℕ)) (options : Options) (behind : List (List ℕ)) : Type 0 where
  given : List (List ℕ)
  gives : Gives names given options
  spelled : words ≡ given ++ behind

given_back : (names words : List (List ℕ)) (options : Options) (behind : List (List ℕ)) → taken names no_options words ≡ Some (options, behind) → GivenBack names words options behind
given_back names words options behind from =
    let back : Taken names words no_options options behind = taken_back names words no_options options behind from in
    let read : Some back.options ≡ Some options = sym (joined_first back.options) ∙ back.joins in
    let same : back.options ≡ options = cc in
    record { given = back.given; gives = subst (λ (o : Options). Gives names back.given o) same back.gives; spelled = back.spelled }

-- words ask for what they are read as
check_back : (words : List (List ℕ)) (question : Asked) (read : Option (Options × List (List ℕ))) → taken check_options no_options words ≡ read → check_of read ≡ Some question → Asks (codes "check" ∷ words) question
check_back words question None from is = absurd cc
check_back words question (Some (options, files)) from is = by (are_file_words files) refl is
  where
    by : (b : Bool) → are_file_words files ≡ b → (if b then Some (Check options files) else None) ≡ Some question → Asks (codes "check" ∷ words) question
    by true are is =
        let back = given_back check_options words options files from in
        let asks : Asks (codes "check" ∷ back.given ++ files) (Check options files) = check back.gives are in
        let same : Check options files ≡ question = cc in
        subst (λ (q : Asked). Asks (codes "check" ∷ words) q) same (subst (λ (ws : List (List ℕ)). Asks (codes "check" ∷ ws) (Check options files)) (sym back.spelled) asks)
    by false are is = absurd cc

follow_back : (words : List (List ℕ)) (question : Asked) (read : Option (Options × List (List ℕ))) → taken follow_options no_options words ≡ read → follow_of read ≡ Some question → Asks (codes "follow" ∷ words) question
follow_back words question None from is = absurd cc
follow_back words question (Some (options, files)) from is = by (are_file_words files) refl is
  where
    by : (b : Bool) → are_file_words files ≡ b → (if b then Some (Follow options files) else None) ≡ Some question → Asks (codes "follow" ∷ words) question
    by true are is =
        let back = given_back follow_options words options files from in
        let asks : Asks (codes "follow" ∷ back.given ++ files) (Follow options files) = follow back.gives are in
        let same : Follow options files ≡ question = cc in
        subst (λ (q : Asked). Asks (codes "follow" ∷ words) q) same (subst (λ (ws : List (List ℕ)). Asks (codes "follow" ∷ ws) (Follow options files)) (sym back.spelled) asks)
    by false are is = absurd cc

infer_back : (words : List (List ℕ)) (question : Asked) (read : Option (Options × List (List ℕ))) → taken follow_options no_options words ≡ read → infer_of read ≡ Some question → Asks (codes "infer" ∷ words) question
infer_back words question None from is = absurd cc
infer_back words question (Some (options, behind)) from is = with (slice_get behind (length behind - 1)) refl is
  where
    files : List (List ℕ)
    files = take (length behind - 1) behind

    by : (trace : List ℕ) (a b : Bool) → behind ≡ files ++ trace ∷ [] → are_file_words files ≡ a → is_trace_word trace ≡ b → (if a && b then Some (Infer options files trace) else None) ≡ Some question → Asks (codes "infer" ∷ words) question
    by trace true true last are names is =
        let back = given_back follow_options words options behind from in
        let spelled : words ≡ back.given ++ (files ++ trace ∷ []) = back.spelled ∙ ap (λ (ws : List (List ℕ)). back.given ++ ws) last in
        let asks : Asks (codes "infer" ∷ back.given ++ (files ++ trace ∷ [])) (Infer options files trace) = infer back.gives are names in
        let same : Infer options files trace ≡ question = cc in
        subst (λ (q : Asked). Asks (codes "infer" ∷ words) q) same (subst (λ (ws : List (List ℕ)). Asks (codes "infer" ∷ ws) (Infer options files trace)) (sym spelled) asks)
    by trace true false last are names is = absurd cc
    by trace false b last are names is = absurd cc

    with : (last : Option (List ℕ)) → slice_get behind (length behind - 1) ≡ last → infer_with options files last ≡ Some question → Asks (codes "infer" ∷ words) question
    with None at is = absurd cc
    with (Some trace) at is = by trace (are_file_words files) (is_trace_word trace) (last_behind behind trace at) refl refl is

drill_back : (words : List (List ℕ)) (question : Asked) → drill_of words ≡ Some question → Asks (codes "drill" ∷ words) question
drill_back [] question is = absurd cc
drill_back (word ∷ next ∷ words) question is = absurd cc
drill_back (word ∷ []) question is = by (count_of word) refl is
  where
    by : (count : Option ℕ) → count_of word ≡ count → option_map Drill count ≡ Some question → Asks (codes "drill" ∷ word ∷ []) question
    by None from is = absurd cc
    by (Some lines) from is =
        let count = count_back word lines from in
        let asks : Asks (codes "drill" ∷ decimal lines ∷ []) (Drill lines) = drill count.some count.few in
        let same : Drill lines ≡ question = cc in
        subst (λ (q : Asked). Asks (codes "drill" ∷ word ∷ []) q) same (subst (λ (w : List ℕ). Asks (codes "drill" ∷ w ∷ []) (Drill lines)) (sym count.spelled) asks)

pub asks_back : (words : List (List ℕ)) (question : Asked) → asked words ≡ Some question → Asks words question
unfolding asked
asks_back [] question is = absurd cc
asks_back (name ∷ words) question is = by (bytes_eq name (codes "check")) (bytes_eq name (codes "follow")) (bytes_eq name (codes "infer")) (bytes_eq name (codes "drill")) refl refl refl refl is
  where
    named : (command : List ℕ) → bytes_eq name command ≡ true → Asks (command ∷ words) question → Asks (name ∷ words) question
    named command is asks = subst (λ (n : List ℕ). Asks (n ∷ words) question) (sym ((bytes_eq-Decides name command).0 is)) asks

    by : (a b d e : Bool) → bytes_eq name (codes "check") ≡ a → bytes_eq name (codes "follow") ≡ b → bytes_eq name (codes "infer") ≡ d → bytes_eq name (codes "drill") ≡ e
        → (if a then check_of (taken check_options no_options words)
        else (if b then follow_of (taken follow_options no_options words)
        else (if d then infer_of (taken follow_options no_options words)
        else (if e then drill_of words else None)))) ≡ Some question → Asks (name ∷ words) question
    by true b d e is_check others more last is = named (codes "check") is_check (check_back words question (taken check_options no_options words) refl is)
    by false true d e other is_follow more last is = named (codes "follow") is_follow (follow_back words question (taken follow_options no_options words) refl is)
    by false false true e other more is_infer last is = named (codes "infer") is_infer (infer_back words question (taken follow_options no_options words) refl is)
    by false false false true other more others is_drill is = named (codes "drill") is_drill (drill_back words question is)
    by false false false false other more others last is = absurd cc

-- words are read as nothing whose first one is no command
pub asked_nothing : (words rest : List (List ℕ)) (name : List ℕ) → words ≡ name ∷ rest → (name ≡ codes "check" → ⊥) → (name ≡ codes "follow" → ⊥) → (name ≡ codes "infer" → ⊥) → (name ≡ codes "drill" → ⊥) → None ≡ asked words
unfolding asked
asked_nothing words rest name is no_check no_follow no_infer no_drill =
    let not_check = other (codes "check") no_check in
    let not_follow = other (codes "follow") no_follow in
    let not_infer = other (codes "infer") no_infer in
    let not_drill = other (codes "drill") no_drill in
    subst (λ (ws : List (List ℕ)). None ≡ asked ws) (sym is) (rw (not_check, not_follow, not_infer, not_drill) refl)
  where
    other : (command : List ℕ) → (name ≡ command → ⊥) → bytes_eq name command ≡ false
    other command differs = by (bytes_eq name command) refl
      where
        by : (b : Bool) → bytes_eq name command ≡ b → bytes_eq name command ≡ false
        by true same = absurd (differs ((bytes_eq-Decides name command).0 same))
        by false same = same

-- words ask for what they are read as, and for nothing where they are read as nothing
pub asks_for : (words : List (List ℕ)) → AsksFor words (asked words)
asks_for words = by (asked words) refl
  where
    by : (question : Option Asked) → asked words ≡ question → AsksFor words question
    by (Some question) is = asks_back words question is
    by None is = λ question asks. absurd (let some : None ≡ Some question = sym is ∙ is_asked words question asks in cc)

-- they ask for one thing
pub one_thing : (words : List (List ℕ)) (a b : Asked) → Asks words a → Asks words b → a ≡ b
one_thing words a b is_a is_b = let same : Some a ≡ Some b = sym (is_asked words a is_a) ∙ is_asked words b is_b in cc

pub asked_is : (words : List (List ℕ)) (question : Option Asked) → AsksFor words question → question ≡ asked words
asked_is words (Some question) asks = sym (is_asked words question asks)
asked_is words None nothing = by (asked words) (asks_for words)
  where
    by : (question : Option Asked) → AsksFor words question → None ≡ question
    by None asks = refl
    by (Some question) asks = absurd (nothing question asks)

pub one_for : (words : List (List ℕ)) (a b : Option Asked) → AsksFor words a → AsksFor words b → a ≡ b
one_for words a b is_a is_b = asked_is words a is_a ∙ sym (asked_is words b is_b)

-- and whether they ask for something is known
pub is_known : (words : List (List ℕ)) → ((question : Asked) × Asks words question) ⊎ AsksNothing words
is_known words = by (asked words) (asks_for words)
  where
    by : (question : Option Asked) → AsksFor words question → ((question : Asked) × Asks words question) ⊎ AsksNothing words
    by (Some question) asks = inl (question, asks)
    by None nothing = inr nothing

pub nothing_for : (words : List (List ℕ)) (question : Option Asked) → AsksFor words question → (question ≡ None) ↔ AsksNothing words
nothing_for words None nothing = (λ is. nothing, λ same. refl)
nothing_for words (Some question) asks = (λ is. absurd cc, λ nothing. absurd (nothing question asks))

-- the files of a specification are one or more, and fewer than 2^32
are_counted : (files : List (List ℕ)) → are_file_words files ≡ true → (0 < length files) × (length files < 2 ^ 32)
are_counted files are =
    let counts = both (nat_lt 0 (length files)) (nat_lt (length files) (2 ^ 32)) (both (nat_lt 0 (length files) && nat_lt (length files) (2 ^ 32)) (list_all is_file_word files) are).0 in
    (ltb-true 0 (length files) counts.0, ltb-true (length files) (2 ^ 32) counts.1)

pub names_files : (words : List (List ℕ)) (question : Option Asked) → AsksFor words question → NamesFiles question
names_files words None nothing = tt
names_files words (Some question) asks = by words question asks
  where
    by : (words : List (List ℕ)) (question : Asked) → Asks words question → NamesFiles (Some question)
    by words question (check {files} gives are) = are_counted files are
    by words question (follow {files} gives are) = are_counted files are
    by words question (infer {files} gives are names) = are_counted files are
    by words question (drill some few) = tt
