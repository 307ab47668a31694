-- Options as the code takes them, against those that words give.
use Rattle.std.proofs.Common.{◌≡◌, ℕ, refl, sym, ◌∙◌, ap, subst, arith, Bool, true, false, not, ◌&&◌, ◌||◌, List, [], ◌∷◌, ◌++◌, length, Option, Some, None}
use Rattle.std.specs.List.{list_any}
use Rattle.nf_lemmas.proofs.MapLemmas.{list_any-map}
use Rattle.std.specs.Prelude.{bytes_eq, codes, map, option_map, if◌then◌else◌}
use Rattle.std.proofs.lemmas.Slice.Eq.{bytes_eq-Decides}
use Rattle.nf_core.specs.Identifiers.{is_identifier}
use Rattle.nfer_cli.specs.Words.{Options, no_options, is_among, Gives, none, full, root}
use Rattle.nfer_cli.specs.inner.Options.{given_by, names_root, taken}
use Rattle.nfer_cli.specs.declared.options.CommandOptions.{CommandOptions}
use Rattle.std.specs.Option.{is_some, option_copied}
use denote.Ref.{Bor}

-- no option stands first
pub none_taken : (names : List (List ℕ)) (options : Options) (word : List ℕ) (words : List (List ℕ)) → is_among word names ≡ false
    → taken names options (word ∷ words) ≡ Some (options, word ∷ words)
unfolding taken
none_taken names options word [] among = rw among refl
none_taken names options word (next ∷ words) among = rw among refl

-- nothing stands there
pub nothing_taken : (names : List (List ℕ)) (options : Options) (words : List (List ℕ)) → length words ≡ 0 → taken names options words ≡ Some (options, words)
unfolding taken
nothing_taken names options [] empty = refl
nothing_taken names options (word ∷ words) empty = absurd (omega arith)

-- a word is one of some names, as the code has them
pub among_as : (word text : List ℕ) (names : List (Bor (List ℕ))) (found : Bool) → text ≡ word → found ≡ list_any (λ name. bytes_eq name.now text) names → is_among word (map (λ name. name.now) names) ≡ found
among_as word text names found is any = sym (any ∙ ap (λ w. list_any (λ name. bytes_eq name.now w) names) is ∙ sym (list_any-map (λ name. name.now) (λ name. bytes_eq name word) names))

-- `--full` stands first
pub full_taken : (names : List (List ℕ)) (options : Options) (word : List ℕ) (words : List (List ℕ)) → is_among word names ≡ true → word ≡ codes "--full" → options.full ≡ false
    → taken names options (word ∷ words) ≡ taken names (record options { full = true }) words
unfolding taken
full_taken names options word words among is unset = by words (rw is refl)
  where
    by : (words : List (List ℕ)) → bytes_eq word (codes "--full") ≡ true → taken names options (word ∷ words) ≡ taken names (record options { full = true }) words
    by [] same = rw (among, same, unset) refl
    by (next ∷ words) same = rw (among, same, unset) refl

-- and is given already
pub full_refused : (names : List (List ℕ)) (options : Options) (word : List ℕ) (words : List (List ℕ)) → is_among word names ≡ true → word ≡ codes "--full" → options.full ≡ true
    → taken names options (word ∷ words) ≡ None
unfolding taken
full_refused names options word words among is set = by words (rw is refl)
  where
    by : (words : List (List ℕ)) → bytes_eq word (codes "--full") ≡ true → taken names options (word ∷ words) ≡ None
    by [] same = rw (among, same, set) refl
    by (next ∷ words) same = rw (among, same, set) refl

-- `--module` stands first, with a word behind it that it may name
pub module_taken : (names : List (List ℕ)) (options : Options) (word name : List ℕ) (words : List (List ℕ)) → is_among word names ≡ true → word ≡ codes "--module" → names_root options name ≡ true
    → taken names options (word ∷ name ∷ words) ≡ taken names (record options { root = Some name }) words
unfolding taken
module_taken names options word name words among is may = by (rw is refl) (rw is refl)
  where
    by : bytes_eq word (codes "--full") ≡ false → bytes_eq word (codes "--module") ≡ true → taken names options (word ∷ name ∷ words) ≡ taken names (record options { root = Some name }) words
    by other same = rw (among, other, same, may) refl

-- or with one that it may not name
pub module_refused : (names : List (List ℕ)) (options : Options) (word name : List ℕ) (words : List (List ℕ)) → is_among word names ≡ true → word ≡ codes "--module" → names_root options name ≡ false
    → taken names options (word ∷ name ∷ words) ≡ None
unfolding taken
module_refused names options word name words among is may_not = by (rw is refl) (rw is refl)
  where
    by : bytes_eq word (codes "--full") ≡ false → bytes_eq word (codes "--module") ≡ true → taken names options (word ∷ name ∷ words) ≡ None
    by other same = rw (among, other, same, may_not) refl

-- or with none behind it
pub module_alone : (names : List (List ℕ)) (options : Options) (word : List ℕ) (words : List (List ℕ)) → is_among word names ≡ true → word ≡ codes "--module" → length words ≡ 0 → taken names options (word ∷ words) ≡ None
unfolding taken
module_alone names options word [] among is alone = by (rw is refl)
  where
    by : bytes_eq word (codes "--full") ≡ false → taken names options (word ∷ []) ≡ None
    by other = rw (among, other) refl
module_alone names options word (name ∷ words) among is alone = absurd (omega arith)

-- a module is named already
pub module_twice : (names : List (List ℕ)) (options : Options) (word : List ℕ) (words : List (List ℕ)) → is_among word names ≡ true → word ≡ codes "--module" → ((name : List ℕ) → names_root options name ≡ false)
    → taken names options (word ∷ words) ≡ None
module_twice names options word [] among is may_not = module_alone names options word [] among is refl
module_twice names options word (name ∷ words) among is may_not = module_refused names options word name words among is (may_not name)

-- a word stands first that is no option's
pub other_refused : (names : List (List ℕ)) (options : Options) (word : List ℕ) (words : List (List ℕ)) → is_among word names ≡ true → bytes_eq word (codes "--full") ≡ false → bytes_eq word (codes "--module") ≡ false
    → taken names options (word ∷ words) ≡ None
unfolding taken
other_refused names options word [] among not_full not_module = rw (among, not_full) refl
other_refused names options word (next ∷ words) among not_full not_module = rw (among, not_full, not_module) refl

-- whether a module is named, as the code has it
named_as : (named : Option (Bor (List ℕ))) → is_some (option_copied named) ≡ is_some named
named_as None = refl
named_as (Some name) = refl

pub may_name : (options : CommandOptions) (name text bytes : List ℕ) → is_some options.root ≡ false → text ≡ name → bytes ≡ text → is_identifier bytes ≡ true → names_root (given_by options) name ≡ true
may_name options name text bytes unset is same identifies =
    let named : is_some (option_copied options.root) ≡ false = named_as options.root ∙ unset in
    let identifier : is_identifier name ≡ true = ap is_identifier (sym (same ∙ is)) ∙ identifies in
    rw (named, identifier) refl

pub may_not_name : (options : CommandOptions) (name text bytes : List ℕ) → is_some options.root ≡ false → text ≡ name → bytes ≡ text → is_identifier bytes ≡ false → names_root (given_by options) name ≡ false
may_not_name options name text bytes unset is same identifies =
    let named : is_some (option_copied options.root) ≡ false = named_as options.root ∙ unset in
    let identifier : is_identifier name ≡ false = ap is_identifier (sym (same ∙ is)) ∙ identifies in
    rw (named, identifier) refl

pub names_once : (options : CommandOptions) → is_some options.root ≡ true → (name : List ℕ) → names_root (given_by options) name ≡ false
names_once options set name =
    let named : is_some (option_copied options.root) ≡ true = named_as options.root ∙ set in
    rw named refl

-- what two lists of options give one behind the other; nothing where they give one thing both
joined_by : Bool → Bool → Option (List ℕ) → Option (List ℕ) → Option Options
joined_by true true first next = None
joined_by a b (Some first) (Some next) = None
joined_by a b None next = Some (record { full = a || b; root = next })
joined_by a b (Some first) None = Some (record { full = a || b; root = Some first })

pub joined : Options → Options → Option Options
joined before options = joined_by before.full options.full before.root options.root

twice_named : (a b : Bool) (first next : List ℕ) → joined_by a b (Some first) (Some next) ≡ None
unfolding joined_by
twice_named true true first next = refl
twice_named true false first next = refl
twice_named false b first next = refl

full_moves : (first next : Option (List ℕ)) → joined_by true false first next ≡ joined_by false true first next
unfolding joined_by
full_moves None next = refl
full_moves (Some first) None = refl
full_moves (Some first) (Some next) = refl

name_moves : (a b : Bool) (name : List ℕ) → joined_by a b (Some name) None ≡ joined_by a b None (Some name)
unfolding joined_by
name_moves true true name = refl
name_moves true false name = refl
name_moves false b name = refl

pub joined_first : (options : Options) → joined no_options options ≡ Some options
unfolding joined joined_by
joined_first options = refl

with_none : (a : Bool) (root : Option (List ℕ)) → joined_by a false root None ≡ Some (record { full = a; root = root })
unfolding joined_by
with_none true None = refl
with_none true (Some name) = refl
with_none false None = refl
with_none false (Some name) = refl

joined_last : (options : Options) → joined options no_options ≡ Some options
unfolding joined
joined_last options = with_none options.full options.root

-- options are moved over one by one
full_joins : (before options : Options) → before.full ≡ false → options.full ≡ false → joined (record before { full = true }) options ≡ joined before (record options { full = true })
unfolding joined
full_joins before options unset other = rw (unset, other) (full_moves before.root options.root)

given_twice : (before options : Options) → before.full ≡ true → joined before (record options { full = true }) ≡ None
unfolding joined joined_by
given_twice before options set = rw set refl

module_joins : (before options : Options) (name : List ℕ) → before.root ≡ None → options.root ≡ None → joined (record before { root = Some name }) options ≡ joined before (record options { root = Some name })
unfolding joined
module_joins before options name unset other = rw (unset, other) (name_moves before.full options.full name)

named_twice : (before options : Options) (name first : List ℕ) → before.root ≡ Some first → joined before (record options { root = Some name }) ≡ None
unfolding joined
named_twice before options name first set = rw set (twice_named before.full options.full first name)

-- options are taken in front of words with no option in front
pub taken_given : (names given files : List (List ℕ)) (before options : Options) → ((options : Options) → taken names options files ≡ Some (options, files)) → Gives names given options
    → taken names before (given ++ files) ≡ option_map (λ o. (o, files)) (joined before options)
taken_given names given files before options stops none = stops before ∙ sym (ap (option_map (λ o. (o, files))) (joined_last before))
taken_given names given files before options stops (full {words} {options = others} among unset gives) = by (taken_given names words files (record before { full = true }) others stops gives) before.full refl
  where
    by : taken names (record before { full = true }) (words ++ files) ≡ option_map (λ o. (o, files)) (joined (record before { full = true }) others) → (set : Bool) → before.full ≡ set → taken names before (codes "--full" ∷ (words ++ files)) ≡ option_map (λ o. (o, files)) (joined before (record others { full = true }))
    by behind true set = full_refused names before (codes "--full") (words ++ files) among refl set ∙ sym (ap (option_map (λ o. (o, files))) (given_twice before others set))
    by behind false free =
        full_taken names before (codes "--full") (words ++ files) among refl free ∙ behind
        ∙ ap (option_map (λ o. (o, files))) (full_joins before others free unset)
taken_given names given files before options stops (root {words} {options = others} {name} among unset identifies gives) = by (taken_given names words files (record before { root = Some name }) others stops gives) before.root refl
  where
    by : taken names (record before { root = Some name }) (words ++ files) ≡ option_map (λ o. (o, files)) (joined (record before { root = Some name }) others) → (named : Option (List ℕ)) → before.root ≡ named → taken names before (codes "--module" ∷ name ∷ (words ++ files)) ≡ option_map (λ o. (o, files)) (joined before (record others { root = Some name }))
    by behind (Some first) set =
        let may_not : names_root before name ≡ false = rw set refl in
        module_refused names before (codes "--module") name (words ++ files) among refl may_not ∙ sym (ap (option_map (λ o. (o, files))) (named_twice before others name first set))
    by behind None free =
        let may : names_root before name ≡ true = rw (free, identifies) refl in
        module_taken names before (codes "--module") name (words ++ files) among refl may ∙ behind
        ∙ ap (option_map (λ o. (o, files))) (module_joins before others name free unset)

-- some words are options, behind others that were taken before, and then files
pub record Taken (names words : List (List ℕ)) (before after : Options) (files : List (List ℕ)) : Type 0 where
  pub given : List (List ℕ)
  pub options : Options
  pub spelled : words ≡ given ++ files
  pub gives : Gives names given options
  pub joins : joined before options ≡ Some after

taken_none : (names files : List (List ℕ)) (options : Options) → Taken names files options options files
taken_none names files options = record { given = []; options = no_options; spelled = refl; gives = none; joins = joined_last options }

not_full : (before options after : Options) → before.full ≡ true → joined before options ≡ Some after → options.full ≡ false
unfolding joined joined_by
not_full before options after set joins = by options.full refl
  where
    by : (f : Bool) → options.full ≡ f → options.full ≡ false
    by true is = absurd (let none : joined_by before.full options.full before.root options.root ≡ None = rw (set, is) refl in let some : None ≡ Some after = sym none ∙ joins in cc)
    by false is = is

not_named : (before options after : Options) (first : List ℕ) → before.root ≡ Some first → joined before options ≡ Some after → options.root ≡ None
unfolding joined
not_named before options after first set joins = by options.root refl
  where
    by : (named : Option (List ℕ)) → options.root ≡ named → options.root ≡ None
    by (Some name) is = absurd (let none : joined_by before.full options.full before.root options.root ≡ None = rw (set, is) (twice_named before.full options.full first name) in let some : None ≡ Some after = sym none ∙ joins in cc)
    by None is = is

taken_full : (names words files : List (List ℕ)) (before after : Options) → is_among (codes "--full") names ≡ true → before.full ≡ false → Taken names words (record before { full = true }) after files
    → Taken names (codes "--full" ∷ words) before after files
taken_full names words files before after among free back =
    let unset : back.options.full ≡ false = not_full (record before { full = true }) back.options after refl back.joins in
    record {
      given = codes "--full" ∷ back.given;
      options = record back.options { full = true };
      spelled = ap (λ ws. codes "--full" ∷ ws) back.spelled;
      gives = full among unset back.gives;
      joins = sym (full_joins before back.options free unset) ∙ back.joins;
    }

taken_root : (names words files : List (List ℕ)) (name : List ℕ) (before after : Options) → is_among (codes "--module") names ≡ true → before.root ≡ None → is_identifier name ≡ true → Taken names words (record before { root = Some name }) after files
    → Taken names (codes "--module" ∷ name ∷ words) before after files
taken_root names words files name before after among free identifies back =
    let unset : back.options.root ≡ None = not_named (record before { root = Some name }) back.options after name refl back.joins in
    record {
      given = codes "--module" ∷ name ∷ back.given;
      options = record back.options { root = Some name };
      spelled = ap (λ ws. codes "--module" ∷ name ∷ ws) back.spelled;
      gives = root among unset identifies back.gives;
      joins = sym (module_joins before back.options name free unset) ∙ back.joins;
    }

-- where nothing more is taken
taken_stop : (names words files : List (List ℕ)) (before after : Options) → ◌≡◌ {A = Option (Options × List (List ℕ))} (Some (before, words)) (Some (after, files)) → Taken names words before after files
taken_stop names words files before after is =
    let pair : ◌≡◌ {A = Options × List (List ℕ)} (before, words) (after, files) = cc in
    let same : before ≡ after = ap (λ p. p.0) pair in
    let left : words ≡ files = ap (λ p. p.1) pair in
    subst (λ (o : Options). Taken names words before o files) same (subst (λ (ws : List (List ℕ)). Taken names words before before ws) left (taken_none names words before))

may_free : (before : Options) (name : List ℕ) → names_root before name ≡ true → (before.root ≡ None) × (is_identifier name ≡ true)
may_free before name may = by before.root (is_identifier name) refl refl may
  where
    by : (named : Option (List ℕ)) (b : Bool) → before.root ≡ named → is_identifier name ≡ b → not (is_some named) && b ≡ true → (before.root ≡ None) × (is_identifier name ≡ true)
    by None true free is may = (free, is)
    by None false free is may = absurd cc
    by (Some first) b free is may = absurd cc

-- what is taken was given
pub taken_back : (names words : List (List ℕ)) (before after : Options) (files : List (List ℕ)) → taken names before words ≡ Some (after, files) → Taken names words before after files
unfolding taken
taken_back names [] before after files is = taken_stop names [] files before after is
taken_back names (word ∷ []) before after files is = by (is_among word names) (bytes_eq word (codes "--full")) before.full refl refl refl is
  where
    by : (among same set : Bool) → is_among word names ≡ among → bytes_eq word (codes "--full") ≡ same → before.full ≡ set
        → ◌≡◌ {A = Option (Options × List (List ℕ))} (if not among then Some (before, word ∷ []) else (if same && not set then Some (record before { full = true }, []) else None)) (Some (after, files))
        → Taken names (word ∷ []) before after files
    by false same set among is free e = taken_stop names (word ∷ []) files before after e
    by true true false among is free e =
        let word_is : word ≡ codes "--full" = (bytes_eq-Decides word (codes "--full")).0 is in
        let full_among : is_among (codes "--full") names ≡ true = subst (λ w. is_among w names ≡ true) word_is among in
        subst (λ w. Taken names (w ∷ []) before after files) (sym word_is) (taken_full names [] files before after full_among free (taken_stop names [] files (record before { full = true }) after e))
    by true true true among is free e = absurd cc
    by true false set among is free e = absurd cc
taken_back names (word ∷ next ∷ words) before after files is =
    by (taken_back names (next ∷ words) (record before { full = true }) after files) (taken_back names words (record before { root = Some next }) after files)
    (is_among word names) (bytes_eq word (codes "--full")) (bytes_eq word (codes "--module")) before.full (names_root before next) refl refl refl refl refl is
  where
    by : (taken names (record before { full = true }) (next ∷ words) ≡ Some (after, files) → Taken names (next ∷ words) (record before { full = true }) after files)
        → (taken names (record before { root = Some next }) words ≡ Some (after, files) → Taken names words (record before { root = Some next }) after files)
        → (among same named set may : Bool) → is_among word names ≡ among → bytes_eq word (codes "--full") ≡ same → bytes_eq word (codes "--module") ≡ named → before.full ≡ set → names_root before next ≡ may
        → ◌≡◌ {A = Option (Options × List (List ℕ))} (if not among then Some (before, word ∷ next ∷ words) else (if same then (if set then None else taken names (record before { full = true }) (next ∷ words))
        else (if named && may then taken names (record before { root = Some next }) words else None))) (Some (after, files))
        → Taken names (word ∷ next ∷ words) before after files
    by behind_full behind_root false same named set may among is is_module free names_it e = taken_stop names (word ∷ next ∷ words) files before after e
    by behind_full behind_root true true named false may among is is_module free names_it e =
        let word_is : word ≡ codes "--full" = (bytes_eq-Decides word (codes "--full")).0 is in
        let full_among : is_among (codes "--full") names ≡ true = subst (λ w. is_among w names ≡ true) word_is among in
        subst (λ w. Taken names (w ∷ next ∷ words) before after files) (sym word_is) (taken_full names (next ∷ words) files before after full_among free (behind_full e))
    by behind_full behind_root true true named true may among is is_module free names_it e = absurd cc
    by behind_full behind_root true false true set true among is is_module free names_it e =
        let word_is : word ≡ codes "--module" = (bytes_eq-Decides word (codes "--module")).0 is_module in
        let module_among : is_among (codes "--module") names ≡ true = subst (λ w. is_among w names ≡ true) word_is among in
        let free_name = may_free before next names_it in
        subst (λ w. Taken names (w ∷ next ∷ words) before after files) (sym word_is) (taken_root names words files next before after module_among free_name.0 free_name.1 (behind_root e))
    by behind_full behind_root true false true set false among is is_module free names_it e = absurd cc
    by behind_full behind_root true false false set may among is is_module free names_it e = absurd cc
