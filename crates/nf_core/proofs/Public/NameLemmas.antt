-- The names of rules: none is missing, none stands twice, and wide ones come last.
use Rattle.std.proofs.Common.{length, ◌≡◌, ℕ, zero, suc, Bool, true, false, not, List, [], ◌∷◌, ◌++◌, get_or, filter, flat_map, All, Contains, IsTrue, refl, sym, ap, subst, ◌∙◌, append_assoc, true≢false, arith, if◌then◌else◌, bytes_eq, ◌||◌, inl, inr}
use Rattle.std.specs.Prelude.{AllPairs}
use Rattle.std.specs.List.{list_all, list_any, AllByRecursion, IsDistinct}
use Rattle.std.proofs.lemmas.Bool.Decides.{eqb_tells}
use Rattle.std.proofs.lemmas.List.{append-nil, length-append}
use Rattle.std.proofs.lemmas.List.Elements.{All-nil, All-cons, All-head, All-tail, All-append, All-filter, filter_passes, recursion_from_All, Contains-get_or}
use Rattle.std.proofs.lemmas.List.Filters.{length-filter_both}
use Rattle.std.proofs.lemmas.List.Sorted.{Contains-permutation, IsPermutation-filter_both}
use Rattle.std.proofs.lemmas.List.Sums.{fold-append}
use Rattle.indexmap.specs.IndexSet.{insert_key, insert_all}
use Rattle.nf_core.specs.Texts.{text_eq}
use Rattle.nf_core.specs.Identifiers.{is_digit, is_identifier, is_letter, is_wide_name, has_name_form, keywords, IsWideBehind}
use Rattle.nf_core.specs.Written.{each_once, names_in, names_of, wide_last}
use Rattle.nf_core.specs.declared.trees.Rule.{Rule}
use Rattle.nf_core.proofs.Public.EachOnceLemmas.{Contains-each_once, IsDistinct-each_once}
use Rattle.nf_lemmas.proofs.BoolLemmas.{both}
use Rattle.nf_lemmas.proofs.ListLemmas.{Contains-flat_map}

-- no identifier is wide, and no text without bytes
pub identifier_is_not_wide : (text : List ℕ) → IsTrue (is_identifier text) → is_wide_name text ≡ false
unfolding is_identifier has_name_form is_wide_name
identifier_is_not_wide [] h = refl
identifier_is_not_wide (byte ∷ bytes) h = elim (eqb_tells byte 124) [
  | inl bar ↦ absurd (true≢false (sym (ap is_letter (sym bar.1) ∙ (both (is_letter byte) (list_all (λ b. is_letter b || is_digit b) bytes) (both (has_name_form (byte ∷ bytes)) (not (list_any (λ word. bytes_eq word (byte ∷ bytes)) keywords)) h).0).0)))
  | inr other ↦ other.0
]

pub not_wide_nothing : is_wide_name [] ≡ false
unfolding is_wide_name
not_wide_nothing = refl

twice : (b : Bool) → b ≡ not (not b)
twice true = refl
twice false = refl

-- a text stands among the texts, the wide ones last, where it stands among them
pub Contains-wide_last : (texts : List (List ℕ)) (text : List ℕ) → Contains texts text → Contains (wide_last texts) text
Contains-wide_last texts text = Contains-permutation texts (wide_last texts) text (IsPermutation-filter_both (λ t. not (is_wide_name t)) is_wide_name (λ t. twice (is_wide_name t)) texts)

-- the wide ones last are as many, and what holds of all of them holds of these
pub length-wide_last : (texts : List (List ℕ)) → length (wide_last texts) ≡ length texts
length-wide_last texts =
    length-append (filter (λ t. not (is_wide_name t)) texts) (filter is_wide_name texts) ∙ length-filter_both (λ t. not (is_wide_name t)) is_wide_name (λ t. twice (is_wide_name t)) texts

pub All-wide_last : (P : List ℕ → Type 0) (texts : List (List ℕ)) → All P texts → All P (wide_last texts)
All-wide_last P texts h =
    All-append P (filter (λ t. not (is_wide_name t)) texts) (filter is_wide_name texts) (All-filter (λ t. not (is_wide_name t)) P texts h) (All-filter is_wide_name P texts h)

-- none is missing
pub Contains-names_of : (rules : List Rule) (name : List ℕ) → Contains (flat_map names_in rules) name → Contains (names_of rules) name
Contains-names_of rules name there = Contains-each_once (wide_last (flat_map names_in rules)) name (Contains-wide_last (flat_map names_in rules) name there)

-- the names of a rule are among those of the rules
pub known_names : (rules : List Rule) (rule : Rule) → Contains rules rule → AllByRecursion (Contains (names_of rules)) (names_in rule)
known_names rules rule there = recursion_from_All _ (names_in rule) (λ k d h.
    Contains-names_of rules (get_or (names_in rule) k d) (Contains-flat_map names_in rules rule (get_or (names_in rule) k d) there (Contains-get_or (names_in rule) k d h)))

-- none stands twice
pub IsDistinct-names_of : (rules : List Rule) → IsDistinct text_eq (names_of rules)
IsDistinct-names_of rules = IsDistinct-each_once (wide_last (flat_map names_in rules))

-- texts that are put in are among those that were there, and after these
put_behind : (P : List ℕ → Type 0) (texts all : List (List ℕ)) → All P texts → (rest : List (List ℕ)) × (insert_all text_eq all texts ≡ all ++ rest) × All P rest
put_behind P [] all h = ([], sym (append-nil all), All-nil P)
put_behind P (text ∷ texts) all h = by (list_any (text_eq text) all) (λ more. put_behind P texts more (All-tail P text texts h))
  where
    by : (b : Bool) → ((more : List (List ℕ)) → (rest : List (List ℕ)) × (insert_all text_eq more texts ≡ more ++ rest) × All P rest)
        → (rest : List (List ℕ)) × (insert_all text_eq (if b then all else all ++ text ∷ []) texts ≡ all ++ rest) × All P rest
    by true next = next all
    by false next =
        let last = next (all ++ text ∷ []) in
        (text ∷ last.0, last.1 ∙ append_assoc all (text ∷ []) last.0, All-cons P text last.0 (All-head P text texts h) last.2)

abbrev pub IsNarrow : List ℕ → Type 0
IsNarrow text = IsTrue (not (is_wide_name text))

abbrev pub IsWide : List ℕ → Type 0
IsWide text = IsTrue (is_wide_name text)

not_both : (b : Bool) → IsTrue (not b) → IsTrue b → ⊥
not_both true n y = true≢false (sym n)
not_both false n y = true≢false (sym y)

-- texts that aren't wide, and then wide ones, are in order
pub wide_behind : (narrow wide : List (List ℕ)) → All IsNarrow narrow → All IsWide wide → AllPairs IsWideBehind (narrow ++ wide)
wide_behind [] wide none all i j d h within first = all j d within
wide_behind (text ∷ narrow) wide none all zero j d h within first = absurd (not_both (is_wide_name text) (All-head IsNarrow text narrow none) first)
wide_behind (text ∷ narrow) wide none all (suc i) zero d h within first = absurd (omega (arith, h))
wide_behind (text ∷ narrow) wide none all (suc i) (suc j) d h within first = wide_behind narrow wide (All-tail IsNarrow text narrow none) all i j d (omega (arith, h)) (omega (arith, within)) first

-- wide ones come last
pub IsWideBehind-names_of : (rules : List Rule) → AllPairs IsWideBehind (names_of rules)
IsWideBehind-names_of rules =
    let texts : List (List ℕ) = flat_map names_in rules in
    let narrow : List (List ℕ) = filter (λ text. not (is_wide_name text)) texts in
    let first = put_behind IsNarrow narrow [] (filter_passes (λ text. not (is_wide_name text)) texts) in
    let last = put_behind IsWide (filter is_wide_name texts) (each_once narrow) (filter_passes is_wide_name texts) in
    let is : names_of rules ≡ first.0 ++ last.0 = fold-append (insert_key text_eq) [] narrow (filter is_wide_name texts) ∙ last.1 ∙ ap (λ names. names ++ last.0) first.1 in
    subst (AllPairs IsWideBehind) (sym is) (wide_behind first.0 last.0 first.2 last.2)
