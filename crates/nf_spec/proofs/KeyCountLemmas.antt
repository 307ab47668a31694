-- How many keys the names of rules have at most, and that they are identifiers.
use Rattle.std.proofs.Common.{◌≡◌, ℕ, ◌+◌, ◌*◌, ◌≤◌, Bool, true, false, List, [], ◌∷◌, ◌++◌, length, map, fold, flat_map, All, bytes_eq, arith, if◌then◌else◌}
use Rattle.std.specs.Prelude.{Option, Some, None, option_to_list}
use Rattle.std.specs.declared.cmp.Ordering.{Ordering}
use Rattle.std.specs.declared.cmp.Ordering.TheVariants.{Less, Equal, Greater}
use Rattle.std.specs.Ordering.{match_ordering}
use Rattle.std.specs.BTreeSet.{insert_key}
use Rattle.std.proofs.lemmas.List.{length-append, length-map}
use Rattle.std.proofs.lemmas.List.Elements.{All-nil, All-append, All-head, All-tail, All-map, All-weaker}
use Rattle.std.proofs.lemmas.Map.Views.{All-insert_key}
use Rattle.nf_core.specs.Texts.{text_cmp}
use Rattle.nf_core.specs.Trees.{atoms_of, expressions_of, tree, IsRule, IsWithinLimits, IsWritten, IsWrittenTree}
use Rattle.nf_core.specs.Written.{ascending, keys_read, keys_read_in, keys_mapped_in, keys_read_by, keys_by_rule, keys_of_name}
use Rattle.nf_core.specs.declared.trees.Atom.{Atom}
use Rattle.nf_core.specs.declared.trees.Body.{Body}
use Rattle.nf_core.specs.declared.trees.Body.TheVariants.{One, Pair, Unless}
use Rattle.nf_core.specs.declared.trees.Entry.{Entry}
use Rattle.nf_core.specs.declared.trees.Expr.{Expr}
use Rattle.nf_core.specs.declared.trees.Rule.{Rule}
use Rattle.nf_parse.specs.Answers.{entries_in}
use Rattle.nf_lemmas.proofs.ListLemmas.{All-flat_map}
use Rattle.nf_spec.proofs.ClauseLemmas.{IsName, AreBack, few_read, names_read}

-- one text more
insert_few : (texts : List (List ℕ)) (text : List ℕ) → length (insert_key text_cmp texts text) ≤ length texts + 1
insert_few [] text = omega arith
insert_few (x ∷ texts) text = at (text_cmp text x) (insert_few texts text)
  where
    at : (o : Ordering) → length (insert_key text_cmp texts text) ≤ length texts + 1 → length (match_ordering o (text ∷ x ∷ texts) (x ∷ texts) (x ∷ insert_key text_cmp texts text)) ≤ length (x ∷ texts) + 1
    at Less h = omega arith
    at Equal h = omega arith
    at Greater h = omega (arith, h)

fold_few : (texts all : List (List ℕ)) → length (fold (λ all text. insert_key text_cmp all text) all texts) ≤ length all + length texts
fold_few [] all = omega arith
fold_few (text ∷ texts) all = omega (arith, fold_few texts (insert_key text_cmp all text), insert_few all text)

-- texts each once are no more than the texts
ascending_few : (texts : List (List ℕ)) → length (ascending texts) ≤ length texts
ascending_few texts = omega (arith, fold_few texts [])

fold_all : (texts all : List (List ℕ)) → All IsName texts → All IsName all → All IsName (fold (λ all text. insert_key text_cmp all text) all texts)
fold_all [] all t h = h
fold_all (text ∷ texts) all t h = fold_all texts (insert_key text_cmp all text) (All-tail IsName text texts t) (All-insert_key text_cmp text IsName all h (All-head IsName text texts t))

option_few : (clause : Option Expr) → length (option_to_list clause) ≤ 1
option_few None = omega arith
option_few (Some a) = omega arith

four_parts : (a b c d : List Expr) → length (a ++ b ++ c ++ d) ≡ length a + (length b + (length c + length d))
four_parts a b c d = omega (arith, length-append (a ++ b ++ c) d, length-append (a ++ b) c, length-append a b)

-- a rule has at most three expressions more than entries
expressions_few : (rule : Rule) → length (expressions_of rule) ≤ length rule.entries + 3
expressions_few rule =
    omega (
      arith,
      four_parts (option_to_list rule.filter) (map (λ (entry : Entry). entry.value) rule.entries) (option_to_list rule.start) (option_to_list rule.stop),
      length-map rule.entries (λ (entry : Entry). entry.value),
      option_few rule.filter,
      option_few rule.start,
      option_few rule.stop,
    )

-- an expression within the limits reads at most 257 keys
reads_few : AreBack → (label : List ℕ) (all : List Expr) → All (λ a. IsWithinLimits (tree a)) all → length (flat_map (keys_read label) all) ≤ 257 * length all
reads_few back label [] h = omega arith
reads_few back label (a ∷ all) h =
    let within = All-head (λ a. IsWithinLimits (tree a)) a all h in
    omega (arith, length-append (keys_read label a) (flat_map (keys_read label) all), few_read back label a, within.few_operators, reads_few back label all (All-tail (λ a. IsWithinLimits (tree a)) a all h))

-- so many keys a rule reads from an atom at most
abbrev most_read : Rule → ℕ
most_read rule = 257 * (length rule.entries + 3)

atom_few : AreBack → (name : List ℕ) (rule : Rule) (atom : Atom) → IsRule rule → length (keys_read_in name rule atom) ≤ most_read rule
atom_few back name rule atom h = at (bytes_eq atom.name name)
  where
    at : (b : Bool) → length (if b then flat_map (keys_read atom.label) (expressions_of rule) else []) ≤ most_read rule
    at true = omega (arith, reads_few back atom.label (expressions_of rule) h, expressions_few rule)
    at false = omega arith

-- at most two atoms stand in a body
body_few : (f : Atom → List (List ℕ)) (most : ℕ) (body : Body) → ((atom : Atom) → length (f atom) ≤ most) → length (flat_map f (atoms_of body)) ≤ 2 * most
body_few f most (One first) h = omega (arith, length-append (f first) [], h first)
body_few f most (Pair first op second) h = omega (arith, length-append (f first) (f second ++ []), length-append (f second) [], h first, h second)
body_few f most (Unless first xop second) h = omega (arith, length-append (f first) (f second ++ []), length-append (f second) [], h first, h second)

mapped_few : (name : List ℕ) (rule : Rule) → length (keys_mapped_in name rule) ≤ length rule.entries
mapped_few name rule = at (bytes_eq rule.head name)
  where
    at : (b : Bool) → length (if b then map (λ (entry : Entry). entry.key) rule.entries else []) ≤ length rule.entries
    at true = omega (arith, length-map rule.entries (λ (entry : Entry). entry.key))
    at false = omega arith

-- a rule has at most 1542 keys of a name for itself and for each of its entries
mentions_few : AreBack → (name : List ℕ) (rule : Rule) → IsRule rule → length (keys_by_rule rule name) ≤ 1542 * (length rule.entries + 1)
mentions_few back name rule h =
    let body = body_few (keys_read_in name rule) (most_read rule) rule.body (λ atom. atom_few back name rule atom h) in
    omega (arith, length-append (keys_read_by rule name) (keys_mapped_in name rule), body, mapped_few name rule)

all_few : AreBack → (name : List ℕ) (rules : List Rule) → All IsRule rules → length (flat_map (λ rule. keys_by_rule rule name) rules) ≤ 1542 * (length rules + length (entries_in rules))
all_few back name [] h = omega arith
all_few back name (rule ∷ rules) h =
    omega (arith, length-append (keys_by_rule rule name) (flat_map (λ rule. keys_by_rule rule name) rules), length-append rule.entries (entries_in rules), mentions_few back name rule (All-head IsRule rule rules h), all_few back name rules (All-tail IsRule rule rules h))

-- a name has at most 1542 keys for each rule and each entry
pub keys_few : AreBack → (rules : List Rule) (name : List ℕ) → All IsRule rules → length (keys_of_name rules name) ≤ 1542 * (length rules + length (entries_in rules))
keys_few back rules name h = omega (arith, ascending_few (flat_map (λ rule. keys_by_rule rule name) rules), all_few back name rules h)

-- the keys that a written rule mentions are identifiers
mentions_names : AreBack → (name : List ℕ) (rule : Rule) → IsWritten rule → All IsName (keys_by_rule rule name)
mentions_names back name rule written =
    All-append IsName (keys_read_by rule name) (keys_mapped_in name rule)
    (All-flat_map IsName (keys_read_in name rule) (atoms_of rule.body) (λ k d low. read (bytes_eq _ name) _)) (mapped (bytes_eq rule.head name))
  where
    read : (b : Bool) (label : List ℕ) → All IsName (if b then flat_map (keys_read label) (expressions_of rule) else [])
    read true label = All-flat_map IsName (keys_read label) (expressions_of rule) (All-weaker (λ a. IsWrittenTree (tree a)) (λ a. All IsName (keys_read label a)) (names_read back label) (expressions_of rule) written.expressions)
    read false label = All-nil IsName

    mapped : (b : Bool) → All IsName (if b then map (λ (entry : Entry). entry.key) rule.entries else [])
    mapped true = All-map IsName (λ (entry : Entry). entry.key) rule.entries written.keys
    mapped false = All-nil IsName

-- the keys of a name of written rules are identifiers
pub keys_names : AreBack → (rules : List Rule) (name : List ℕ) → All IsWritten rules → All IsName (keys_of_name rules name)
keys_names back rules name written =
    fold_all (flat_map (λ rule. keys_by_rule rule name) rules) [] (All-flat_map IsName (λ rule. keys_by_rule rule name) rules (All-weaker IsWritten (λ rule. All IsName (keys_by_rule rule name)) (λ rule. mentions_names back name rule) rules written)) (All-nil IsName)
