-- A rule has no fault exactly where its kinds are right.
use Rattle.std.proofs.Common.{◌≡◌, ◌↔◌, ℕ, Bool, true, false, cond, ◌||◌, List, [], ◌∷◌, ◌++◌, map, All, IsTrue, Option, Some, None, is_some, option_to_list, Result, Ok, Err, is_ok, IsOk, refl, sym, ◌∙◌}
use Rattle.std.proofs.lemmas.List.Elements.{All-nil, All-cons, All-head, All-from_recursion, recursion_from_All}
use Rattle.std.proofs.lemmas.List.Folds.{list_any-append}
use Rattle.std.specs.List.{list_any, IsDistinct, AllByRecursion}
use Rattle.std.specs.Result.{result_err}
use Rattle.nf_core.specs.Texts.{text_eq}
use Rattle.nf_core.specs.Kinds.{Kind, kind_of_tree, labels_of, AreKindsRight}
use Rattle.nf_core.specs.Trees.{Rule, tree, atoms_of}
use Rattle.nf_core.specs.declared.trees.Atom.{Atom}
use Rattle.nf_core.specs.declared.trees.Expr.{Expr}
use Rattle.nf_core.specs.declared.trees.Entry.{Entry}
use Rattle.nf_core.specs.declared.trees.Body.{Body}
use Rattle.nf_typing.specs.declared.fault.KindFault.{KindFault}
use Rattle.nf_typing.specs.declared.fault.KindFault.TheVariants.{SameLabel, SameKey, WrongKind}
use Rattle.nf_typing.specs.declared.clause.Clause.{Clause}
use Rattle.nf_typing.specs.declared.clause.Clause.TheVariants as clause
use Rattle.nf_typing.specs.Faults.{first, expression_fault, readable_in, fits, fit_fault, clause_fault, optional_fault, has_same_label, label_fault, key_fault, entry_fault, entries_fault, fault_of}
use Rattle.nf_typing.proofs.KindAgreementLemmas.{without_fault}

-- there is no first fault exactly where no part has one
all_none : (parts : List (Option KindFault)) → first parts ≡ None → AllByRecursion (λ o. o ≡ None) parts
all_none [] h = tt
all_none (None ∷ parts) h = (refl, all_none parts h)
all_none (Some fault ∷ parts) h = absurd cc

none_first : (parts : List (Option KindFault)) → AllByRecursion (λ o. o ≡ None) parts → first parts ≡ None
none_first [] h = refl
none_first (None ∷ parts) h = none_first parts h.1
none_first (Some fault ∷ parts) h = absurd (let e = h.0 in cc)

-- a test that has to be false
test_false : (b : Bool) (fault : KindFault) → cond b (Some fault) None ≡ None → b ≡ false
test_false true fault h = absurd cc
test_false false fault h = refl

false_test : (b : Bool) (fault : KindFault) → b ≡ false → cond b (Some fault) None ≡ None
false_test true fault h = absurd cc
false_test false fault h = refl

-- a test that has to be true
test_true : (b : Bool) → cond b None (Some WrongKind) ≡ None → IsTrue b
test_true true h = refl
test_true false h = absurd cc

true_test : (b : Bool) → IsTrue b → cond b None (Some WrongKind) ≡ None
true_test true h = refl
true_test false h = absurd cc

-- the labels of some atoms
either : (b c : Bool) → (b || c) ≡ false → (b ≡ false) × (c ≡ false)
either true c h = absurd cc
either false c h = (refl, h)

others_apart : (label : List ℕ) (atoms : List Atom) → list_any (λ (other : Atom). text_eq label other.label) atoms ≡ false → AllByRecursion (λ l. text_eq label l ≡ false) (map (λ (atom : Atom). atom.label) atoms)
others_apart label [] h = tt
others_apart label (x ∷ xs) h = let both = either (text_eq label x.label) _ h in (both.0, others_apart label xs both.1)

apart_others : (label : List ℕ) (atoms : List Atom) → AllByRecursion (λ l. text_eq label l ≡ false) (map (λ (atom : Atom). atom.label) atoms) → list_any (λ (other : Atom). text_eq label other.label) atoms ≡ false
apart_others label [] h = refl
apart_others label (x ∷ xs) h = (λ i. h.0 i || list_any (λ (other : Atom). text_eq label other.label) xs) ∙ apart_others label xs h.1

distinct_labels : (atoms : List Atom) → has_same_label atoms ≡ false → IsDistinct text_eq (map (λ (atom : Atom). atom.label) atoms)
unfolding IsDistinct
distinct_labels [] h = tt
distinct_labels (x ∷ xs) h = let both = either (list_any (λ (other : Atom). text_eq x.label other.label) xs) _ h in (others_apart x.label xs both.0, distinct_labels xs both.1)

no_same_label : (atoms : List Atom) → IsDistinct text_eq (map (λ (atom : Atom). atom.label) atoms) → has_same_label atoms ≡ false
unfolding IsDistinct
no_same_label [] h = refl
no_same_label (x ∷ xs) h = (λ i. apart_others x.label xs h.0 i || has_same_label xs) ∙ no_same_label xs h.1

labels_right : (b : Body) → label_fault b ≡ None → IsDistinct text_eq (labels_of b)
labels_right b h = distinct_labels (atoms_of b) (test_false _ SameLabel h)

right_labels : (b : Body) → IsDistinct text_eq (labels_of b) → label_fault b ≡ None
right_labels b h = false_test _ SameLabel (no_same_label (atoms_of b) h)

-- a clause
misfit : (c : Clause) → fits c None ≡ false
misfit clause.Filter = refl
misfit clause.Entry = refl
misfit clause.Start = refl
misfit clause.Stop = refl

kind_fits : (c : Clause) (k : Option Kind) → IsTrue (fits c k) → is_some k ≡ true
kind_fits c None h = absurd (let e = misfit c in cc)
kind_fits c (Some k) h = refl

-- the expression of a clause is of a kind that the clause takes
abbrev Fits : Body → Clause → Expr → Type 0
Fits b c x = IsTrue (fits c (kind_of_tree (readable_in c b) (tree x)))

clause_right : (b : Body) (c : Clause) (x : Expr) → clause_fault b c x ≡ None → Fits b c x
unfolding clause_fault
clause_right b c x h =
    let parts = all_none (expression_fault (readable_in c b) (labels_of b) (tree x) ∷ fit_fault c (kind_of_tree (readable_in c b) (tree x)) ∷ []) h in
    test_true (fits c (kind_of_tree (readable_in c b) (tree x))) parts.1.0

right_clause : (b : Body) (c : Clause) (x : Expr) → Fits b c x → clause_fault b c x ≡ None
unfolding clause_fault
right_clause b c x h = none_first (expression_fault (readable_in c b) (labels_of b) (tree x) ∷ fit_fault c (kind_of_tree (readable_in c b) (tree x)) ∷ []) (
  without_fault (readable_in c b) (labels_of b) (tree x) (kind_fits c _ h),
  (true_test (fits c (kind_of_tree (readable_in c b) (tree x))) h, tt),
)

optional_right : (b : Body) (c : Clause) (o : Option Expr) → optional_fault b c o ≡ None → All (Fits b c) (option_to_list o)
optional_right b c None h = All-nil (Fits b c)
optional_right b c (Some x) h = All-cons (Fits b c) x [] (clause_right b c x h) (All-nil (Fits b c))

right_optional : (b : Body) (c : Clause) (o : Option Expr) → All (Fits b c) (option_to_list o) → optional_fault b c o ≡ None
right_optional b c None h = refl
right_optional b c (Some x) h = right_clause b c x (All-head (Fits b c) x [] h)

-- no entry has the key of an earlier one
abbrev HasOther : List Entry → Entry → Type 0
HasOther earlier entry = list_any (λ (other : Entry). text_eq other.key entry.key) earlier ≡ false

abbrev AreApart : List Entry → List Entry → Type 0
AreApart earlier entries = AllByRecursion (HasOther earlier) entries

abbrev Differs : Entry → Entry → Type 0
Differs a b = text_eq a.key b.key ≡ false

abbrev keys : List Entry → List (List ℕ)
keys entries = map (λ (entry : Entry). entry.key) entries

either_false : (a b : Bool) → (a || (b || false)) ≡ false → (a ≡ false) × (b ≡ false)
either_false true b h = absurd cc
either_false false true h = absurd cc
either_false false false h = (refl, refl)

false_either : (a b : Bool) → a ≡ false → b ≡ false → (a || (b || false)) ≡ false
false_either true b h g = absurd cc
false_either false true h g = absurd cc
false_either false false h g = refl

module _ (earlier : List Entry) (entry : Entry) where
  split : (entries : List Entry) → AreApart (earlier ++ entry ∷ []) entries → AreApart earlier entries × AllByRecursion (Differs entry) entries
  split [] h = (tt, tt)
  split (x ∷ xs) h =
      let here = either_false _ _ (sym (list_any-append (λ (other : Entry). text_eq other.key x.key) earlier (entry ∷ [])) ∙ h.0) in
      let rest = split xs h.1 in
      ((here.0, rest.0), (here.1, rest.1))

  joined : (entries : List Entry) → AreApart earlier entries → AllByRecursion (Differs entry) entries → AreApart (earlier ++ entry ∷ []) entries
  joined [] h g = tt
  joined (x ∷ xs) h g = (list_any-append (λ (other : Entry). text_eq other.key x.key) earlier (entry ∷ []) ∙ false_either _ _ h.0 g.0, joined xs h.1 g.1)

apart_none : (entries : List Entry) → AreApart [] entries
apart_none [] = tt
apart_none (x ∷ xs) = (refl, apart_none xs)

by_key : (entry : Entry) (entries : List Entry) → AllByRecursion (Differs entry) entries → AllByRecursion (λ k. text_eq entry.key k ≡ false) (keys entries)
by_key entry [] h = tt
by_key entry (x ∷ xs) h = (h.0, by_key entry xs h.1)

key_by : (entry : Entry) (entries : List Entry) → AllByRecursion (λ k. text_eq entry.key k ≡ false) (keys entries) → AllByRecursion (Differs entry) entries
key_by entry [] h = tt
key_by entry (x ∷ xs) h = (h.0, key_by entry xs h.1)

key_right : (earlier : List Entry) (entry : Entry) → key_fault earlier entry ≡ None → HasOther earlier entry
unfolding key_fault
key_right earlier entry h = test_false _ SameKey h

right_key : (earlier : List Entry) (entry : Entry) → HasOther earlier entry → key_fault earlier entry ≡ None
unfolding key_fault
right_key earlier entry h = false_test _ SameKey h

module _ (b : Body) where
  abbrev IsValue : Entry → Type 0
  IsValue entry = Fits b clause.Entry entry.value

  pub record AreRight (earlier entries : List Entry) : Type 0 where
    pub apart : AreApart earlier entries
    pub distinct : IsDistinct text_eq (keys entries)
    pub values : AllByRecursion IsValue entries

  entries_right : (earlier entries : List Entry) → entries_fault b earlier entries ≡ None → AreRight earlier entries
  unfolding entries_fault IsDistinct
  entries_right earlier [] h = record { apart = tt; distinct = tt; values = tt }
  entries_right earlier (x ∷ xs) h =
      let whole = all_none (entry_fault b earlier x ∷ entries_fault b (earlier ++ x ∷ []) xs ∷ []) h in
      let parts = all_none (key_fault earlier x ∷ clause_fault b clause.Entry x.value ∷ []) whole.0 in
      let rest = entries_right (earlier ++ x ∷ []) xs whole.1.0 in
      let apart = split earlier x xs rest.apart in
      record { apart = (key_right earlier x parts.0, apart.0); distinct = (by_key x xs apart.1, rest.distinct); values = (clause_right b clause.Entry x.value parts.1.0, rest.values) }

  right_entries : (earlier entries : List Entry) → AreRight earlier entries → entries_fault b earlier entries ≡ None
  unfolding entries_fault IsDistinct
  right_entries earlier [] h = refl
  right_entries earlier (x ∷ xs) h =
      none_first (entry_fault b earlier x ∷ entries_fault b (earlier ++ x ∷ []) xs ∷ []) (
        none_first (key_fault earlier x ∷ clause_fault b clause.Entry x.value ∷ []) (right_key earlier x h.apart.0, (right_clause b clause.Entry x.value h.values.0, tt)),
        (right_entries (earlier ++ x ∷ []) xs (record { apart = joined earlier x xs h.apart.1 (key_by x xs h.distinct.0); distinct = h.distinct.1; values = h.values.1 }), tt),
      )

abbrev parts_of : Rule → List (Option KindFault)
parts_of rule = label_fault rule.body
    ∷ optional_fault rule.body clause.Filter rule.filter
    ∷ entries_fault rule.body [] rule.entries
    ∷ optional_fault rule.body clause.Start rule.start
    ∷ optional_fault rule.body clause.Stop rule.stop
    ∷ []

rule_right : (rule : Rule) → fault_of rule ≡ None → AreKindsRight rule
unfolding fault_of
rule_right rule h =
    let parts = all_none (parts_of rule) h in
    let entries = entries_right rule.body [] rule.entries parts.1.1.0 in
    record {
      labels = labels_right rule.body parts.0;
      filter = optional_right rule.body clause.Filter rule.filter parts.1.0;
      keys = entries.distinct;
      entries = All-from_recursion (IsValue rule.body) rule.entries entries.values;
      start = optional_right rule.body clause.Start rule.start parts.1.1.1.0;
      stop = optional_right rule.body clause.Stop rule.stop parts.1.1.1.1.0;
    }

right_rule : (rule : Rule) → AreKindsRight rule → fault_of rule ≡ None
unfolding fault_of
right_rule rule h = none_first (parts_of rule) (
  right_labels rule.body h.labels,
  (
    right_optional rule.body clause.Filter rule.filter h.filter,
    (
      right_entries rule.body [] rule.entries (record { apart = apart_none rule.entries; distinct = h.keys; values = recursion_from_All (IsValue rule.body) rule.entries h.entries }),
      (
        right_optional rule.body clause.Start rule.start h.start,
        (right_optional rule.body clause.Stop rule.stop h.stop, tt),
      ),
    ),
  ),
)

accepted : (r : Result (Unit {0}) KindFault) → is_ok r ≡ true → result_err r ≡ None
accepted (Ok x) h = refl
accepted (Err fault) h = absurd cc

is_accepted : (r : Result (Unit {0}) KindFault) → result_err r ≡ None → is_ok r ≡ true
is_accepted (Ok x) h = refl
is_accepted (Err fault) h = absurd cc

-- an answer of the first fault accepts a rule exactly where its kinds are right
pub right : (r : Result (Unit {0}) KindFault) (rule : Rule) → result_err r ≡ fault_of rule → IsOk r ↔ AreKindsRight rule
right r rule e = (λ h. rule_right rule (sym e ∙ accepted r h), λ h. is_accepted r (e ∙ right_rule rule h))
