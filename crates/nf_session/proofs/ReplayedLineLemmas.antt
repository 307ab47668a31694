-- Reading announcement lines, by how often each line stands in a list.
use Rattle.std.proofs.Common.{◌≡◌, ℕ, ◌+◌, ◌≤◌, Bool, true, false, cond, ◌||◌, List, [], ◌∷◌, ◌++◌, map, fold, refl, sym, ap, subst, ◌∙◌, arith}
use Rattle.std.specs.declared.cmp.Ordering.{Ordering}
use Rattle.std.specs.declared.cmp.Ordering.TheVariants.{Less, Equal, Greater}
use Rattle.std.specs.Ordering.{match_ordering, is_eq}
use Rattle.std.specs.List.{sum_by, list_any, AllByRecursion, IsDistinct}
use Rattle.std.specs.List.Sorted.{IsStrictlySortedBy}
use Rattle.std.specs.BTreeSet.{BTreeSet, insert_key}
use Rattle.std.specs.Set.{remove_key}
use Rattle.std.specs.Cmp.Lexicographic.{nat_list_cmp_total, nat_list_eq_equiv, bytes_decides}
use Rattle.std.proofs.lemmas.List.Sums.{sum_by-cons}
use Rattle.std.proofs.lemmas.Map.Lookups.{exact_bytes, btree_set_from_contains}
use Rattle.std.proofs.lemmas.Map.Text.{is_eq-slice_cmp}
use Rattle.nf_core.specs.Texts.{text_cmp, text_eq}
use Rattle.nf_core.specs.Written.{ascending}
use Rattle.nf_core.proofs.Public.AscendingLemmas.{IsStrictlySortedBy-fold}
use Rattle.nf_session.specs.Replay.{replay_from}
use Rattle.nf_lemmas.proofs.BoolLemmas.{neither}

-- 1 where a line is another one, else 0
abbrev pub hit : List ℕ → List ℕ → ℕ
hit x y = cond (text_eq x y) 1 0

-- how often a line stands in a list
abbrev pub times : List ℕ → List (List ℕ) → ℕ
times x lines = sum_by (hit x) lines

same : (s t : List ℕ) → text_eq s t ≡ true → s ≡ t
same s t = (bytes_decides s t).0

itself : (s : List ℕ) → hit s s ≡ 1
itself s = rw (nat_list_eq_equiv.refl s) refl

turned : (s t : List ℕ) → hit s t ≡ hit t s
turned s t = ap (λ b. cond b 1 0) (nat_list_eq_equiv.symm s t)

-- a line is in a list where it stands there
stands : (x : List ℕ) (lines : List (List ℕ)) → list_any (text_eq x) lines ≡ false → times x lines ≡ 0
stands x [] h = refl
stands x (line ∷ lines) h = at (text_eq x line) refl (stands x lines)
  where
    at : (b : Bool) → text_eq x line ≡ b → (list_any (text_eq x) lines ≡ false → times x lines ≡ 0) → times x (line ∷ lines) ≡ 0
    at true e later = let s : true ≡ false = subst (λ c. (c || list_any (text_eq x) lines) ≡ false) e h in absurd cc
    at false e later =
        let rest = later (subst (λ c. (c || list_any (text_eq x) lines) ≡ false) e h) in
        let none : hit x line ≡ 0 = rw e refl in
        omega (arith, sum_by-cons (hit x) line lines)

stands_once : (x : List ℕ) (lines : List (List ℕ)) → list_any (text_eq x) lines ≡ true → 1 ≤ times x lines
stands_once x [] h = absurd cc
stands_once x (line ∷ lines) h = at (text_eq x line) refl (stands_once x lines)
  where
    at : (b : Bool) → text_eq x line ≡ b → (list_any (text_eq x) lines ≡ true → 1 ≤ times x lines) → 1 ≤ times x (line ∷ lines)
    at true e later = let one : hit x line ≡ 1 = rw e refl in omega (arith, sum_by-cons (hit x) line lines)
    at false e later =
        let rest = later (subst (λ c. (c || list_any (text_eq x) lines) ≡ true) e h) in
        omega (arith, sum_by-cons (hit x) line lines)

is_there : (x : List ℕ) (lines : List (List ℕ)) → 1 ≤ times x lines → list_any (text_eq x) lines ≡ true
is_there x lines h = at (list_any (text_eq x) lines) refl
  where
    at : (b : Bool) → list_any (text_eq x) lines ≡ b → b ≡ true
    at true e = refl
    at false e = let none = stands x lines e in absurd (omega arith)

is_missing : (x : List ℕ) (lines : List (List ℕ)) → times x lines ≡ 0 → list_any (text_eq x) lines ≡ false
is_missing x lines h = at (list_any (text_eq x) lines) refl
  where
    at : (b : Bool) → list_any (text_eq x) lines ≡ b → b ≡ false
    at true e = let some = stands_once x lines e in absurd (omega arith)
    at false e = refl

-- a line taken away
removed_times : (x line : List ℕ) (lines : List (List ℕ)) → list_any (text_eq line) lines ≡ true → times x (remove_key (text_eq line) lines) + hit x line ≡ times x lines
removed_times x line [] h = absurd cc
removed_times x line (y ∷ lines) h = at (text_eq line y) refl (removed_times x line lines)
  where
    at : (b : Bool) → text_eq line y ≡ b → (list_any (text_eq line) lines ≡ true → times x (remove_key (text_eq line) lines) + hit x line ≡ times x lines)
        → times x (cond b lines (y ∷ remove_key (text_eq line) lines)) + hit x line ≡ times x (y ∷ lines)
    at true e later = let equal : hit x line ≡ hit x y = ap (hit x) (same line y e) in omega (arith, sum_by-cons (hit x) y lines)
    at false e later =
        let rest = later (subst (λ c. (c || list_any (text_eq line) lines) ≡ true) e h) in
        omega (arith, sum_by-cons (hit x) y lines, sum_by-cons (hit x) y (remove_key (text_eq line) lines))

each_removed : (P : List ℕ → Type 0) (test : List ℕ → Bool) (lines : List (List ℕ)) → AllByRecursion P lines → AllByRecursion P (remove_key test lines)
each_removed P test [] h = tt
each_removed P test (y ∷ lines) h = at (test y) (each_removed P test lines h.1)
  where
    at : (b : Bool) → AllByRecursion P (remove_key test lines) → AllByRecursion P (cond b lines (y ∷ remove_key test lines))
    at true later = h.1
    at false later = (h.0, later)

sorted_removed : (test : List ℕ → Bool) (lines : List (List ℕ)) → IsStrictlySortedBy text_cmp lines → IsStrictlySortedBy text_cmp (remove_key test lines)
unfolding IsStrictlySortedBy
sorted_removed test [] h = tt
sorted_removed test (y ∷ lines) h = at (test y) (sorted_removed test lines h.1)
  where
    at : (b : Bool) → IsStrictlySortedBy text_cmp (remove_key test lines) → IsStrictlySortedBy text_cmp (cond b lines (y ∷ remove_key test lines))
    at true later = h.1
    at false later = (each_removed (λ z. text_cmp y z ≡ Less) test lines h.0, later)

-- a line added
inserted_times : (x line : List ℕ) (lines : List (List ℕ)) → list_any (text_eq line) lines ≡ false → times x (insert_key text_cmp lines line) ≡ times x lines + hit x line
inserted_times x line [] h = omega (arith, sum_by-cons (hit x) line [])
inserted_times x line (y ∷ lines) h = at (text_cmp line y) refl (text_eq line y) refl (inserted_times x line lines)
  where
    at : (o : Ordering) → text_cmp line y ≡ o → (b : Bool) → text_eq line y ≡ b → (list_any (text_eq line) lines ≡ false → times x (insert_key text_cmp lines line) ≡ times x lines + hit x line)
        → times x (match_ordering o (line ∷ y ∷ lines) (y ∷ lines) (y ∷ insert_key text_cmp lines line)) ≡ times x (y ∷ lines) + hit x line
    at o f true e later = let s : true ≡ false = subst (λ c. (c || list_any (text_eq line) lines) ≡ false) e h in absurd cc
    at Less f false e later = omega (arith, sum_by-cons (hit x) line (y ∷ lines))
    at Equal f false e later = let s : false ≡ true = sym e ∙ ap (text_eq line) (sym (exact_bytes line y f)) ∙ nat_list_eq_equiv.refl line in absurd cc
    at Greater f false e later =
        let rest = later (subst (λ c. (c || list_any (text_eq line) lines) ≡ false) e h) in
        omega (arith, sum_by-cons (hit x) y lines, sum_by-cons (hit x) y (insert_key text_cmp lines line))

sorted_inserted : (lines : List (List ℕ)) (line : List ℕ) → IsStrictlySortedBy text_cmp lines → IsStrictlySortedBy text_cmp (insert_key text_cmp lines line)
sorted_inserted lines line h = IsStrictlySortedBy-fold text_cmp nat_list_cmp_total (line ∷ []) lines h

-- lists that ascend, with each line as often, are the same
tested : (q : List ℕ) (lines : List (List ℕ)) → list_any (λ line. is_eq (text_cmp q line)) lines ≡ list_any (text_eq q) lines
tested q [] = refl
tested q (line ∷ lines) = λ i. is_eq-slice_cmp q line i || tested q lines i

as_often : (q : List ℕ) (xs ys : List (List ℕ)) → times q xs ≡ times q ys → list_any (text_eq q) xs ≡ list_any (text_eq q) ys
as_often q xs ys h = at (list_any (text_eq q) ys) refl
  where
    at : (b : Bool) → list_any (text_eq q) ys ≡ b → list_any (text_eq q) xs ≡ b
    at true e = let some = stands_once q ys e in is_there q xs (omega arith)
    at false e = let none = stands q ys e in is_missing q xs (omega arith)

pub same_lines : (xs ys : List (List ℕ)) → IsStrictlySortedBy text_cmp xs → IsStrictlySortedBy text_cmp ys → ((q : List ℕ) → times q xs ≡ times q ys) → xs ≡ ys
same_lines xs ys s t h =
    let one : BTreeSet (List ℕ) = record { keys = xs } in
    let other : BTreeSet (List ℕ) = record { keys = ys } in
    btree_set_from_contains nat_list_cmp_total one other s t (λ q. tested q xs ∙ as_often q xs ys (h q) ∙ sym (tested q ys)) exact_bytes

-- lines put in their order
filled_times : (lines set : List (List ℕ)) → ((q : List ℕ) → times q set + times q lines ≤ 1) → (x : List ℕ) → times x (fold (λ all text. insert_key text_cmp all text) set lines) ≡ times x set + times x lines
filled_times [] set h x = omega arith
filled_times (line ∷ lines) set h x =
    let here : times line set + times line (line ∷ lines) ≤ 1 = h line in
    let none : times line set ≡ 0 = omega (arith, sum_by-cons (hit line) line lines, itself line) in
    let missing = is_missing line set none in
    let later = filled_times lines (insert_key text_cmp set line) (λ q. omega (arith, h q, inserted_times q line set missing, sum_by-cons (hit q) line lines)) x in
    omega (arith, inserted_times x line set missing, sum_by-cons (hit x) line lines)

pub ascending_times : (lines : List (List ℕ)) → ((q : List ℕ) → times q lines ≤ 1) → (x : List ℕ) → times x (ascending lines) ≡ times x lines
ascending_times lines h x = let none : times x [] ≡ 0 = refl in omega (arith, filled_times lines [] (λ q. let empty : times q [] ≡ 0 = refl in omega (arith, h q)) x)

-- what some lines lead to, whatever comes behind
pub record LeadsTo (lines pieces result : List (List ℕ)) : Type 0 where
  pub sorted : IsStrictlySortedBy text_cmp result
  pub reads : (rest : List (List ℕ)) → replay_from lines (pieces ++ rest) ≡ replay_from result rest

read_gone : (lines : List (List ℕ)) (line : List ℕ) → list_any (text_eq line) lines ≡ true → (pieces : List (List ℕ)) → replay_from lines ((45 ∷ line) ∷ pieces) ≡ replay_from (remove_key (text_eq line) lines) pieces
unfolding replay_from
read_gone lines line there pieces = rw there refl

read_come : (lines : List (List ℕ)) (line : List ℕ) → list_any (text_eq line) lines ≡ false → (pieces : List (List ℕ)) → replay_from lines ((43 ∷ line) ∷ pieces) ≡ replay_from (insert_key text_cmp lines line) pieces
unfolding replay_from
read_come lines line missing pieces = rw missing refl

-- lines that are withdrawn
pub withdrawn : (gone lines : List (List ℕ)) → IsStrictlySortedBy text_cmp lines → ((q : List ℕ) → times q gone ≤ times q lines)
    → (left : List (List ℕ)) × LeadsTo lines (map (λ line. 45 ∷ line) gone) left × ((q : List ℕ) → times q left + times q gone ≡ times q lines)
withdrawn [] lines s h = (lines, record { sorted = s; reads = λ rest. refl }, λ q. omega arith)
withdrawn (line ∷ gone) lines s h =
    let there = is_there line lines (omega (arith, h line, sum_by-cons (hit line) line gone, itself line)) in
    let less : List (List ℕ) = remove_key (text_eq line) lines in
    let later = withdrawn gone less (sorted_removed (text_eq line) lines s) (λ q. omega (arith, h q, sum_by-cons (hit q) line gone, removed_times q line lines there)) in (
      later.0,
      record { sorted = later.1.sorted; reads = λ rest. read_gone lines line there (map (λ line. 45 ∷ line) gone ++ rest) ∙ later.1.reads rest },
      λ q. omega (arith, later.2 q, sum_by-cons (hit q) line gone, removed_times q line lines there),
    )

-- lines that are added
pub added : (come lines : List (List ℕ)) → IsStrictlySortedBy text_cmp lines → ((q : List ℕ) → times q lines + times q come ≤ 1)
    → (full : List (List ℕ)) × LeadsTo lines (map (λ line. 43 ∷ line) come) full × ((q : List ℕ) → times q full ≡ times q lines + times q come)
added [] lines s h = (lines, record { sorted = s; reads = λ rest. refl }, λ q. omega arith)
added (line ∷ come) lines s h =
    let none : times line lines ≡ 0 = omega (arith, h line, sum_by-cons (hit line) line come, itself line) in
    let missing = is_missing line lines none in
    let later = added come (insert_key text_cmp lines line) (sorted_inserted lines line s) (λ q. omega (arith, h q, sum_by-cons (hit q) line come, inserted_times q line lines missing)) in (
      later.0,
      record { sorted = later.1.sorted; reads = λ rest. read_come lines line missing (map (λ line. 43 ∷ line) come ++ rest) ∙ later.1.reads rest },
      λ q. omega (arith, later.2 q, sum_by-cons (hit q) line come, inserted_times q line lines missing),
    )

-- a list in which each line stands at most once
pub distinct_lines : (lines : List (List ℕ)) → ((q : List ℕ) → times q lines ≤ 1) → IsDistinct text_eq lines
unfolding IsDistinct
distinct_lines [] h = tt
distinct_lines (line ∷ lines) h =
    (none lines (is_missing line lines (omega (arith, h line, sum_by-cons (hit line) line lines, itself line))), distinct_lines lines (λ q. omega (arith, h q, sum_by-cons (hit q) line lines)))
  where
    none : (others : List (List ℕ)) → list_any (text_eq line) others ≡ false → AllByRecursion (λ other. text_eq line other ≡ false) others
    none [] e = tt
    none (other ∷ others) e = let parts = neither (text_eq line other) (list_any (text_eq line) others) e in (parts.0, none others parts.1)
