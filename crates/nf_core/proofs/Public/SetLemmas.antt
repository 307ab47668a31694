-- What is in a sorted list of intervals, and that its members make the list.
use Rattle.std.proofs.Common.{◌≡◌, Bool, true, false, cond, not, ◌&&◌, ◌||◌, List, [], ◌∷◌, ◌++◌, filter, fold, refl, sym, ap, ◌∙◌, true≢false}
use Rattle.std.specs.declared.cmp.Ordering.{Ordering}
use Rattle.std.specs.declared.cmp.Ordering.TheVariants.{Less, Equal, Greater}
use Rattle.std.specs.Ordering.{match_ordering, is_eq}
use Rattle.std.specs.List.{list_any}
use Rattle.std.specs.List.Sorted.{IsStrictlySortedBy}
use Rattle.std.specs.BTreeSet.{BTreeSet}
use Rattle.std.proofs.lemmas.List.Elements.{All-from_recursion, recursion_from_All, All-weaker}
use Rattle.std.proofs.lemmas.List.Folds.{list_any_none, list_any-append}
use Rattle.std.proofs.lemmas.List.Kept.{IsStrictlySortedBy-filter}
use Rattle.std.proofs.lemmas.Map.Lookups.{btree_set_from_contains}
use Rattle.std.proofs.lemmas.Map.Views.{All-remove_key}
use Rattle.nf_lemmas.proofs.BoolLemmas.{and_false, and_true, or_swapped, or_once}
use Rattle.nf_core.specs.Intervals.{Interval, interval_cmp, interval_cmp_total, same}
use Rattle.nf_core.specs.Sets.{IsSet, has, inserted, removed, once}
use Rattle.nf_core.proofs.Public.AscendingLemmas.{IsStrictlySortedBy-fold}
use Rattle.nf_core.proofs.Public.SameIntervalLemmas.{exact_interval, same_is, same_self}

and_swapped : (a b : Bool) → (a && b) ≡ (b && a)
and_swapped true true = refl
and_swapped true false = refl
and_swapped false true = refl
and_swapped false false = refl

or_true : (a b : Bool) → b ≡ true → (a || b) ≡ true
or_true true b h = refl
or_true false b h = h

-- ---- members
-- an interval that is entered is there, besides those that were
pub has_inserted : (i : Interval) (is : List Interval) (q : Interval) → has (inserted i is) q ≡ (same q i || has is q)
has_inserted i [] q = refl
has_inserted i (x ∷ xs) q = by (interval_cmp i x) refl (has_inserted i xs q)
  where
    by : (o : Ordering) → interval_cmp i x ≡ o → has (inserted i xs) q ≡ (same q i || has xs q)
        → has (match_ordering o (i ∷ x ∷ xs) (x ∷ xs) (x ∷ inserted i xs)) q ≡ (same q i || (same q x || has xs q))
    by Less e rest = refl
    by Equal e rest =
        or_once (same q x) (has xs q) ∙ ap (λ j. same q j || (same q x || has xs q)) (sym (exact_interval i x e))
    by Greater e rest = ap (λ b. same q x || b) rest ∙ or_swapped (same q x) (same q i) (has xs q)

-- the first of a sorted list isn't among the rest
pub none_again : (x : Interval) (xs : List Interval) → IsSet (x ∷ xs) → has xs x ≡ false
unfolding IsStrictlySortedBy
none_again x xs s = list_any_none (same x) xs (All-weaker (λ y. interval_cmp x y ≡ Less) (λ y. same x y ≡ false) (λ y h. ap is_eq h) xs (All-from_recursion _ xs s.0))

-- an interval that is taken out is gone, and the others stay
pub has_removed : (i : Interval) (is : List Interval) (q : Interval) → IsSet is → has (removed i is) q ≡ (has is q && not (same q i))
unfolding IsStrictlySortedBy
has_removed i [] q s = refl
has_removed i (x ∷ xs) q s = by (same i x) (same q x) refl refl (has_removed i xs q s.1)
  where
    by : (b c : Bool) → same i x ≡ b → same q x ≡ c → has (removed i xs) q ≡ (has xs q && not (same q i))
        → has (cond b xs (x ∷ removed i xs)) q ≡ ((same q x || has xs q) && not (same q i))
    by true true e f rest =
        let left : has xs q ≡ false = ap (has xs) (same_is q x f) ∙ none_again x xs s in
        let out : same q i ≡ true = ap (same q) (same_is i x e) ∙ f in
        left ∙ sym (ap (λ b. (same q x || has xs q) && not b) out ∙ and_false (same q x || has xs q))
    by true false e f rest =
        let kept : same q i ≡ false = ap (same q) (same_is i x e) ∙ f in
        sym (ap (λ b. (b || has xs q) && not (same q i)) f ∙ ap (λ b. has xs q && not b) kept ∙ and_true (has xs q))
    by false true e f rest =
        let kept : same q i ≡ false = apart (same q i) refl in
        ap (λ b. b || has (removed i xs) q) f ∙ sym (ap (λ b. (b || has xs q) && not (same q i)) f ∙ ap not kept)
      where
        apart : (b : Bool) → same q i ≡ b → same q i ≡ false
        apart false g = g
        apart true g = absurd (true≢false (sym f ∙ ap (λ j. same j x) (same_is q i g) ∙ e))
    by false false e f rest = ap (λ b. b || has (removed i xs) q) f ∙ rest ∙ sym (ap (λ b. (b || has xs q) && not (same q i)) f)

pub has_append : (is js : List Interval) (q : Interval) → has (is ++ js) q ≡ (has is q || has js q)
has_append is js q = list_any-append (same q) is js

-- what a filter keeps of a list
pub has_filter : (p : Interval → Bool) (q : Interval) (xs : List Interval) → has (filter p xs) q ≡ (has xs q && p q)
has_filter p q [] = refl
has_filter p q (x ∷ xs) = at (p x) (same q x) refl refl (has_filter p q xs)
  where
    at : (b c : Bool) → p x ≡ b → same q x ≡ c → has (filter p xs) q ≡ (has xs q && p q) → has (cond b (x ∷ filter p xs) (filter p xs)) q ≡ ((same q x || has xs q) && p q)
    at true true e f later =
        let kept : p q ≡ true = ap p (same_is q x f) ∙ e in
        rw (f, kept) refl
    at true false e f later = rw f later
    at false true e f later =
        let out : p q ≡ false = ap p (same_is q x f) ∙ e in
        later ∙ ap (λ b. has xs q && b) out ∙ and_false (has xs q) ∙ sym (ap (λ b. (same q x || has xs q) && b) out ∙ and_false (same q x || has xs q))
    at false false e f later = rw f later

-- intervals put in one by one
has_entered : (is all : List Interval) (q : Interval) → has (fold (λ set i. inserted i set) all is) q ≡ (has is q || has all q)
has_entered [] all q = refl
has_entered (x ∷ xs) all q =
    has_entered xs (inserted x all) q ∙ ap (λ b. has xs q || b) (has_inserted x all q) ∙ turned (has xs q) (same q x) (has all q)
  where
    turned : (a b c : Bool) → (a || (b || c)) ≡ ((b || a) || c)
    turned true true c = refl
    turned true false c = refl
    turned false true c = refl
    turned false false c = refl

pub has_once : (is : List Interval) (q : Interval) → has (once is) q ≡ has is q
has_once is q = has_entered is [] q ∙ or_false (has is q)
  where
    or_false : (b : Bool) → (b || false) ≡ b
    or_false true = refl
    or_false false = refl

-- ---- sorted lists
pub IsSet-empty : IsSet []
unfolding IsStrictlySortedBy
IsSet-empty = tt

pub IsSet-inserted : (i : Interval) (is : List Interval) → IsSet is → IsSet (inserted i is)
IsSet-inserted i is s = IsStrictlySortedBy-fold interval_cmp interval_cmp_total (i ∷ []) is s

pub IsSet-removed : (i : Interval) (is : List Interval) → IsSet is → IsSet (removed i is)
unfolding IsStrictlySortedBy
IsSet-removed i [] s = s
IsSet-removed i (x ∷ xs) s = by (same i x) (IsSet-removed i xs s.1)
  where
    by : (b : Bool) → IsSet (removed i xs) → IsSet (cond b xs (x ∷ removed i xs))
    by true rest = s.1
    by false rest = (recursion_from_All _ (removed i xs) (All-remove_key (same i) (λ y. interval_cmp x y ≡ Less) xs (All-from_recursion _ xs s.0)), rest)

pub IsSet-filter : (p : Interval → Bool) (is : List Interval) → IsSet is → IsSet (filter p is)
IsSet-filter p is s = IsStrictlySortedBy-filter interval_cmp p is s

pub IsSet-once : (is : List Interval) → IsSet (once is)
IsSet-once is = IsStrictlySortedBy-fold interval_cmp interval_cmp_total is [] IsSet-empty

-- sorted lists with the same members are one list
pub same_set : (is js : List Interval) → IsSet is → IsSet js → ((q : Interval) → has is q ≡ has js q) → is ≡ js
same_set is js s t alike =
    let one : BTreeSet Interval = record { keys = is } in
    let other : BTreeSet Interval = record { keys = js } in
    btree_set_from_contains interval_cmp_total one other s t alike exact_interval

-- what two sorted lists share is one list
pub shared : (is js : List Interval) → IsSet is → IsSet js → filter (has js) is ≡ filter (has is) js
shared is js s t =
    same_set (filter (has js) is) (filter (has is) js) (IsSet-filter (has js) is s) (IsSet-filter (has is) js t)
    (λ q. has_filter (has js) q is ∙ and_swapped (has is q) (has js q) ∙ sym (has_filter (has is) q js))

-- ---- tests of members
-- a member that passes a test
pub record Passes (p : Interval → Bool) (is : List Interval) : Type 0 where
  pub member : Interval
  pub there : has is member ≡ true
  pub passes : p member ≡ true

-- a test that some member passes is passed by one of them
pub any_passes : (p : Interval → Bool) (is : List Interval) → list_any p is ≡ true → Passes p is
any_passes p [] some = absurd (true≢false (sym some))
any_passes p (x ∷ xs) some = by (p x) refl (any_passes p xs)
  where
    by : (b : Bool) → p x ≡ b → (list_any p xs ≡ true → Passes p xs) → Passes p (x ∷ xs)
    by true e rest = record { member = x; there = ap (λ b. b || has xs x) (same_self x); passes = e }
    by false e rest =
        let later = rest (sym (ap (λ b. b || list_any p xs) e) ∙ some) in
        record { member = later.member; there = or_true (same later.member x) (has xs later.member) later.there; passes = later.passes }

pub any_member : (p : Interval → Bool) (is : List Interval) (q : Interval) → has is q ≡ true → p q ≡ true → list_any p is ≡ true
any_member p [] q there passes = absurd (true≢false (sym there))
any_member p (x ∷ xs) q there passes = by (same q x) refl (λ h. any_member p xs q h passes)
  where
    by : (b : Bool) → same q x ≡ b → (has xs q ≡ true → list_any p xs ≡ true) → (p x || list_any p xs) ≡ true
    by true e rest = ap (λ b. b || list_any p xs) (sym (ap p (same_is q x e)) ∙ passes)
    by false e rest = or_true (p x) (list_any p xs) (rest (sym (ap (λ b. b || has xs q) e) ∙ there))

-- lists that have the same members of those that pass a test agree on whether one passes it
pub any_alike : (p : Interval → Bool) (is js : List Interval) → ((q : Interval) → p q ≡ true → has is q ≡ has js q) → list_any p is ≡ list_any p js
any_alike p is js alike = both (list_any p is) (list_any p js) refl refl
  where
    one : (ls ms : List Interval) → ((q : Interval) → p q ≡ true → has ls q ≡ has ms q) → list_any p ls ≡ true → list_any p ms ≡ true
    one ls ms h some =
        let m = any_passes p ls some in
        any_member p ms m.member (sym (h m.member m.passes) ∙ m.there) m.passes

    both : (a b : Bool) → list_any p is ≡ a → list_any p js ≡ b → a ≡ b
    both true true e f = refl
    both true false e f = absurd (true≢false (sym (one is js alike e) ∙ f))
    both false true e f = absurd (true≢false (sym (one js is (λ q h. sym (alike q h)) f) ∙ e))
    both false false e f = refl
