-- How often ends fall in a list, by its parts.
use Rattle.std.proofs.Common.{◌≡◌, ◌+◌, ◌≤◌, Bool, true, false, cond, not, ◌&&◌, ◌||◌, List, [], ◌∷◌, ◌++◌, filter, length, Option, Some, None, refl, sym, ap, ◌∙◌, true≢false, arith, Bor}
use Rattle.std.specs.Option.{is_some, option_copied}
use Rattle.std.specs.Iterator.{YieldsFirstRef, YieldsLastRef}
use Rattle.std.specs.declared.cmp.Ordering.{Ordering}
use Rattle.std.specs.declared.cmp.Ordering.TheVariants.{Less, Equal, Greater}
use Rattle.std.specs.Ordering.{is_eq, is_lt, is_le, match_ordering, ordering_reverse}
use Rattle.std.specs.List.{AllByRecursion}
use Rattle.std.specs.List.Sorted.{IsStrictlySortedBy}
use Rattle.nf_core.specs.Intervals.{Interval, interval_cmp, interval_cmp_total}
use Rattle.nf_core.specs.Sets.{IsSet, has, inserted}
use Rattle.nf_core.proofs.Public.SetLemmas.{has_filter}
use Rattle.nf_index.specs.declared.falls.Turns.{Turns}
use Rattle.nf_index.specs.inner.Orders.{AreBefore, fall, falls, falls_from, or_none}
use Rattle.nf_index.specs.inner.Turning.{IsBehind}

-- the intervals before one, and those after it
abbrev pub before : Interval → Interval → Bool
before i j = not (is_le (interval_cmp i j))

abbrev pub after : Interval → Interval → Bool
after i j = is_lt (interval_cmp i j) && true

abbrev AllLater : Interval → List Interval → Type 0
AllLater x xs = AllByRecursion (λ y. interval_cmp x y ≡ Less) xs

none_before : (i x : Interval) → interval_cmp i x ≡ Less → (xs : List Interval) → AllLater x xs → filter (before i) xs ≡ []
none_before i x e [] all = refl
none_before i x e (y ∷ ys) all =
    ap (λ o. cond (not (is_le o)) (y ∷ filter (before i) ys) (filter (before i) ys)) (interval_cmp_total.trans i x y e all.0) ∙ none_before i x e ys all.1

all_after : (i x : Interval) → interval_cmp i x ≡ Less → (xs : List Interval) → AllLater x xs → filter (after i) xs ≡ xs
all_after i x e [] all = refl
all_after i x e (y ∷ ys) all =
    ap (λ o. cond (is_lt o && true) (y ∷ filter (after i) ys) (filter (after i) ys)) (interval_cmp_total.trans i x y e all.0) ∙ ap (λ zs. y ∷ zs) (all_after i x e ys all.1)

-- a sorted list is parted by an interval that isn't there, and that one goes between the parts
pub record IsParted (i : Interval) (is : List Interval) : Type 0 where
  pub whole : is ≡ filter (before i) is ++ filter (after i) is
  pub more : inserted i is ≡ filter (before i) is ++ i ∷ filter (after i) is

pub parted : (i : Interval) (is : List Interval) → IsSet is → has is i ≡ false → IsParted i is
unfolding IsStrictlySortedBy
parted i [] s absent = record { whole = refl; more = refl }
parted i (x ∷ xs) s absent = by (interval_cmp i x) refl (parted i xs s.1)
  where
    by : (o : Ordering) → interval_cmp i x ≡ o → (has xs i ≡ false → IsParted i xs) → IsParted i (x ∷ xs)
    by Less e rest =
        let front : filter (before i) (x ∷ xs) ≡ [] = ap (λ o. cond (not (is_le o)) (x ∷ filter (before i) xs) (filter (before i) xs)) e ∙ none_before i x e xs s.0 in
        let back : filter (after i) (x ∷ xs) ≡ x ∷ xs = ap (λ o. cond (is_lt o && true) (x ∷ filter (after i) xs) (filter (after i) xs)) e ∙ ap (λ zs. x ∷ zs) (all_after i x e xs s.0) in
        record {
          whole = sym (λ k. front k ++ back k);
          more = ap (λ o. match_ordering o (i ∷ x ∷ xs) (x ∷ xs) (x ∷ inserted i xs)) e ∙ sym (λ k. front k ++ i ∷ back k);
        }
    by Equal e rest = absurd (true≢false (sym (ap (λ o. is_eq o || has xs i) e) ∙ absent))
    by Greater e rest =
        let later = rest (sym (ap (λ o. is_eq o || has xs i) e) ∙ absent) in
        let front : filter (before i) (x ∷ xs) ≡ x ∷ filter (before i) xs = ap (λ o. cond (not (is_le o)) (x ∷ filter (before i) xs) (filter (before i) xs)) e in
        let back : filter (after i) (x ∷ xs) ≡ filter (after i) xs = ap (λ o. cond (is_lt o && true) (x ∷ filter (after i) xs) (filter (after i) xs)) e in
        record {
          whole = ap (λ zs. x ∷ zs) later.whole ∙ sym (λ k. front k ++ back k);
          more = ap (λ o. match_ordering o (i ∷ x ∷ xs) (x ∷ xs) (x ∷ inserted i xs)) e ∙ ap (λ zs. x ∷ zs) later.more ∙ sym (λ k. front k ++ i ∷ back k);
        }

-- ---- the ends of a list
abbrev pub first_of : List Interval → Option Interval
first_of [] = None
first_of (x ∷ xs) = Some x

abbrev pub last_from : Interval → List Interval → Interval
last_from x [] = x
last_from x (y ∷ ys) = last_from y ys

abbrev pub last_of : List Interval → Option Interval
last_of [] = None
last_of (x ∷ xs) = Some (last_from x xs)

last_of_none : {l : Interval} → last_of [] ≡ Some l → ⊥
last_of_none e = true≢false (sym (ap is_some e))

flipped : (i x : Interval) → interval_cmp x i ≡ Less → interval_cmp i x ≡ Greater
flipped i x e = interval_cmp_total.antisymm i x ∙ ap ordering_reverse e

-- what is there, else another one
given : Option Interval → Interval → Interval
given None x = x
given (Some y) x = y

last_from_pushed : (x : Interval) (xs : List Interval) (e : Interval) → last_from x (xs ++ e ∷ []) ≡ e
last_from_pushed x [] e = refl
last_from_pushed x (y ∷ ys) e = last_from_pushed y ys e

pub last_of_pushed : (xs : List Interval) (e : Interval) → last_of (xs ++ e ∷ []) ≡ Some e
last_of_pushed [] e = refl
last_of_pushed (x ∷ xs) e = ap Some (last_from_pushed x xs e)

-- what an iterator gives from either end
pub last_given : (r : Option (Bor Interval)) (xs ys : List Interval) → YieldsLastRef (λ zs. zs) xs r ys → last_of xs ≡ option_copied r
last_given None xs ys h = ap last_of h.0
last_given (Some x) xs ys h = ap last_of h ∙ last_of_pushed ys x.now

pub first_given : (r : Option (Bor Interval)) (xs ys : List Interval) → YieldsFirstRef (λ zs. zs) xs r ys → first_of xs ≡ option_copied r
first_given None xs ys h = ap first_of h.0
first_given (Some x) xs ys h = ap first_of h

-- and what a part that may be missing gives
pub none_in : (r : Option (Bor Interval)) (xs ys : Option (List Interval)) → YieldsFirstRef or_none xs r ys → is_some r ≡ false → or_none xs ≡ []
none_in None xs ys h e = h.0
none_in (Some x) xs ys h e = absurd (true≢false e)

pub first_in : (r : Option (Bor Interval)) (xs ys : Option (List Interval)) → YieldsFirstRef or_none xs r ys → first_of (or_none xs) ≡ option_copied r
first_in None xs ys h = ap first_of h.0
first_in (Some x) xs ys h = ap first_of h

-- ---- falls
bit : (b : Bool) → cond b 1 0 ≤ 1
bit true = omega arith
bit false = omega arith

fall_most : (a c : Option Interval) → fall a c ≤ 1
fall_most None c = omega arith
fall_most (Some x) None = omega arith
fall_most (Some x) (Some y) = bit _

falls_joined : (x : Interval) (xs ys : List Interval) → falls_from x (xs ++ ys) ≡ falls_from x xs + (fall (Some (last_from x xs)) (first_of ys) + falls ys)
unfolding falls falls_from
falls_joined x [] [] = refl
falls_joined x [] (y ∷ ys) = omega arith
falls_joined x (z ∷ zs) ys = let later = falls_joined z zs ys in omega arith

pub falls_append : (xs ys : List Interval) → falls (xs ++ ys) ≡ falls xs + (fall (last_of xs) (first_of ys) + falls ys)
unfolding falls falls_from
falls_append [] ys = omega arith
falls_append (x ∷ xs) ys = falls_joined x xs ys

falls_first : (i : Interval) (ys : List Interval) → falls (i ∷ ys) ≡ fall (Some i) (first_of ys) + falls ys
unfolding falls falls_from
falls_first i [] = refl
falls_first i (y ∷ ys) = refl

-- an interval that goes in changes the falls at its place
pub falls_inserted : (i : Interval) (is : List Interval) → IsSet is → has is i ≡ false
    → falls (inserted i is) + fall (last_of (filter (before i) is)) (first_of (filter (after i) is))
    ≡ falls is + (fall (last_of (filter (before i) is)) (Some i) + fall (Some i) (first_of (filter (after i) is)))
falls_inserted i is s absent =
    let parts = parted i is s absent in
    let b = filter (before i) is in
    let a = filter (after i) is in
    let with : falls (inserted i is) ≡ falls b + (fall (last_of b) (Some i) + falls (i ∷ a)) = ap falls parts.more ∙ falls_append b (i ∷ a) in
    let without : falls is ≡ falls b + (fall (last_of b) (first_of a) + falls a) = ap falls parts.whole ∙ falls_append b a in
    let on : falls (i ∷ a) ≡ fall (Some i) (first_of a) + falls a = falls_first i a in
    omega arith

-- and they were not fewer than what went
pub falls_without : (i : Interval) (is : List Interval) → IsSet is → has is i ≡ false
    → fall (last_of (filter (before i) is)) (first_of (filter (after i) is)) ≤ falls is
falls_without i is s absent =
    let parts = parted i is s absent in
    let b = filter (before i) is in
    let a = filter (after i) is in
    let without : falls is ≡ falls b + (fall (last_of b) (first_of a) + falls a) = ap falls parts.whole ∙ falls_append b a in
    omega arith

-- ---- an interval behind all others
first_before : (i x : Interval) (xs : List Interval) → IsSet (x ∷ xs) → interval_cmp (last_from x xs) i ≡ Less → interval_cmp x i ≡ Less
unfolding IsStrictlySortedBy
first_before i x [] s e = e
first_before i x (y ∷ ys) s e = interval_cmp_total.trans x y i s.0.0 (first_before i y ys s.1 e)

-- all of the list come before it
record AllBefore (i : Interval) (is : List Interval) : Type 0 where
  pub front : filter (before i) is ≡ is
  pub back : filter (after i) is ≡ []
  pub absent : has is i ≡ false

none_behind : (i : Interval) → AllBefore i []
none_behind i = record { front = refl; back = refl; absent = refl }

one_before : (i x : Interval) (xs : List Interval) → interval_cmp i x ≡ Greater → AllBefore i xs → AllBefore i (x ∷ xs)
one_before i x xs e rest = record {
  front = ap (λ o. cond (not (is_le o)) (x ∷ filter (before i) xs) (filter (before i) xs)) e ∙ ap (λ zs. x ∷ zs) rest.front;
  back = ap (λ o. cond (is_lt o && true) (x ∷ filter (after i) xs) (filter (after i) xs)) e ∙ rest.back;
  absent = ap (λ o. is_eq o || has xs i) e ∙ rest.absent;
}

all_behind : (i x : Interval) (xs : List Interval) → IsSet (x ∷ xs) → interval_cmp (last_from x xs) i ≡ Less → AllBefore i (x ∷ xs)
unfolding IsStrictlySortedBy
all_behind i x [] s e = one_before i x [] (flipped i x e) (none_behind i)
all_behind i x (y ∷ ys) s e = one_before i x (y ∷ ys) (flipped i x (first_before i x (y ∷ ys) s e)) (all_behind i y ys s.1 e)

-- where the last one comes before another one, all do
pub before_all : (k l : Interval) (is : List Interval) → IsSet is → last_of is ≡ Some l → interval_cmp l k ≡ Less → AreBefore is k
unfolding given
before_all k l [] s last e i there = absurd (true≢false (sym there))
before_all k l (x ∷ xs) s last e i there =
    each (x ∷ xs) (all_behind k x xs s (ap (λ o. interval_cmp (given o x) k) last ∙ e)).front i there
  where
    each : (is : List Interval) → filter (before k) is ≡ is → (i : Interval) → has is i ≡ true → is_le (interval_cmp k i) ≡ false
    each is front i there = back _ (passes is front i there)
      where
        back : (b : Bool) → not b ≡ true → b ≡ false
        back true f = sym f
        back false f = refl

        passes : (is : List Interval) → filter (before k) is ≡ is → (i : Interval) → has is i ≡ true → before k i ≡ true
        passes is front i there = second (has is i) (before k i) (sym (has_filter (before k) i is) ∙ ap (λ js. has js i) front ∙ there)
          where
            second : (a b : Bool) → (a && b) ≡ true → b ≡ true
            second true b e = e
            second false b e = absurd (true≢false (sym e))

-- the whole of a list, by a range without bounds
pub whole : (is : List Interval) → filter (λ i. true) is ≡ is
whole [] = refl
whole (i ∷ is) = ap (λ js. i ∷ js) (whole is)

pub is_less : (o : Ordering) → is_lt o ≡ true → o ≡ Less
is_less Less e = refl
is_less Equal e = absurd (true≢false (sym e))
is_less Greater e = absurd (true≢false (sym e))

-- so its turns are those from the last one to it
pub turns_behind : (i l : Interval) (is : List Interval) (turns : Turns) → IsSet is → last_of is ≡ Some l → interval_cmp l i ≡ Less
    → turns.with ≡ fall (Some l) (Some i) → turns.without ≡ 0 → IsBehind is i turns
unfolding given
turns_behind i l [] turns s last e with without = absurd (last_of_none last)
turns_behind i l (x ∷ xs) turns s last e with without =
    let all = all_behind i x xs s (ap (λ o. interval_cmp (given o x) i) last ∙ e) in
    let put = falls_inserted i (x ∷ xs) s all.absent in
    let one : fall (last_of (filter (before i) (x ∷ xs))) (first_of (filter (after i) (x ∷ xs))) ≡ 0 = (λ k. fall (last_of (all.front k)) (first_of (all.back k))) in
    let two : fall (last_of (filter (before i) (x ∷ xs))) (Some i) ≡ fall (Some l) (Some i) = ap (λ zs. fall (last_of zs) (Some i)) all.front ∙ ap (λ o. fall o (Some i)) last in
    let three : fall (Some i) (first_of (filter (after i) (x ∷ xs))) ≡ 0 = ap (λ zs. fall (Some i) (first_of zs)) all.back in
    let few = fall_most (Some l) (Some i) in
    record {
      absent = all.absent;
      turns = record {
        changes = omega arith;
        within = omega arith;
        most = omega arith;
      };
    }

-- at most one for each interval but the first
falls_few : (i : Interval) (is : List Interval) → falls_from i is ≤ length is
unfolding falls falls_from
falls_few i [] = omega arith
falls_few i (j ∷ js) = let later = falls_few j js in let here = fall_most (Some i) (Some j) in omega arith

pub falls_most : (is : List Interval) → falls is ≤ length is
unfolding falls falls_from
falls_most [] = omega arith
falls_most (i ∷ is) = let later = falls_few i is in omega arith
