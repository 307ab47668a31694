-- The work of a rule as sums over its two lists: each pair, weighed, that two other lists lack.
use Rattle.std.proofs.Common.{◌≡◌, ℕ, ◌+◌, ◌*◌, Bool, true, false, cond, not, ◌&&◌, ◌||◌, List, [], ◌∷◌, map, filter, length, sum_by, count_by, ◌==◌, Some, None, refl, ap, sym, ◌∙◌, arith, add-mul}
use Rattle.std.specs.List.{list_any}
use Rattle.std.specs.Option.{option_eq}
use Rattle.std.proofs.lemmas.List.Folds.{list_any-append, fold-map}
use Rattle.std.proofs.lemmas.List.Sums.{sum_by-cons, sum_by-append, length-filter}
use Rattle.std.proofs.lemmas.Map.Views.{any-filter_same}
use Rattle.nf_lemmas.proofs.MapLemmas.{list_any-map}
use Rattle.nf_core.specs.Intervals.{Interval, same}
use Rattle.nf_core.specs.Sets.{has}
use Rattle.nf_core.specs.Relations.{holds}
use Rattle.nf_core.specs.declared.operators.Op.{Op}
use Rattle.nf_core.specs.declared.operators.Xop.{Xop}
use Rattle.nf_core.specs.declared.terms.Link.{Link}
use Rattle.nf_core.specs.declared.terms.Link.TheVariants.{One, Pair, Unless}
use Rattle.nf_core.specs.declared.terms.PlanRule.{PlanRule}
use Rattle.nf_core.proofs.Public.SameIntervalLemmas.{same_is}
use Rattle.nf_model.specs.Changes.{lacking}
use Rattle.nf_model.specs.Results.{faces}
use Rattle.nf_model.specs.Work.{Sides, Pairing, pairs_of, pairs_where, pairs_by, is_among, pairs_lost, touched, differing, made_anew, values, clauses, rule_work}

-- a weight of each pair of two lists, summed
abbrev pub pairs_sum : (Interval → Interval → ℕ) → Sides → ℕ
pairs_sum weight sides = sum_by (λ i. sum_by (weight i) sides.seconds) sides.firsts

-- a number for each pair that passes a test
abbrev pub weighed : (Interval → Interval → Bool) → ℕ → Interval → Interval → ℕ
weighed test k i j = cond (test i j) k 0

-- a weight of the pairs that two lists lack
abbrev pub beyond : (Interval → Interval → ℕ) → Sides → Interval → Interval → ℕ
beyond weight others i j = cond (has others.firsts i && has others.seconds j) 0 (weight i j)

-- a weight of the pairs that the one or the other two lists lack
abbrev pub touched_sum : (Interval → Interval → ℕ) → (before now : Sides) → ℕ
touched_sum weight before now = pairs_sum (beyond weight now) before + pairs_sum (beyond weight before) now

-- whether an inclusive operator's condition holds of a pair
abbrev pub meet : Op → Interval → Interval → Bool
meet op i j = holds i.start i.stop j.start j.stop op

-- ---- sums of a product
one_more : (b : Bool) (n k : ℕ) → (cond b 1 0 + n) * k ≡ cond b k 0 + n * k
one_more true n k = add-mul 1 n k ∙ omega arith
one_more false n k = add-mul 0 n k ∙ omega arith

-- how many pass a test, times a number
counted : {X : Type 0} (p : X → Bool) (k : ℕ) (xs : List X) → count_by p xs * k ≡ sum_by (λ x. cond (p x) k 0) xs
counted p k [] = omega arith
counted p k (x ∷ xs) =
    ap (λ n. n * k) (sum_by-cons (λ y. cond (p y) 1 0) x xs) ∙ one_more (p x) (count_by p xs) k
    ∙ ap (λ n. cond (p x) k 0 + n) (counted p k xs) ∙ sym (sum_by-cons (λ y. cond (p y) k 0) x xs)

-- sums of equal terms
sums_alike : {X : Type 0} (f g : X → ℕ) → ((x : X) → f x ≡ g x) → (xs : List X) → sum_by f xs ≡ sum_by g xs
sums_alike f g alike [] = refl
sums_alike f g alike (x ∷ xs) =
    sum_by-cons f x xs ∙ ap (λ n. n + sum_by f xs) (alike x) ∙ ap (λ n. g x + n) (sums_alike f g alike xs) ∙ sym (sum_by-cons g x xs)

-- ---- sums over pairs
module _ (weight : Pairing → ℕ) where
  filtered_sum : (i : Interval) (q : Interval → Bool) (ys : List Interval)
      → sum_by weight (pairs_of i (filter q ys)) ≡ sum_by (λ j. cond (q j) (weight (record { first = i; second = Some j })) 0) ys
  filtered_sum i q [] = refl
  filtered_sum i q (y ∷ ys) = by (q y) (filtered_sum i q ys) ∙ sym (sum_by-cons (λ j. cond (q j) (weight (record { first = i; second = Some j })) 0) y ys)
    where
      rest : ℕ
      rest = sum_by (λ j. cond (q j) (weight (record { first = i; second = Some j })) 0) ys

      by : (b : Bool) → sum_by weight (pairs_of i (filter q ys)) ≡ rest
          → sum_by weight (pairs_of i (cond b (y ∷ filter q ys) (filter q ys))) ≡ cond b (weight (record { first = i; second = Some y })) 0 + rest
      by true e = sum_by-cons weight (record { first = i; second = Some y }) (pairs_of i (filter q ys)) ∙ ap (λ n. weight (record { first = i; second = Some y }) + n) e
      by false e = e ∙ omega arith

  where_sum : (test : Interval → Interval → Bool) (firsts seconds : List Interval)
      → sum_by weight (pairs_where test (record { firsts = firsts; seconds = seconds }))
      ≡ pairs_sum (λ i j. cond (test i j) (weight (record { first = i; second = Some j })) 0) (record { firsts = firsts; seconds = seconds })
  where_sum test [] ys = refl
  where_sum test (x ∷ xs) ys =
      sum_by-append weight (pairs_of x (filter (test x) ys)) (pairs_where test (record { firsts = xs; seconds = ys }))
      ∙ ap (λ n. n + sum_by weight (pairs_where test (record { firsts = xs; seconds = ys }))) (filtered_sum x (test x) ys)
      ∙ ap (λ n. sum_by (λ j. cond (test x j) (weight (record { first = x; second = Some j })) 0) ys + n) (where_sum test xs ys)
      ∙ sym (sum_by-cons (λ i. sum_by (λ j. cond (test i j) (weight (record { first = i; second = Some j })) 0) ys) x xs)

-- ---- which pairs are among those that pass a test
module _ (test : Interval → Interval → Bool) where
  among_row : (x i j : Interval) (ys : List Interval) → test i j ≡ true
      → is_among (pairs_of x (filter (test x) ys)) (record { first = i; second = Some j }) ≡ (same i x && has ys j)
  among_row x i j ys passes =
      list_any-map (λ y. record { first = x; second = Some y }) (λ q. same i q.first && option_eq same (Some j) q.second) (filter (test x) ys)
      ∙ by (same i x) refl
    where
      none : (zs : List Interval) → list_any (λ y. false && same j y) zs ≡ false
      none [] = refl
      none (z ∷ zs) = none zs

      by : (b : Bool) → same i x ≡ b → list_any (λ y. b && same j y) (filter (test x) ys) ≡ (b && has ys j)
      by false e = none (filter (test x) ys)
      by true e =
          any-filter_same (same j) (test x) true (λ y f. sym (ap (λ z. test z y) (same_is i x e)) ∙ sym (ap (test i) (same_is j y f)) ∙ passes) ys

  joined : (a b c : Bool) → ((a && c) || (b && c)) ≡ ((a || b) && c)
  joined true true true = refl
  joined true true false = refl
  joined true false true = refl
  joined true false false = refl
  joined false b c = refl

  among_where : (firsts seconds : List Interval) (i j : Interval) → test i j ≡ true
      → is_among (pairs_where test (record { firsts = firsts; seconds = seconds })) (record { first = i; second = Some j }) ≡ (has firsts i && has seconds j)
  among_where [] ys i j passes = refl
  among_where (x ∷ xs) ys i j passes =
      list_any-append (λ q. same i q.first && option_eq same (Some j) q.second) (pairs_of x (filter (test x) ys)) (pairs_where test (record { firsts = xs; seconds = ys }))
      ∙ ap (λ b. b || is_among (pairs_where test (record { firsts = xs; seconds = ys })) (record { first = i; second = Some j })) (among_row x i j ys passes)
      ∙ ap (λ b. (same i x && has ys j) || b) (among_where xs ys i j passes) ∙ joined (same i x) (has xs i) (has ys j)

  -- the pairs that two lists lack, times a number
  lost_weighed : (k : ℕ) (sides others : Sides) → pairs_lost (pairs_where test sides) (pairs_where test others) * k ≡ pairs_sum (beyond (weighed test k) others) sides
  lost_weighed k sides others =
      counted lost k (pairs_where test sides) ∙ where_sum (λ p. cond (lost p) k 0) test sides.firsts sides.seconds
      ∙ sums_alike (λ i. sum_by (λ j. cond (test i j) (cond (lost (record { first = i; second = Some j })) k 0) 0) sides.seconds)
      (λ i. sum_by (beyond (weighed test k) others i) sides.seconds)
      (λ i. sums_alike (λ j. cond (test i j) (cond (lost (record { first = i; second = Some j })) k 0) 0) (beyond (weighed test k) others i) (λ j. at i j (test i j) refl) sides.seconds) sides.firsts
    where
      lost : Pairing → Bool
      lost p = not (is_among (pairs_where test others) p)

      swapped : (b : Bool) → cond (not b) k 0 ≡ cond b 0 k
      swapped true = refl
      swapped false = refl

      nothing : (b : Bool) → ◌≡◌ {A = ℕ} 0 (cond b 0 0)
      nothing true = refl
      nothing false = refl

      at : (i j : Interval) (b : Bool) → test i j ≡ b → cond b (cond (lost (record { first = i; second = Some j })) k 0) 0 ≡ cond (has others.firsts i && has others.seconds j) 0 (cond b k 0)
      at i j true passes = ap (λ b. cond (not b) k 0) (among_where others.firsts others.seconds i j passes) ∙ swapped (has others.firsts i && has others.seconds j)
      at i j false passes = nothing (has others.firsts i && has others.seconds j)

  -- the touched pairs, times a number
  touched_weighed : (k : ℕ) (before now : Sides) → touched (pairs_where test before) (pairs_where test now) * k
      ≡ touched_sum (weighed test k) before now
  touched_weighed k before now =
      add-mul (pairs_lost (pairs_where test before) (pairs_where test now)) (pairs_lost (pairs_where test now) (pairs_where test before)) k
      ∙ ap (λ n. n + pairs_lost (pairs_where test now) (pairs_where test before) * k) (lost_weighed k before now)
      ∙ ap (λ n. pairs_sum (beyond (weighed test k) now) before + n) (lost_weighed k now before)

-- ---- a rule with one atom touches the intervals that are in exactly one of its first lists
-- intervals, each alone
abbrev alone : List Interval → List Pairing
alone is = map (λ i. record { first = i; second = None }) is

alone_among : (is : List Interval) (i : Interval) → is_among (alone is) (record { first = i; second = None }) ≡ has is i
alone_among [] i = refl
alone_among (j ∷ is) i = ap (λ b. b || is_among (alone is) (record { first = i; second = None })) (and_true (same i j)) ∙ ap (λ b. same i j || b) (alone_among is i)
  where
    and_true : (b : Bool) → (b && true) ≡ b
    and_true true = refl
    and_true false = refl

alone_lost : (is others : List Interval) → pairs_lost (alone is) (alone others) ≡ length (lacking is others)
alone_lost is others =
    fold-map (λ n p. n + cond (not (is_among (alone others) p)) 1 0) (λ i. record { first = i; second = None }) 0 is
    ∙ sums_alike (λ i. cond (not (is_among (alone others) (record { first = i; second = None }))) 1 0) (λ i. cond (not (has others i)) 1 0)
    (λ i. ap (λ b. cond (not b) 1 0) (alone_among others i)) is
    ∙ sym (length-filter (λ i. not (has others i)) is)

alone_touched : (before now : List Interval) → touched (alone before) (alone now) ≡ differing before now
alone_touched before now =
    ap (λ n. n + pairs_lost (alone now) (alone before)) (alone_lost before now) ∙ ap (λ n. length (lacking before now) + n) (alone_lost now before)

-- ---- the work of a rule
none_anew : (n k : ℕ) → n + 0 * k ≡ n
none_anew n k = omega arith

-- with one atom: each interval that is in exactly one of the two lists, times all clauses
pub work_of_one : (rule : PlanRule) (before now : Sides) → rule.link ≡ One → rule_work rule before now ≡ differing before.firsts now.firsts * clauses rule
unfolding rule_work
work_of_one rule before now is =
    ap (λ (link : Link). touched (pairs_by rule link before) (pairs_by rule link now) * clauses rule + made_anew link before now * values rule) is
    ∙ none_anew (touched (alone before.firsts) (alone now.firsts) * clauses rule) (values rule)
    ∙ ap (λ n. n * clauses rule) (alone_touched before.firsts now.firsts)

module _ (rule : PlanRule) (before now : Sides) where
  -- inclusive: the pairs of which the operator's condition holds, each times all clauses
  pub work_of_pair : (op : Op) (n : ℕ) → rule.link ≡ Pair op n → rule_work rule before now ≡ touched_sum (weighed (meet op) (clauses rule)) before now
  unfolding rule_work
  work_of_pair op n is =
      ap (λ (link : Link). touched (pairs_by rule link before) (pairs_by rule link now) * clauses rule + made_anew link before now * values rule) is
      ∙ none_anew (touched (pairs_where (meet op) before) (pairs_where (meet op) now) * clauses rule) (values rule)
      ∙ touched_weighed (meet op) (clauses rule) before now

  -- exclusive: the pairs of which the second one faces the first, each times all clauses, and each first interval that is in exactly one of the two lists, times those that make a result
  pub work_of_unless : (xop : Xop) (n : ℕ) → rule.link ≡ Unless xop n
      → rule_work rule before now ≡ touched_sum (weighed (faces xop (rule.first == n)) (clauses rule)) before now + differing before.firsts now.firsts * values rule
  unfolding rule_work
  work_of_unless xop n is =
      ap (λ (link : Link). touched (pairs_by rule link before) (pairs_by rule link now) * clauses rule + made_anew link before now * values rule) is
      ∙ ap (λ k. k + differing before.firsts now.firsts * values rule) (touched_weighed (faces xop (rule.first == n)) (clauses rule) before now)
