-- How often each line is shown, and how often it is in a change.
use Rattle.std.proofs.Common.{◌≡◌, ◌≢◌, ℕ, ◌+◌, ◌<◌, ◌≤◌, Bool, true, false, not, List, [], ◌∷◌, length, map, fold, refl, sym, ap, ◌∙◌, arith}
use Rattle.std.specs.Prelude.{flat_map}
use Rattle.std.specs.List.{sum_by, AllByRecursion, range_with_len}
use Rattle.std.specs.Cmp.Lexicographic.{bytes_decides}
use Rattle.std.proofs.lemmas.List.Sums.{sum_by-cons, sum_by-append, sum_by-le-sum_by}
use Rattle.std.proofs.lemmas.Bool.{and_parts}
use Rattle.std.proofs.lemmas.List.Elements.{filter_passes, recursion_from_All}
use Rattle.nf_core.specs.Texts.{text_eq}
use Rattle.nf_core.specs.Intervals.{Interval, interval_cmp, interval_cmp_total}
use Rattle.nf_core.specs.Sets.{IsSet}
use Rattle.nf_core.specs.Plan.{Plan, IsPlan, keys_of, has_rules, is_head, is_wide}
use Rattle.nf_core.specs.declared.intervals.Named.{Named}
use Rattle.nf_model.specs.ProperRows.{IsProper, AreProper}
use Rattle.nf_model.specs.Changes.{heads, lacking, named}
use Rattle.nf_model.proofs.Public.ChangeLemmas.{heads_within}
use Rattle.nf_announce.specs.Announcements.{Announcement, announcement_cmp, in_order, announcement, unsigned_line}
use Rattle.nf_announce.specs.inner.AnnouncementOrder.{announcement_cmp_total}
use Rattle.nf_announce.proofs.Public.OrderedListLemmas.{put, sum_all}
use Rattle.nf_announce.proofs.Public.AnnouncementOrderLemmas.{placed_is}
use Rattle.nf_announce.proofs.Public.DistinctItemLemmas.{Apart, each_weaker, each_append, each_map, apart_filter, apart_append, apart_map, apart_sorted, range_apart}
use Rattle.nf_announce.proofs.Public.LineBackLemmas.{line_back}
use Rattle.nf_model.proofs.Public.LackingLemmas.{exchanged, lacking_fewer}
use Rattle.nf_session.proofs.ReplayedLineLemmas.{hit, times}

-- sums
sum_map : {X Y : Type 0} (f : Y → ℕ) (g : X → Y) (xs : List X) → sum_by f (map g xs) ≡ sum_by (λ x. f (g x)) xs
sum_map f g [] = refl
sum_map f g (x ∷ xs) = let later = sum_map f g xs in omega (arith, sum_by-cons f (g x) (map g xs), sum_by-cons (λ x. f (g x)) x xs)

sum_flat : {X Y : Type 0} (f : Y → ℕ) (g : X → List Y) (xs : List X) → sum_by f (flat_map g xs) ≡ sum_by (λ x. sum_by f (g x)) xs
sum_flat f g [] = refl
sum_flat f g (x ∷ xs) = let later = sum_flat f g xs in omega (arith, sum_by-append f (g x) (flat_map g xs), sum_by-cons (λ x. sum_by f (g x)) x xs)

sum_alike : {X : Type 0} (f g : X → ℕ) → ((x : X) → f x ≡ g x) → (xs : List X) → sum_by f xs ≡ sum_by g xs
sum_alike f g alike xs = λ i. sum_by (λ x. alike x i) xs

sum_balanced : {X : Type 0} (f g h k : X → ℕ) → ((x : X) → f x + g x ≡ h x + k x) → (xs : List X) → sum_by f xs + sum_by g xs ≡ sum_by h xs + sum_by k xs
sum_balanced f g h k balanced [] = refl
sum_balanced f g h k balanced (x ∷ xs) =
    let later = sum_balanced f g h k balanced xs in
    let here = balanced x in
    omega (arith, sum_by-cons f x xs, sum_by-cons g x xs, sum_by-cons h x xs, sum_by-cons k x xs)

sum_ordered : (f : Announcement → ℕ) (items : List Announcement) → sum_by f (in_order items) ≡ sum_by f items
sum_ordered f items =
    let all = sum_all announcement_cmp announcement_cmp_total f items [] in
    let none : sum_by f [] ≡ 0 = refl in
    ap (sum_by f) (sym placed_all) ∙ omega arith
  where
    placed_all : fold (λ bs a. put announcement_cmp a bs) [] items ≡ in_order items
    placed_all = λ i. fold (λ bs a. placed_is a bs i) [] items

module _ (plan : Plan) where
  -- the lines of some intervals, in order
  abbrev pub lines : List Named → List (List ℕ)
  lines items = map unsigned_line (in_order (map (announcement plan) items))

  abbrev line : Named → List ℕ
  line item = unsigned_line (announcement plan item)

  -- the intervals of heads in a choice of pools
  abbrev pub items_of : (ℕ → List Interval) → List Named
  items_of pools = flat_map (λ n. named n (pools n)) (heads plan)

  abbrev weight : List ℕ → Named → ℕ
  weight x item = hit x (line item)

  abbrev in_pool : List ℕ → (ℕ → List Interval) → ℕ → ℕ
  in_pool x pools n = sum_by (λ i. let item : Named = record { name = n; interval = i } in weight x item) (pools n)

  times_of : (x : List ℕ) (items : List Named) → times x (lines items) ≡ sum_by (weight x) items
  times_of x items =
      sum_map (hit x) unsigned_line (in_order (map (announcement plan) items)) ∙ sum_ordered (λ a. hit x (unsigned_line a)) (map (announcement plan) items)
      ∙ sum_map (λ a. hit x (unsigned_line a)) (announcement plan) items

  times_by_pool : (x : List ℕ) (pools : ℕ → List Interval) → times x (lines (items_of pools)) ≡ sum_by (in_pool x pools) (heads plan)
  times_by_pool x pools =
      times_of x (items_of pools) ∙ sum_flat (weight x) (λ n. named n (pools n)) (heads plan)
      ∙ sum_alike (λ n. sum_by (weight x) (named n (pools n))) (in_pool x pools) (λ n. sum_map (weight x) (λ i. let item : Named = record { name = n; interval = i } in item) (pools n)) (heads plan)

  module _ (before now : ℕ → List Interval) (sets : (n : ℕ) → IsSet (before n)) (now_sets : (n : ℕ) → IsSet (now n)) where
    abbrev gone : List Named
    gone = items_of (λ n. lacking (before n) (now n))

    abbrev come : List Named
    come = items_of (λ n. lacking (now n) (before n))

    -- what was shown and comes, and what is shown and is gone
    pub balanced : (x : List ℕ) → times x (lines (items_of now)) + times x (lines gone) ≡ times x (lines (items_of before)) + times x (lines come)
    balanced x =
        let one = times_by_pool x now in
        let two = times_by_pool x (λ n. lacking (before n) (now n)) in
        let three = times_by_pool x before in
        let four = times_by_pool x (λ n. lacking (now n) (before n)) in
        let all = sum_balanced (in_pool x now) (in_pool x (λ n. lacking (before n) (now n))) (in_pool x before) (in_pool x (λ n. lacking (now n) (before n)))
        (λ n. exchanged (λ i. let item : Named = record { name = n; interval = i } in weight x item) (now n) (before n) (now_sets n) (sets n)) (heads plan) in
        omega arith

    pub gone_shown : (x : List ℕ) → times x (lines gone) ≤ times x (lines (items_of before))
    gone_shown x =
        let two = times_by_pool x (λ n. lacking (before n) (now n)) in
        let three = times_by_pool x before in
        let fewer = sum_by-le-sum_by (in_pool x (λ n. lacking (before n) (now n))) (in_pool x before) (heads plan)
        (λ n. omega (arith, lacking_fewer (λ i. let item : Named = record { name = n; interval = i } in weight x item) (before n) (now n))) in
        omega arith

  module _ (valid : IsPlan plan) where
    -- an interval of a name of the plan that isn't wide, and that may stand there
    pub record IsGoodItem (item : Named) : Type 0 where
      pub within : item.name < length plan.names
      pub narrow : is_wide plan item.name ≡ false
      pub proper : IsProper (keys_of plan item.name) item.interval

    none_else : (x : List ℕ) (item : Named) → IsGoodItem item → x ≡ line item → (items : List Named) → AllByRecursion IsGoodItem items → AllByRecursion (λ other. item ≢ other) items → sum_by (weight x) items ≡ 0
    none_else x item good is [] h k = refl
    none_else x item good is (other ∷ items) h k =
        let later = none_else x item good is items h.1 k.1 in
        omega (arith, sum_by-cons (weight x) other items, at (text_eq x (line other)) refl)
      where
        at : (b : Bool) → text_eq x (line other) ≡ b → weight x other ≡ 0
        at true e = absurd (k.0 (line_back plan valid item other good.within h.0.within good.narrow h.0.narrow good.proper h.0.proper (sym is ∙ (bytes_decides x (line other)).0 e)))
        at false e = rw e refl

    at_most_once : (x : List ℕ) (items : List Named) → AllByRecursion IsGoodItem items → Apart items → sum_by (weight x) items ≤ 1
    at_most_once x [] h k = omega arith
    at_most_once x (item ∷ items) h k = at (text_eq x (line item)) refl (at_most_once x items h.1 k.1)
      where
        at : (b : Bool) → text_eq x (line item) ≡ b → sum_by (weight x) items ≤ 1 → sum_by (weight x) (item ∷ items) ≤ 1
        at true e later =
            let one : weight x item ≡ 1 = rw e refl in
            let none = none_else x item h.0 ((bytes_decides x (line item)).0 e) items h.1 k.0 in
            omega (arith, sum_by-cons (weight x) item items)
        at false e later = let none : weight x item ≡ 0 = rw e refl in omega (arith, sum_by-cons (weight x) item items)

    -- a head is a name of the plan, and isn't wide
    record IsHeadName (n : ℕ) : Type 0 where
      within : n < length plan.names
      narrow : is_wide plan n ≡ false

    narrow_head : (n : ℕ) → is_head plan n ≡ true → is_wide plan n ≡ false
    narrow_head n head = at (is_wide plan n) (and_parts (has_rules plan n) (not (is_wide plan n)) head).1
      where
        at : (wide : Bool) → not wide ≡ true → wide ≡ false
        at true e = absurd cc
        at false e = refl

    head_names : AllByRecursion IsHeadName (heads plan)
    head_names =
        recursion_from_All IsHeadName (heads plan)
        (λ k d inside. record { within = heads_within plan k d inside; narrow = narrow_head _ (filter_passes (is_head plan) (range_with_len 0 (length plan.names)) k d inside) })

    module _ (pools : ℕ → List Interval) where
      good_items : AreProper plan pools → (ns : List ℕ) → AllByRecursion IsHeadName ns → AllByRecursion IsGoodItem (flat_map (λ n. named n (pools n)) ns)
      good_items proper [] h = tt
      good_items proper (n ∷ ns) h =
          each_append IsGoodItem (named n (pools n)) (flat_map (λ n. named n (pools n)) ns)
          (each_map IsGoodItem (λ i. let item : Named = record { name = n; interval = i } in item) (pools n)
          (each_weaker (IsProper (keys_of plan n)) (λ i. let item : Named = record { name = n; interval = i } in IsGoodItem item) (λ i p. record { within = h.0.within; narrow = h.0.narrow; proper = p }) (pools n) (recursion_from_All (IsProper (keys_of plan n)) (pools n) (proper n))))
          (good_items proper ns h.1)

      other_names : (n : ℕ) (ns : List ℕ) → AllByRecursion (λ m. n ≢ m) ns → AllByRecursion (λ (item : Named). n ≢ item.name) (flat_map (λ n. named n (pools n)) ns)
      other_names n [] h = tt
      other_names n (m ∷ ns) h =
          each_append (λ (item : Named). n ≢ item.name) (named m (pools m)) (flat_map (λ n. named n (pools n)) ns)
          (each_map (λ (item : Named). n ≢ item.name) (λ i. let item : Named = record { name = m; interval = i } in item) (pools m) (all_of (pools m)))
          (other_names n ns h.1)
        where
          all_of : (is : List Interval) → AllByRecursion (λ i. n ≢ m) is
          all_of [] = tt
          all_of (i ∷ is) = (h.0, all_of is)

      apart_items : ((n : ℕ) → IsSet (pools n)) → (ns : List ℕ) → Apart ns → Apart (flat_map (λ n. named n (pools n)) ns)
      apart_items sets [] h = tt
      apart_items sets (n ∷ ns) h =
          let rest : List Named = flat_map (λ n. named n (pools n)) ns in
          apart_append (named n (pools n)) rest
          (apart_map (λ i. let item : Named = record { name = n; interval = i } in item) (λ i j e. ap (λ (item : Named). item.interval) e) (pools n) (apart_sorted interval_cmp interval_cmp_total (pools n) (sets n)))
          (apart_items sets ns h.1)
          (each_map (λ (item : Named). AllByRecursion (λ other. item ≢ other) rest) (λ i. let item : Named = record { name = n; interval = i } in item) (pools n) (all_of (pools n) (other_names n ns h.0)))
        where
          all_of : (is : List Interval) → AllByRecursion (λ (other : Named). n ≢ other.name) (flat_map (λ n. named n (pools n)) ns)
              → AllByRecursion (λ i. let item : Named = record { name = n; interval = i } in AllByRecursion (λ other. item ≢ other) (flat_map (λ n. named n (pools n)) ns)) is
          all_of [] others = tt
          all_of (i ∷ is) others =
              (each_weaker (λ (other : Named). n ≢ other.name) (λ other. let item : Named = record { name = n; interval = i } in item ≢ other) (λ other apart e. apart (ap (λ (item : Named). item.name) e)) (flat_map (λ n. named n (pools n)) ns) others, all_of is others)

      pub items_good : AreProper plan pools → AllByRecursion IsGoodItem (items_of pools)
      items_good proper = good_items proper (heads plan) head_names

      -- no line is shown twice
      pub shown_once : AreProper plan pools → ((n : ℕ) → IsSet (pools n)) → (x : List ℕ) → times x (lines (items_of pools)) ≤ 1
      shown_once proper sets x =
          let total = times_of x (items_of pools) in
          let most = at_most_once x (items_of pools) (items_good proper) (apart_items sets (heads plan) (apart_filter (is_head plan) (range_with_len 0 (length plan.names)) (range_apart 0 (length plan.names)))) in
          omega arith
