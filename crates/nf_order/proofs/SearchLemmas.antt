-- The steps of the search for levels keep its state.
use Rattle.std.proofs.Common.{◌≡◌, ◌≢◌, ℕ, zero, suc, ◌+◌, ◌<◌, ◌≤◌, Bool, true, false, cond, List, [], ◌∷◌, ◌++◌, length, get_or, take, map, nat_eq, nat_lt, All, Contains, IsTrue, refl, sym, ap, subst, ◌∙◌, ◌⊎◌, inl, inr, true≢false, arith}
use Rattle.std.specs.List.{AllPairs, count_by}
use Rattle.std.proofs.Math.ListN.{set}
use Rattle.std.proofs.lemmas.Bool.{eqb-true, eqb-false, lt-ltb}
use Rattle.std.proofs.lemmas.List.{length-set, length-append, get_or-set_same, get_or-set_other, map-append}
use Rattle.std.proofs.lemmas.List.Elements.{All-nil, All-contains, All-push, All-weaker, Contains-get_or, Contains-append_left, Contains-push, Contains-push_cases}
use Rattle.std.proofs.lemmas.List.Quantifiers.{all_pairs_push}
use Rattle.std.proofs.lemmas.List.Sums.{sum_by-set}
use Rattle.nf_core.specs.Plan.{greatest}
use Rattle.nf_order.specs.Dependence.{Walk}
use Rattle.nf_order.specs.Dependence.Walk.{Last}
use Rattle.nf_order.specs.inner.Graph.{below_of, IsAbove}
use Rattle.nf_order.specs.inner.Marks.{mark_of, is_new, is_leveled, level_in, HasLevel, level_at, level_over, high, AreMarks, IsPath, IsFrame, IsSearch, IsAtRest, Keeps, left, HasCycle}
use Rattle.nf_order.specs.declared.marks.Mark.{Mark}
use Rattle.nf_order.specs.declared.marks.Mark.TheVariants.{New, Open, Leveled, Stuck}
use Rattle.nf_order.specs.declared.leveling.Frame.{Frame}
use Rattle.nf_order.proofs.ListLemmas.{map_alike, greatest-within, Contains-map_from}
use Rattle.nf_order.proofs.WalkLemmas.{walk_on}

abbrev numbers_on : List Frame → List ℕ
numbers_on stack = map (λ (frame : Frame). frame.number) stack

numbers_on-push : (stack : List Frame) (frame : Frame) → numbers_on (stack ++ frame ∷ []) ≡ numbers_on stack ++ frame.number ∷ []
numbers_on-push stack frame = map-append (λ (f : Frame). f.number) stack (frame ∷ [])

-- the mark of a name after one mark is written
mark_after : (marks : List Mark) (n m : ℕ) (mark : Mark) → n < length marks → ((m ≡ n) × (mark_of (set marks n mark) m ≡ mark)) ⊎ ((m ≢ n) × (mark_of (set marks n mark) m ≡ mark_of marks m))
mark_after marks n m mark h = by (nat_eq m n) refl
  where
    by : (b : Bool) → nat_eq m n ≡ b → ((m ≡ n) × (mark_of (set marks n mark) m ≡ mark)) ⊎ ((m ≢ n) × (mark_of (set marks n mark) m ≡ mark_of marks m))
    by true e = let is : m ≡ n = eqb-true m n e in inl (is, ap (λ k. mark_of (set marks n mark) k) is ∙ get_or-set_same marks n mark New h)
    by false e = let is : m ≢ n = eqb-false m n e in inr (is, get_or-set_other marks n m mark New is)

-- a name that has no mark beyond the end is new, so one that isn't new is within
within_marks : (marks : List Mark) (n : ℕ) → mark_of marks n ≢ New → n < length marks
within_marks [] n h = absurd (h refl)
within_marks (m ∷ marks) zero h = omega arith
within_marks (m ∷ marks) (suc n) h = omega (arith, within_marks marks n h)

open_isn't_new : (mark : Mark) → mark ≡ Open → mark ≢ New
open_isn't_new mark e f = let clash : Open ≡ New = sym e ∙ f in cc

open_has_no_level : (mark : Mark) → mark ≡ Open → ¬ IsTrue (is_leveled mark)
open_has_no_level mark e h = let clash : is_leveled mark ≡ false = ap is_leveled e in true≢false (sym h ∙ clash)

new_has_no_level : (mark : Mark) → mark ≡ New → ¬ IsTrue (is_leveled mark)
new_has_no_level mark e h = let clash : is_leveled mark ≡ false = ap is_leveled e in true≢false (sym h ∙ clash)

-- the levels of names that have them are those of later marks, where the marks of those names stay
level_over-kept : (old new : List Mark) (ns : List ℕ) → ((m : ℕ) → HasLevel old m → level_at new m ≡ level_at old m) → All (HasLevel old) ns → level_over new ns ≡ level_over old ns
level_over-kept old new ns same leveled = ap greatest (map_alike (λ m. suc (level_at new m)) (λ m. suc (level_at old m)) ns (λ m c. ap suc (same m (All-contains (HasLevel old) ns m leveled c))))

module _ {X : Type 0} where
  at_front : (xs ys : List X) (k : ℕ) (d : X) → k < length xs → get_or (xs ++ ys) k d ≡ get_or xs k d
  at_front [] ys k d h = absurd (omega (arith, h))
  at_front (x ∷ xs) ys zero d h = refl
  at_front (x ∷ xs) ys (suc k) d h = at_front xs ys k d (omega (arith, h))

  at_last : (xs : List X) (y d : X) → get_or (xs ++ y ∷ []) (length xs) d ≡ y
  at_last [] y d = refl
  at_last (x ∷ xs) y d = at_last xs y d

  All-front : (P : X → Type 0) (xs ys : List X) → All P (xs ++ ys) → All P xs
  All-front P xs ys all k d h = All-contains P (xs ++ ys) (get_or xs k d) all (Contains-append_left xs ys (get_or xs k d) (Contains-get_or xs k d h))

  AllPairs-front : (R : X → X → Type 0) (xs ys : List X) → AllPairs R (xs ++ ys) → AllPairs R xs
  AllPairs-front R xs ys h i j d lt l =
      subst (λ a. R a (get_or xs j d)) (at_front xs ys i d (omega arith)) (subst (λ b. R (get_or (xs ++ ys) i d) b) (at_front xs ys j d l) (h i j d lt (rw length-append (omega arith))))

  AllPairs-last : (R : X → X → Type 0) (xs : List X) (y : X) → AllPairs R (xs ++ y ∷ []) → (k : ℕ) (d : X) → k < length xs → R (get_or xs k d) y
  AllPairs-last R xs y h k d l =
      subst (λ a. R a y) (at_front xs (y ∷ []) k d l) (subst (λ b. R (get_or (xs ++ y ∷ []) k d) b) (at_last xs y d) (h k (length xs) d l (rw length-append (omega arith))))

-- the new names are one fewer where a new one is marked, and as many where another is
fewer_new : (marks : List Mark) (n : ℕ) (mark : Mark) → n < length marks → mark_of marks n ≡ New → is_new mark ≡ false → count_by is_new (set marks n mark) + 1 ≡ count_by is_new marks
fewer_new marks n mark h was now =
    let w : Mark → ℕ = λ m. cond (is_new m) 1 0 in
    let after : w mark ≡ 0 = ap (λ b. cond b 1 0) now in
    let before : w (mark_of marks n) ≡ 1 = ap w was in
    omega (arith, sum_by-set w marks n mark New h, after, before)

as_many_new : (marks : List Mark) (n : ℕ) (mark : Mark) → n < length marks → mark_of marks n ≡ Open → is_new mark ≡ false → count_by is_new (set marks n mark) ≡ count_by is_new marks
as_many_new marks n mark h was now =
    let w : Mark → ℕ = λ m. cond (is_new m) 1 0 in
    let after : w mark ≡ 0 = ap (λ b. cond b 1 0) now in
    let before : w (mark_of marks n) ≡ 0 = ap w was in
    omega (arith, sum_by-set w marks n mark New h, after, before)

-- how many levels are above 0 after one mark is written
high_after : (marks : List Mark) (n : ℕ) (mark : Mark) → n < length marks → level_at marks n ≡ 0 → high (set marks n mark) ≡ high marks + cond (nat_lt 0 (level_in mark)) 1 0
high_after marks n mark h was =
    let w : Mark → ℕ = λ m. cond (nat_lt 0 (level_in m)) 1 0 in
    let before : w (mark_of marks n) ≡ 0 = ap (λ l. cond (nat_lt 0 l) 1 0) was in
    omega (arith, sum_by-set w marks n mark New h, before)

-- what is known of one state is known of the next, and more
module _ (below : List (List ℕ)) (old new : List Mark) (kept : (m : ℕ) → HasLevel old m → HasLevel new m) where
  frame_kept : (f : Frame) → IsFrame below old f → IsFrame below new f
  frame_kept f h = (h.0, All-weaker (HasLevel old) (HasLevel new) kept (take f.next (below_of below f.number)) h.1)

-- the path leads to what is below its last name
module _ (below : List (List ℕ)) (marks : List Mark) (names : List ℕ) (n : ℕ) (path : IsPath below marks (names ++ n ∷ [])) where
  pub leads : (c x : ℕ) → Contains (names ++ n ∷ []) c → IsAbove below n x → Walk (IsAbove below) c x
  leads c x there step = elim (Contains-push_cases names n c there) [
    | inl (k, h, is) ↦ walk_on (IsAbove below) c n x (subst (λ m. Walk (IsAbove below) m n) is (AllPairs-last (λ a b. (a ≢ b) × Walk (IsAbove below) a b) names n path.walks k c h).1) step
    | inr e ↦ subst (λ m. Walk (IsAbove below) m x) e (Last n x step)
  ]

-- a name of which nothing was known is opened, and stands last on the path
module _ (below : List (List ℕ)) (marks : List Mark) (stack : List Frame) (s : IsSearch below marks stack) (child : ℕ) (was : mark_of marks child ≡ New) (h : child < length marks) where
  abbrev opened_marks : List Mark
  opened_marks = set marks child Open

  opened_kept : (m : ℕ) → HasLevel marks m → HasLevel opened_marks m × (level_at opened_marks m ≡ level_at marks m)
  opened_kept m l = elim (mark_after marks child m Open h) [
    | inl (e, is) ↦ absurd (new_has_no_level (mark_of marks child) was (subst (HasLevel marks) e l))
    | inr (ne, is) ↦ (subst (λ mark. IsTrue (is_leveled mark)) (sym is) l, ap level_in is)
  ]

  opened_back : (m : ℕ) → HasLevel opened_marks m → HasLevel marks m
  opened_back m l = elim (mark_after marks child m Open h) [
    | inl (e, is) ↦ absurd (open_has_no_level (mark_of opened_marks m) is l)
    | inr (ne, is) ↦ subst (λ mark. IsTrue (is_leveled mark)) is l
  ]

  opened_few : (m : ℕ) → level_at opened_marks m ≤ high opened_marks
  opened_few m =
      let same_high : high opened_marks ≡ high marks + 0 = high_after marks child Open h (ap level_in was) in
      elim (mark_after marks child m Open h) [
        | inl (e, is) ↦ let none : level_at opened_marks m ≡ 0 = ap level_in is in omega arith
        | inr (ne, is) ↦ let kept : level_at opened_marks m ≡ level_at marks m = ap level_in is in omega (arith, s.marks_hold.few m)
      ]

  opened_hold : AreMarks below opened_marks
  opened_hold = record {
    each = length-set marks child Open ∙ s.marks_hold.each;
    leveled = λ m l. All-weaker (HasLevel marks) (HasLevel opened_marks) (λ x k. (opened_kept x k).0) (below_of below m) (s.marks_hold.leveled m (opened_back m l));
    level = λ m l. (opened_kept m (opened_back m l)).1 ∙ s.marks_hold.level m (opened_back m l) ∙ sym (level_over-kept marks opened_marks (below_of below m) (λ x k. (opened_kept x k).1) (s.marks_hold.leveled m (opened_back m l)));
    few = opened_few;
  }

  opened_open : (m : ℕ) → mark_of marks m ≡ Open → mark_of opened_marks m ≡ Open
  opened_open m o = elim (mark_after marks child m Open h) [ inl (e, is) ↦ is | inr (ne, is) ↦ is ∙ o ]

  abbrev start : Frame
  start = record { number = child; next = 0 }

  pub opened : ((m : ℕ) → Contains (numbers_on stack) m → Walk (IsAbove below) m child) → IsSearch below opened_marks (stack ++ start ∷ [])
  opened lead = record {
    marks_hold = opened_hold;
    path = subst (IsPath below opened_marks) (sym (numbers_on-push stack start)) (record {
      covers = λ m o. elim (mark_after marks child m Open h) [
        | inl (e, is) ↦ subst (Contains (numbers_on stack ++ child ∷ [])) (sym e) (Contains-push (numbers_on stack) child)
        | inr (ne, is) ↦ Contains-append_left (numbers_on stack) (child ∷ []) m (s.path.covers m (sym is ∙ o))
      ];
      all_open = All-push (λ m. mark_of opened_marks m ≡ Open) (numbers_on stack) child (All-weaker (λ m. mark_of marks m ≡ Open) (λ m. mark_of opened_marks m ≡ Open) opened_open (numbers_on stack) s.path.all_open) (get_or-set_same marks child Open New h);
      walks = all_pairs_push (λ a b. (a ≢ b) × Walk (IsAbove below) a b) (numbers_on stack) child s.path.walks (λ k d l. (
        (λ e. open_isn't_new (mark_of marks child) (subst (λ m. mark_of marks m ≡ Open) e (s.path.all_open k d l)) was),
        lead (get_or (numbers_on stack) k d) (Contains-get_or (numbers_on stack) k d l),
      ));
    });
    frames = All-push (IsFrame below opened_marks) stack start (All-weaker (IsFrame below marks) (IsFrame below opened_marks) (frame_kept below marks opened_marks (λ x k. (opened_kept x k).0)) stack s.frames) (omega arith, All-nil (HasLevel opened_marks));
    stuck = λ m k. elim (mark_after marks child m Open h) [ inl (e, is) ↦ (let clash : Open ≡ Stuck = sym is ∙ k in cc) | inr (ne, is) ↦ s.stuck m (sym is ∙ k) ];
  }

  pub opened_keeps : Keeps marks opened_marks
  opened_keeps = record {
    known = λ m k. elim (mark_after marks child m Open h) [ inl (e, is) ↦ open_isn't_new (mark_of opened_marks m) is | inr (ne, is) ↦ λ f. k (sym is ∙ f) ];
    leveled = λ m l. (opened_kept m l).0;
  }

no_level : (mark : Mark) → is_leveled mark ≡ false → level_in mark ≡ 0
no_level New e = refl
no_level Open e = refl
no_level (Leveled level) e = absurd (true≢false e)
no_level Stuck e = refl

own_within : (own most : ℕ) → own ≤ suc most → own ≤ most + cond (nat_lt 0 own) 1 0
own_within zero most h = omega arith
own_within (suc own) most h = let one : cond {A = ℕ} (nat_lt 0 (suc own)) 1 0 ≡ 1 = ap (λ b. cond b 1 0) (lt-ltb 0 (suc own) (omega arith)) in omega arith

-- one step of the last name on the path
module _ (below : List (List ℕ)) (marks : List Mark) (stack : List Frame) (f : Frame) (s : IsSearch below marks (stack ++ f ∷ [])) where
  abbrev names : List ℕ
  names = numbers_on stack

  path_is : IsPath below marks (names ++ f.number ∷ [])
  path_is = subst (IsPath below marks) (numbers_on-push stack f) s.path

  pub last_open : mark_of marks f.number ≡ Open
  last_open = All-contains (λ m. mark_of marks m ≡ Open) (names ++ f.number ∷ []) f.number path_is.all_open (Contains-push names f.number)

  pub last_within : f.number < length marks
  last_within = within_marks marks f.number (open_isn't_new (mark_of marks f.number) last_open)

  pub last_frame : IsFrame below marks f
  last_frame = All-contains (IsFrame below marks) (stack ++ f ∷ []) f s.frames (Contains-push stack f)

  -- a name below it that is open is on a cycle
  pub found : (child : ℕ) → mark_of marks child ≡ Open → IsAbove below f.number child → HasCycle below
  found child o step = (child, leads below marks names f.number path_is child child (path_is.covers child o) step)

  -- more of the names below it are known to have levels
  pub moved : (next : ℕ) → IsFrame below marks (record { number = f.number; next = next }) → IsSearch below marks (stack ++ record { number = f.number; next = next } ∷ [])
  moved next seen = record {
    marks_hold = s.marks_hold;
    path = subst (IsPath below marks) (sym (numbers_on-push stack (record { number = f.number; next = next }))) path_is;
    frames = All-push (IsFrame below marks) stack (record { number = f.number; next = next }) (All-front (IsFrame below marks) stack (f ∷ []) s.frames) seen;
    stuck = s.stuck;
  }

  -- it leaves the path with its level or as stuck
  module _ (mark : Mark) (not_new : is_new mark ≡ false) (not_open : mark ≢ Open) (right : IsTrue (is_leveled mark) → All (HasLevel marks) (below_of below f.number) × (level_in mark ≡ level_over marks (below_of below f.number))) (cyclic : mark ≡ Stuck → HasCycle below) where
    abbrev done_marks : List Mark
    done_marks = set marks f.number mark

    done_kept : (m : ℕ) → HasLevel marks m → HasLevel done_marks m × (level_at done_marks m ≡ level_at marks m)
    done_kept m l = elim (mark_after marks f.number m mark last_within) [
      | inl (e, is) ↦ absurd (open_has_no_level (mark_of marks f.number) last_open (subst (HasLevel marks) e l))
      | inr (ne, is) ↦ (subst (λ mark. IsTrue (is_leveled mark)) (sym is) l, ap level_in is)
    ]

    over_kept : (ns : List ℕ) → All (HasLevel marks) ns → level_over done_marks ns ≡ level_over marks ns
    over_kept ns l = level_over-kept marks done_marks ns (λ x k. (done_kept x k).1) l

    all_kept : (ns : List ℕ) → All (HasLevel marks) ns → All (HasLevel done_marks) ns
    all_kept ns l = All-weaker (HasLevel marks) (HasLevel done_marks) (λ x k. (done_kept x k).0) ns l

    over_few : level_over marks (below_of below f.number) ≤ suc (high marks)
    over_few =
        greatest-within (map (λ m. suc (level_at marks m)) (below_of below f.number)) (suc (high marks)) (λ l c.
        let r = Contains-map_from (λ m. suc (level_at marks m)) (below_of below f.number) l c in
        omega (arith, s.marks_hold.few r.0, r.2))

    own_few : level_in mark ≤ suc (high marks)
    own_few = by (is_leveled mark) refl
      where
        by : (b : Bool) → is_leveled mark ≡ b → level_in mark ≤ suc (high marks)
        by true e = omega (arith, (right e).1, over_few)
        by false e = omega (arith, no_level mark e)

    done_few : (m : ℕ) → level_at done_marks m ≤ high done_marks
    done_few m =
        let more : high done_marks ≡ high marks + cond (nat_lt 0 (level_in mark)) 1 0 = high_after marks f.number mark last_within (ap level_in last_open) in
        elim (mark_after marks f.number m mark last_within) [
          | inl (e, is) ↦ let at : level_at done_marks m ≡ level_in mark = ap level_in is in subst (λ l. l ≤ high done_marks) (sym at) (subst (λ h. level_in mark ≤ h) (sym more) (own_within (level_in mark) (high marks) own_few))
          | inr (ne, is) ↦ let kept : level_at done_marks m ≡ level_at marks m = ap level_in is in omega (arith, s.marks_hold.few m)
        ]

    done_hold : AreMarks below done_marks
    done_hold = record {
      each = length-set marks f.number mark ∙ s.marks_hold.each;
      leveled = λ m l. elim (mark_after marks f.number m mark last_within) [
        | inl (e, is) ↦ subst (λ k. All (HasLevel done_marks) (below_of below k)) (sym e) (all_kept (below_of below f.number) (right (subst (λ mark. IsTrue (is_leveled mark)) is l)).0)
        | inr (ne, is) ↦ all_kept (below_of below m) (s.marks_hold.leveled m (subst (λ mark. IsTrue (is_leveled mark)) is l))
      ];
      level = λ m l. elim (mark_after marks f.number m mark last_within) [
        | inl (e, is) ↦ let own = right (subst (λ mark. IsTrue (is_leveled mark)) is l) in
            ap level_in is ∙ own.1 ∙ sym (over_kept (below_of below f.number) own.0) ∙ ap (λ k. level_over done_marks (below_of below k)) (sym e)
        | inr (ne, is) ↦ let old : HasLevel marks m = subst (λ mark. IsTrue (is_leveled mark)) is l in
            ap level_in is ∙ s.marks_hold.level m old ∙ sym (over_kept (below_of below m) (s.marks_hold.leveled m old))
      ];
      few = done_few;
    }

    pub done : IsSearch below done_marks stack
    done = record {
      marks_hold = done_hold;
      path = record {
        covers = λ m o. elim (mark_after marks f.number m mark last_within) [
          | inl (e, is) ↦ absurd (not_open (sym is ∙ o))
          | inr (ne, is) ↦ elim (Contains-push_cases names f.number m (path_is.covers m (sym is ∙ o))) [ inl c ↦ c | inr e ↦ absurd (ne (sym e)) ]
        ];
        all_open = λ k d h. elim (mark_after marks f.number (get_or names k d) mark last_within) [
          | inl (e, is) ↦ absurd ((AllPairs-last (λ a b. (a ≢ b) × Walk (IsAbove below) a b) names f.number path_is.walks k d h).0 e)
          | inr (ne, is) ↦ is ∙ All-front (λ m. mark_of marks m ≡ Open) names (f.number ∷ []) path_is.all_open k d h
        ];
        walks = AllPairs-front (λ a b. (a ≢ b) × Walk (IsAbove below) a b) names (f.number ∷ []) path_is.walks;
      };
      frames = All-weaker (IsFrame below marks) (IsFrame below done_marks) (frame_kept below marks done_marks (λ x k. (done_kept x k).0)) stack (All-front (IsFrame below marks) stack (f ∷ []) s.frames);
      stuck = λ m k. elim (mark_after marks f.number m mark last_within) [ inl (e, is) ↦ cyclic (sym is ∙ k) | inr (ne, is) ↦ s.stuck m (sym is ∙ k) ];
    }

    pub done_keeps : Keeps marks done_marks
    done_keeps = record {
      known = λ m k. elim (mark_after marks f.number m mark last_within) [ inl (e, is) ↦ (λ g. true≢false (sym (ap is_new (sym is ∙ g)) ∙ not_new)) | inr (ne, is) ↦ λ g. k (sym is ∙ g) ];
      leveled = λ m l. (done_kept m l).0;
    }

    pub done_left : left done_marks stack < left marks (stack ++ f ∷ [])
    done_left = rw length-append (omega (arith, as_many_new marks f.number mark last_within last_open not_new))

  -- a new name below it is opened
  module _ (next child : ℕ) (seen : IsFrame below marks (record { number = f.number; next = next })) (step : IsAbove below f.number child) (was : mark_of marks child ≡ New) (h : child < length marks) where
    abbrev moved_stack : List Frame
    moved_stack = stack ++ record { number = f.number; next = next } ∷ []

    pub entered : IsSearch below (set marks child Open) (moved_stack ++ record { number = child; next = 0 } ∷ [])
    entered = opened below marks moved_stack (moved next seen) child was h (λ m there. leads below marks names f.number path_is m child (subst (λ ns. Contains ns m) (numbers_on-push stack (record { number = f.number; next = next })) there) step)

    pub entered_left : left (set marks child Open) (moved_stack ++ record { number = child; next = 0 } ∷ []) < left marks (stack ++ f ∷ [])
    entered_left =
        let last : Frame = record { number = f.number; next = next } in
        omega (arith, fewer_new marks child Open h was refl, length-append moved_stack (record { number = child; next = 0 } ∷ []), length-append stack (last ∷ []), length-append stack (f ∷ []))

-- nothing is open where the path is empty
pub at_rest : (below : List (List ℕ)) (marks : List Mark) → IsSearch below marks [] → IsAtRest marks
at_rest below marks s n o = let there = s.path.covers n o in omega (arith, there.1)
