-- The steps of the search for a cycle keep its state, and at its end it has the answer.
use Rattle.std.proofs.Common.{◌≡◌, ◌≢◌, ℕ, ◌+◌, ◌<◌, Bool, true, false, not, cond, List, [], ◌∷◌, ◌++◌, length, get_or, take, nat_eq, All, Contains, refl, sym, ap, subst, ◌∙◌, ◌⊎◌, inl, inr, arith}
use Rattle.std.specs.List.{count_by}
use Rattle.std.proofs.Math.ListN.{set}
use Rattle.std.proofs.lemmas.Bool.{eqb-true, eqb-false}
use Rattle.std.proofs.lemmas.List.{length-set, length-append, get_or-set_same, get_or-set_other}
use Rattle.std.proofs.lemmas.List.Elements.{All-contains, All-weaker, All-more, Contains-get_or, Contains-append_left, Contains-push, Contains-push_cases}
use Rattle.std.proofs.lemmas.List.Sums.{sum_by-set}
use Rattle.nf_order.specs.Dependence.{Walk}
use Rattle.nf_order.specs.Dependence.Walk.{Last, More}
use Rattle.nf_order.specs.inner.Graph.{below_of, IsAbove, IsGraph}
use Rattle.nf_order.specs.inner.Reach.{IsFlagged, AreOff, AreSeen, IsReach}
use Rattle.nf_order.proofs.SearchStepLemmas.{below_within}
use Rattle.nf_order.proofs.WalkLemmas.{walk_on}

abbrev flag : List Bool → ℕ → Bool
flag flags n = get_or flags n false

-- the flag of a number after one is set
flag_after : (flags : List Bool) (m n : ℕ) → m < length flags → ((n ≡ m) × (flag (set flags m true) n ≡ true)) ⊎ ((n ≢ m) × (flag (set flags m true) n ≡ flag flags n))
flag_after flags m n h = by (nat_eq n m) refl
  where
    by : (b : Bool) → nat_eq n m ≡ b → ((n ≡ m) × (flag (set flags m true) n ≡ true)) ⊎ ((n ≢ m) × (flag (set flags m true) n ≡ flag flags n))
    by true e = let is : n ≡ m = eqb-true n m e in inl (is, ap (flag (set flags m true)) is ∙ get_or-set_same flags m true false h)
    by false e = let is : n ≢ m = eqb-false n m e in inr (is, get_or-set_other flags m n true false is)

unseen_after : (flags : List Bool) (m : ℕ) → m < length flags → count_by not (set flags m true) + cond {A = ℕ} (not (flag flags m)) 1 0 ≡ count_by not flags
unseen_after flags m h =
    let w : Bool → ℕ = λ b. cond (not b) 1 0 in
    omega (arith, sum_by-set w flags m true false h)

module _ (ns : List ℕ) (old mid : List Bool) (before half : List ℕ) (i d : ℕ) (s : AreSeen ns (take i ns) old mid before half) (h : i < length ns) (within : get_or ns i d < length mid) where
  abbrev number : ℕ
  number = get_or ns i d

  abbrev new : List Bool
  new = set mid number true

  now_flagged : IsFlagged new number
  now_flagged = get_or-set_same mid number true false within

  still : (n : ℕ) → IsFlagged mid n → IsFlagged new n
  still n f = elim (flag_after mid number n within) [ inl (e, is) ↦ is | inr (ne, is) ↦ is ∙ f ]

  all_so_far : All (IsFlagged new) (take (i + 1) ns)
  all_so_far = All-more (IsFlagged new) ns i d h (All-weaker (IsFlagged mid) (IsFlagged new) still (take i ns) s.all) now_flagged

  in_ns : Contains ns number
  in_ns = Contains-get_or ns i d h

  -- a number that was seen already
  again : flag mid number ≡ true → AreSeen ns (take (i + 1) ns) old new before half
  again was = record {
    each = length-set mid number true ∙ s.each;
    kept = λ n f. still n (s.kept n f);
    fresh = λ n f. elim (flag_after mid number n within) [ inl (e, is) ↦ s.fresh n (ap (flag mid) e ∙ was) | inr (ne, is) ↦ s.fresh n (sym is ∙ f) ];
    pending = s.pending;
    added = s.added;
    all = all_so_far;
    less = (let one : cond {A = ℕ} (not (flag mid number)) 1 0 ≡ 0 = ap (λ b. cond (not b) 1 0) was in omega (arith, unseen_after mid number within, s.less));
  }

  -- a number that wasn't
  first : flag mid number ≡ false → AreSeen ns (take (i + 1) ns) old new before (half ++ number ∷ [])
  first was = record {
    each = length-set mid number true ∙ s.each;
    kept = λ n f. still n (s.kept n f);
    fresh = λ n f. elim (flag_after mid number n within) [
      | inl (e, is) ↦ inr (subst (Contains ns) (sym e) in_ns, subst (Contains (half ++ number ∷ [])) (sym e) (Contains-push half number))
      | inr (ne, is) ↦ elim (s.fresh n (sym is ∙ f)) [ inl o ↦ inl o | inr p ↦ inr (p.0, Contains-append_left half (number ∷ []) n p.1) ]
    ];
    pending = λ n c. Contains-append_left half (number ∷ []) n (s.pending n c);
    added = λ n c. elim (Contains-push_cases half number n c) [ inl o ↦ s.added n o | inr e ↦ inr (subst (Contains ns) e in_ns) ];
    all = all_so_far;
    less = (let one : cond {A = ℕ} (not (flag mid number)) 1 0 ≡ 1 = ap (λ b. cond (not b) 1 0) was in rw length-append (omega (arith, unseen_after mid number within, s.less)));
  }

  pub seen_more : (after : List ℕ) → after ≡ cond (flag mid number) half (half ++ number ∷ []) → AreSeen ns (take (i + 1) ns) old new before after
  seen_more after is = subst (AreSeen ns (take (i + 1) ns) old new before) (sym is) (by (flag mid number) refl)
    where
      by : (b : Bool) → flag mid number ≡ b → AreSeen ns (take (i + 1) ns) old new before (cond b half (half ++ number ∷ []))
      by true e = again e
      by false e = first e

-- what is below one number is seen
module _ (below : List (List ℕ)) (valid : IsGraph below) (off : List Bool) (start : ℕ) (seen : List Bool) (stack : List ℕ) (next : ℕ) (r : IsReach below off start seen (stack ++ next ∷ [])) where
  pub next_within : next < length below
  next_within = r.within next (Contains-push stack next)

  reaches : (n : ℕ) → Contains (below_of below next) n → Walk (IsAbove below) start n
  reaches n step = elim (r.from next (Contains-push stack next)) [
    | inl e ↦ subst (λ m. Walk (IsAbove below) m n) e (Last next n step)
    | inr w ↦ walk_on (IsAbove below) start next n w step
  ]

  pub reach_on : (new : List Bool) (after : List ℕ) → AreSeen (below_of below next) (below_of below next) seen new stack after → IsReach below off start new after
  reach_on new after s = record {
    each = s.each ∙ r.each;
    reached = λ n f. elim (s.fresh n f) [ inl o ↦ r.reached n o | inr p ↦ inr (reaches n p.0) ];
    from = λ n c. elim (s.added n c) [ inl o ↦ r.from n (Contains-append_left stack (next ∷ []) n o) | inr b ↦ inr (reaches n b) ];
    within = λ n c. elim (s.added n c) [ inl o ↦ r.within n (Contains-append_left stack (next ∷ []) n o) | inr b ↦ below_within below valid next n b ];
    closed = λ n k. elim k [ inl e ↦ settle n (r.closed n (inl e)) | inr f ↦ elim (s.fresh n f) [ inl o ↦ settle n (r.closed n (inr o)) | inr p ↦ inl (inr p.1) ] ];
  }
    where
      settle : (n : ℕ) → (IsFlagged off n ⊎ Contains (stack ++ next ∷ []) n) ⊎ All (IsFlagged seen) (below_of below n) → (IsFlagged off n ⊎ Contains after n) ⊎ All (IsFlagged new) (below_of below n)
      settle n (inl (inl o)) = inl (inl o)
      settle n (inl (inr c)) = elim (Contains-push_cases stack next n c) [ inl o ↦ inl (inr (s.pending n o)) | inr e ↦ inr (subst (λ m. All (IsFlagged new) (below_of below m)) e s.all) ]
      settle n (inr all) = inr (All-weaker (IsFlagged seen) (IsFlagged new) s.kept (below_of below n) all)

walk_join : {A : Type 0} (R : A → A → Type 0) (x y z : A) → Walk R x y → Walk R y z → Walk R x z
walk_join R _ _ z (Last x y step) rest = More x y z step rest
walk_join R _ _ z (More x w y step more) rest = More x w z step (walk_join R w y z more rest)

-- where nothing is left on the stack, the start is on a cycle exactly if it was seen
module _ (below : List (List ℕ)) (off : List Bool) (are_off : AreOff below off) (start : ℕ) (seen : List Bool) (r : IsReach below off start seen []) where
  all_below : (n : ℕ) → (n ≡ start) ⊎ IsFlagged seen n → Walk (IsAbove below) n n → All (IsFlagged seen) (below_of below n)
  all_below n k cycle = elim (r.closed n k) [ inl o ↦ elim o [ inl f ↦ absurd (are_off n f cycle) | inr c ↦ absurd (omega (arith, c.1)) ] | inr all ↦ all ]

  around : (n m : ℕ) → Walk (IsAbove below) n m → m ≡ start → ((n ≡ start) ⊎ Walk (IsAbove below) start n) → (n ≡ start) ⊎ IsFlagged seen n → IsFlagged seen m
  around _ _ (Last n m step) e lead k = All-contains (IsFlagged seen) (below_of below n) m (all_below n k (whole n (subst (λ x. Walk (IsAbove below) n x) e (Last n m step)) lead)) step
    where
      whole : (n : ℕ) → Walk (IsAbove below) n start → ((n ≡ start) ⊎ Walk (IsAbove below) start n) → Walk (IsAbove below) n n
      whole n w (inl e) = subst (λ x. Walk (IsAbove below) n x) (sym e) w
      whole n w (inr l) = walk_join (IsAbove below) n start n w l
  around _ _ (More n x m step rest) e lead k =
      let seen_x : IsFlagged seen x = All-contains (IsFlagged seen) (below_of below n) x (all_below n k (whole n (subst (λ y. Walk (IsAbove below) n y) e (More n x m step rest)) lead)) step in
      around x m rest e (inr (elim lead [ inl f ↦ subst (λ y. Walk (IsAbove below) y x) f (Last n x step) | inr l ↦ walk_on (IsAbove below) start n x l step ])) (inr seen_x)
    where
      whole : (n : ℕ) → Walk (IsAbove below) n start → ((n ≡ start) ⊎ Walk (IsAbove below) start n) → Walk (IsAbove below) n n
      whole n w (inl e) = subst (λ x. Walk (IsAbove below) n x) (sym e) w
      whole n w (inr l) = walk_join (IsAbove below) n start n w l

  pub seen_on_cycle : ¬ IsFlagged off start → IsFlagged seen start → Walk (IsAbove below) start start
  seen_on_cycle not_off f = elim (r.reached start f) [ inl o ↦ absurd (not_off o) | inr w ↦ w ]

  pub cycle_is_seen : Walk (IsAbove below) start start → IsFlagged seen start
  cycle_is_seen w = around start start w refl (inl refl) (inl refl)
