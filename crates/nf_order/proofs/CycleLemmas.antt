-- Walks by number are walks by name, and numbers with levels are on no cycle.
use Rattle.std.proofs.Common.{◌≡◌, ◌≢◌, ℕ, zero, suc, ◌+◌, ◌<◌, Bool, true, false, List, [], ◌∷◌, ◌++◌, length, get_or, take, map, All, Contains, IsTrue, Some, slice_get, refl, sym, ap, subst, ◌∙◌, ◌⊎◌, inl, inr, true≢false, arith}
use Rattle.std.proofs.lemmas.List.{length-map, get_or-map}
use Rattle.std.proofs.lemmas.List.Elements.{All-cons, All-more, All-contains}
use Rattle.nf_core.specs.Trees.{Rule}
use Rattle.nf_core.specs.Written.{names_of, names_below, place_of}
use Rattle.nf_core.proofs.Public.EachOnceLemmas.{place_of-lt, get_or-place_of}
use Rattle.nf_lemmas.proofs.ListLemmas.{Contains-map}
use Rattle.nf_order.specs.Dependence.{Walk, Reads, DependsOn, IsFirstCycle}
use Rattle.nf_order.specs.Dependence.Walk.{Last, More}
use Rattle.nf_order.specs.inner.Graph.{graph_of, numbers_below, below_of, IsAbove, IsReversed}
use Rattle.nf_order.specs.inner.Marks.{mark_of, is_leveled, level_at, HasLevel, AreMarks, IsSettled, HasCycle}
use Rattle.nf_order.specs.inner.Reach.{IsFlagged, AreOff}
use Rattle.nf_order.specs.declared.marks.Mark.{Mark}
use Rattle.nf_order.specs.declared.marks.Mark.TheVariants.{New, Open, Leveled, Stuck}
use Rattle.nf_order.proofs.ListLemmas.{Contains-map_from, greatest-each}
use Rattle.nf_order.proofs.ReversedGraphLemmas.{off_turned}
use Rattle.nf_order.proofs.WalkLemmas.{head_known, walk_along, below_from_reads, reads_from_below, read_known}

-- a number with something below it is one of the graph
pub above_within : (below : List (List ℕ)) (n m : ℕ) → Contains (below_of below n) m → n < length below
above_within [] n m c = absurd (omega (arith, c.1))
above_within (ns ∷ below) zero m c = omega arith
above_within (ns ∷ below) (suc n) m c = omega (arith, above_within below n m c)

module _ (rules : List Rule) where
  abbrev names : List (List ℕ)
  names = names_of rules

  abbrev name_at : ℕ → List ℕ
  name_at n = get_or names n []

  step_down : (n m : ℕ) → IsAbove (graph_of rules) n m → Reads rules (name_at n) (name_at m)
  step_down n m c =
      let h : n < length names = omega (arith, above_within (graph_of rules) n m c, length-map names (numbers_below names rules)) in
      let at : below_of (graph_of rules) n ≡ numbers_below names rules (name_at n) = get_or-map (numbers_below names rules) names n [] [] h in
      let r = Contains-map_from (place_of names) (names_below rules (name_at n)) m (subst (λ ms. Contains ms m) at c) in
      let reads : Reads rules (name_at n) r.0 = reads_from_below rules (name_at n) r.0 r.1 in
      let is : r.0 ≡ name_at m = sym (get_or-place_of names r.0 (read_known rules (name_at n) r.0 reads).1 []) ∙ ap name_at r.2 in
      subst (Reads rules (name_at n)) is reads

  step_up : (a b : List ℕ) → Reads rules a b → IsAbove (graph_of rules) (place_of names a) (place_of names b)
  step_up a b reads =
      let known = (read_known rules a b reads).0 in
      let at : below_of (graph_of rules) (place_of names a) ≡ numbers_below names rules a = get_or-map (numbers_below names rules) names (place_of names a) [] [] (place_of-lt names a known) ∙ ap (numbers_below names rules) (get_or-place_of names a known []) in
      subst (λ ms. Contains ms (place_of names b)) (sym at) (Contains-map (place_of names) (names_below rules a) b (below_from_reads rules a b reads))

  -- a name depends on itself exactly if its number is on a cycle
  pub cycle_up : (a : List ℕ) → DependsOn rules a a → Walk (IsAbove (graph_of rules)) (place_of names a) (place_of names a)
  cycle_up a w = walk_along (place_of names) (Reads rules) (IsAbove (graph_of rules)) step_up a a w

  cycle_down : (n : ℕ) → Walk (IsAbove (graph_of rules)) n n → DependsOn rules (name_at n) (name_at n)
  cycle_down n w = walk_along name_at (IsAbove (graph_of rules)) (Reads rules) step_down n n w

  pub cycle_of : (a : List ℕ) → Contains names a → Walk (IsAbove (graph_of rules)) (place_of names a) (place_of names a) → DependsOn rules a a
  cycle_of a there w = subst (λ t. DependsOn rules t t) (get_or-place_of names a there []) (cycle_down (place_of names a) w)

  -- what depends on something is a head
  pub head_of : (a b : List ℕ) → DependsOn rules a b → (rule : Rule) × (Contains rules rule) × (rule.head ≡ a)
  head_of _ _ (Last a b (k, x, h, is, (e, c))) = (x, (k, h, is), e)
  head_of _ _ (More a m b (k, x, h, is, (e, c)) rest) = (x, (k, h, is), e)

  -- where there is a cycle, some head depends on itself
  pub not_without : HasCycle (graph_of rules) → ¬ All (λ (rule : Rule). ¬ DependsOn rules rule.head rule.head) rules
  not_without cycle none =
      let w : DependsOn rules (name_at cycle.0) (name_at cycle.0) = cycle_down cycle.0 cycle.1 in
      let r = head_of (name_at cycle.0) (name_at cycle.0) w in
      All-contains (λ (rule : Rule). ¬ DependsOn rules rule.head rule.head) rules r.0 none r.1 (subst (λ t. DependsOn rules t t) (sym r.2) w)

pub at_head : {A B : Type 0} (f : A → B) (xs : List A) (i : ℕ) (x : A) → i < length xs → x ≡ get_or xs i x → slice_get (map f xs) i ≡ Some (f x)
at_head f [] i x h e = absurd (omega (arith, h))
at_head f (y ∷ xs) zero x h e = ap (λ z. Some (f z)) (sym e)
at_head f (y ∷ xs) (suc i) x h e = at_head f xs i x (omega (arith, h)) e

module _ (below : List (List ℕ)) (marks : List Mark) (hold : AreMarks below marks) where
  -- a step from a number with a level falls to one with a level
  falls : (n m : ℕ) → HasLevel marks n → IsAbove below n m → HasLevel marks m × (level_at marks m < level_at marks n)
  falls n m l c = (
    All-contains (HasLevel marks) (below_of below n) m (hold.leveled n l) c,
    omega (arith, hold.level n l, greatest-each (map (λ k. suc (level_at marks k)) (below_of below n)) (suc (level_at marks m)) (Contains-map (λ k. suc (level_at marks k)) (below_of below n) m c)),
  )

  walk_falls : (n m : ℕ) → Walk (IsAbove below) n m → HasLevel marks n → level_at marks m < level_at marks n
  walk_falls _ _ (Last n m step) l = (falls n m l step).1
  walk_falls _ _ (More n x m step rest) l = let f = falls n x l step in omega (arith, f.1, walk_falls x m rest f.0)

  -- a number with a level is on no cycle
  pub level_off : (n : ℕ) → HasLevel marks n → ¬ Walk (IsAbove below) n n
  level_off n l w = omega (arith, walk_falls n n w l)

-- numbers that have a level in a graph or in the one turned around are on no cycle
pub both_off : (below above : List (List ℕ)) (marks turned : List Mark) → AreMarks below marks → AreMarks above turned → IsReversed below above → (flags : List Bool)
    → ((n : ℕ) → IsFlagged flags n → HasLevel marks n ⊎ HasLevel turned n) → AreOff below flags
both_off below above marks turned hold hold_turned r flags each n f = elim (each n f) [
  | inl l ↦ level_off below marks hold n l
  | inr l ↦ off_turned below above r n (level_off above turned hold_turned n l)
]

-- flags and one more
pub flag_push : (P : ℕ → Type 0) (flags : List Bool) (b : Bool) → ((n : ℕ) → IsFlagged flags n → P n) → (b ≡ true → P (length flags)) → (n : ℕ) → IsFlagged (flags ++ b ∷ []) n → P n
flag_push P [] b each last zero f = last f
flag_push P [] b each last (suc n) f = absurd (true≢false (sym f))
flag_push P (x ∷ flags) b each last zero f = each 0 f
flag_push P (x ∷ flags) b each last (suc n) f = flag_push (λ k. P (suc k)) flags b (λ k g. each (suc k) g) last n f

-- every number has a level, or one has none
pub some_without : (marks : List Mark) → All (λ mark. IsTrue (is_leveled mark)) marks ⊎ ((k : ℕ) × (k < length marks) × (is_leveled (mark_of marks k) ≡ false))
some_without [] = inl (λ k d h. absurd (omega (arith, h)))
some_without (m ∷ marks) = by (is_leveled m) refl (some_without marks)
  where
    by : (b : Bool) → is_leveled m ≡ b → All (λ mark. IsTrue (is_leveled mark)) marks ⊎ ((k : ℕ) × (k < length marks) × (is_leveled (mark_of marks k) ≡ false)) → All (λ mark. IsTrue (is_leveled mark)) (m ∷ marks) ⊎ ((k : ℕ) × (k < length (m ∷ marks)) × (is_leveled (mark_of (m ∷ marks) k) ≡ false))
    by true e (inl all) = inl (All-cons (λ mark. IsTrue (is_leveled mark)) m marks e all)
    by true e (inr r) = inr (suc r.0, omega (arith, r.1), r.2)
    by false e rest = inr (0, omega arith, e)

stuck_left : (mark : Mark) → mark ≢ New → mark ≢ Open → is_leveled mark ≡ false → mark ≡ Stuck
stuck_left New h g e = absurd (h refl)
stuck_left Open h g e = absurd (g refl)
stuck_left (Leveled level) h g e = absurd (true≢false e)
stuck_left Stuck h g e = refl

-- where not every number has a level there is a cycle
pub cycle_without : (below : List (List ℕ)) (marks : List Mark) → IsSettled below marks → ¬ All (λ mark. IsTrue (is_leveled mark)) marks → HasCycle below
cycle_without below marks s not_all = elim (some_without marks) [
  | inl all ↦ absurd (not_all all)
  | inr r ↦ s.stuck r.0 (stuck_left (mark_of marks r.0) (s.known r.0 (omega (arith, r.1, s.marks_hold.each))) (s.rest r.0) r.2)
]

pub all_have : (marks : List Mark) → All (λ mark. IsTrue (is_leveled mark)) marks → (k : ℕ) → k < length marks → HasLevel marks k
all_have marks all k h = all k New h

-- the head of one of the rules, as the search for the first cycle comes to it
module _ (rules items : List Rule) (names : List (List ℕ)) (graph : List (List ℕ)) (i : ℕ) (rule : Rule) (name : List ℕ) (number : ℕ)
    (same_items : items ≡ rules) (named : names ≡ names_of rules) (graphed : graph ≡ graph_of rules) (h : i < length items) (is : rule ≡ get_or items i rule) (name_is : name ≡ rule.head) (number_is : number ≡ place_of names name) where
  there : Contains rules rule
  there = subst (λ rs. Contains rs rule) same_items (i, h, sym is)

  known : Contains (names_of rules) rule.head
  known = head_known rules rule there

  place_is : number ≡ place_of (names_of rules) rule.head
  place_is = number_is ∙ (λ i. place_of (named i) (name_is i))

  pub name_known : Contains names name
  name_known = subst (λ ns. Contains ns name) (sym named) (subst (Contains (names_of rules)) (sym name_is) known)

  pub number_within : number < length graph
  number_within =
      let at : place_of (names_of rules) rule.head < length (names_of rules) = place_of-lt (names_of rules) rule.head known in
      omega (arith, at, place_is, ap length graphed, length-map (names_of rules) (numbers_below (names_of rules) rules))

  pub found_here : All (λ (r : Rule). ¬ DependsOn rules r.head r.head) (take i items) → Walk (IsAbove graph) number number → IsFirstCycle rules name
  found_here none w =
      let at : Walk (IsAbove (graph_of rules)) (place_of (names_of rules) rule.head) (place_of (names_of rules) rule.head) = subst (λ n. Walk (IsAbove (graph_of rules)) n n) place_is (subst (λ g. Walk (IsAbove g) number number) graphed w) in
      subst (IsFirstCycle rules) (sym name_is) (record {
        place = i;
        head = subst (λ rs. slice_get (map (λ (r : Rule). r.head) rs) i ≡ Some rule.head) same_items (at_head (λ (r : Rule). r.head) items i rule h is);
        cycle = cycle_of rules rule.head known at;
        first = subst (λ rs. All (λ (r : Rule). ¬ DependsOn rules r.head r.head) (take i rs)) same_items none;
      })

  pub not_here : All (λ (r : Rule). ¬ DependsOn rules r.head r.head) (take i items) → ¬ Walk (IsAbove graph) number number → All (λ (r : Rule). ¬ DependsOn rules r.head r.head) (take (i + 1) items)
  not_here none no_walk =
      All-more (λ (r : Rule). ¬ DependsOn rules r.head r.head) items i rule h none (subst (λ (r : Rule). ¬ DependsOn rules r.head r.head) is (λ d.
      no_walk (subst (λ g. Walk (IsAbove g) number number) (sym graphed) (subst (λ n. Walk (IsAbove (graph_of rules)) n n) (sym place_is) (cycle_up rules rule.head d)))))
