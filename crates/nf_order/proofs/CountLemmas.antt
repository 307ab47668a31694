-- Counts in two lists of one length, and how high a level can be.
use Rattle.std.proofs.Common.{◌≡◌, ℕ, zero, suc, ◌+◌, ◌<◌, ◌≤◌, Bool, true, false, cond, List, [], ◌∷◌, length, get_or, Contains, nat_lt, refl, sym, ap, ◌∙◌, true≢false, arith}
use Rattle.std.specs.List.{count_by}
use Rattle.std.proofs.lemmas.List.Sums.{sum_by-cons}
use Rattle.nf_order.specs.inner.Graph.{below_of, is_filled, heads}
use Rattle.nf_order.specs.inner.Marks.{mark_of, is_leveled, level_in, HasLevel, level_at, level_over, high, AreMarks}
use Rattle.nf_order.specs.declared.marks.Mark.{Mark}
use Rattle.nf_order.specs.declared.marks.Mark.TheVariants.{New, Open, Leveled, Stuck}

one_by_one : (a b : Bool) → (a ≡ true → b ≡ true) → cond {A = ℕ} a 1 0 ≤ cond {A = ℕ} b 1 0
one_by_one false b h = omega arith
one_by_one true b h = let is : cond {A = ℕ} b 1 0 ≡ 1 = ap (λ c. cond c 1 0) (h refl) in omega arith

pub counts_next : {X : Type 0} (p : X → Bool) (x : X) (xs : List X) → count_by p (x ∷ xs) ≡ cond {A = ℕ} (p x) 1 0 + count_by p xs
counts_next p x xs = sum_by-cons (λ z. cond (p z) 1 0) x xs

module _ {X Y : Type 0} (p : X → Bool) (q : Y → Bool) (d : X) (e : Y) where
  -- what passes in one list passes in the other
  abbrev Passes : List X → List Y → Type 0
  Passes xs ys = (k : ℕ) → k < length xs → p (get_or xs k d) ≡ true → q (get_or ys k e) ≡ true

  counts : (xs : List X) (ys : List Y) → length xs ≡ length ys → Passes xs ys → count_by p xs ≤ count_by q ys
  counts [] ys same each = omega arith
  counts (x ∷ xs) [] same each = absurd (omega (arith, same))
  counts (x ∷ xs) (y ∷ ys) same each =
      let first = one_by_one (p x) (q y) (each 0 (omega arith)) in
      omega (arith, counts_next p x xs, counts_next q y ys, first, counts xs ys (omega (arith, same)) (λ k h. each (suc k) (omega (arith, h))))

  -- and fewer pass where one passes in the second alone
  pub fewer : (xs : List X) (ys : List Y) → length xs ≡ length ys → Passes xs ys → (n : ℕ) → n < length xs → p (get_or xs n d) ≡ false → q (get_or ys n e) ≡ true → count_by p xs < count_by q ys
  fewer [] ys same each n h fails passes = absurd (omega (arith, h))
  fewer (x ∷ xs) [] same each n h fails passes = absurd (omega (arith, same))
  fewer (x ∷ xs) (y ∷ ys) same each zero h fails passes =
      let a : cond {A = ℕ} (p x) 1 0 ≡ 0 = ap (λ c. cond c 1 0) fails in
      let b : cond {A = ℕ} (q y) 1 0 ≡ 1 = ap (λ c. cond c 1 0) passes in
      omega (arith, counts_next p x xs, counts_next q y ys, a, b, counts xs ys (omega (arith, same)) (λ k l. each (suc k) (omega (arith, l))))
  fewer (x ∷ xs) (y ∷ ys) same each (suc n) h fails passes =
      let first = one_by_one (p x) (q y) (each 0 (omega arith)) in
      omega (arith, counts_next p x xs, counts_next q y ys, first, fewer xs ys (omega (arith, same)) (λ k l. each (suc k) (omega (arith, l))) n (omega (arith, h)) fails passes)

-- a level above 0 is that of a name with names below it
high_leveled : (mark : Mark) → nat_lt 0 (level_in mark) ≡ true → is_leveled mark ≡ true
high_leveled New h = absurd (true≢false (sym h))
high_leveled Open h = absurd (true≢false (sym h))
high_leveled (Leveled level) h = refl
high_leveled Stuck h = absurd (true≢false (sym h))

filled_over : (marks : List Mark) (ns : List ℕ) → nat_lt 0 (level_over marks ns) ≡ true → is_filled ns ≡ true
filled_over marks [] h = absurd (true≢false (sym h))
filled_over marks (n ∷ ns) h = refl

filled_by : (ns : List ℕ) (m : ℕ) → Contains ns m → is_filled ns ≡ true
filled_by [] m h = absurd (omega (arith, h.1))
filled_by (n ∷ ns) m h = refl

module _ (below : List (List ℕ)) (marks : List Mark) (hold : AreMarks below marks) where
  high_filled : (k : ℕ) → nat_lt 0 (level_at marks k) ≡ true → is_filled (below_of below k) ≡ true
  high_filled k h =
      let leveled : HasLevel marks k = high_leveled (mark_of marks k) h in
      filled_over marks (below_of below k) (ap (nat_lt 0) (sym (hold.level k leveled)) ∙ h)

  -- no more levels are above 0 than there are heads
  pub few_high : high marks ≤ heads below
  few_high = counts (λ mark. nat_lt 0 (level_in mark)) is_filled New [] marks below hold.each (λ k l. high_filled k)

  -- so the level of a name below one without a level of its own is less than the number of heads
  pub level_fits : (n m : ℕ) → n < length marks → mark_of marks n ≡ Open → Contains (below_of below n) m → level_at marks m < heads below
  level_fits n m h is_open there =
      let less : high marks < heads below = fewer (λ mark. nat_lt 0 (level_in mark)) is_filled New [] marks below hold.each (λ k l. high_filled k) n h (ap (λ mark. nat_lt 0 (level_in mark)) is_open) (filled_by (below_of below n) m there) in
      omega (arith, hold.few m)
