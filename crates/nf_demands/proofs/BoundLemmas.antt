-- Where a part with a bound is true, the bound is met.
use Rattle.std.proofs.Common.{◌≡◌, ℕ, zero, suc, ℤ, pos, negsuc, ◌+ℤ◌, ◌-ℤ◌, ◌*ℤ◌, ◌≤ℤ◌, neg_ℤ, Bool, true, false, cond, Option, Some, None, IfSome, option_and_then, option_map, refl, sym, ap, subst, ◌∙◌, arith}
use Rattle.std.specs.Prelude.{int_le, int_lt}
use Rattle.std.specs.Ordering.{int_eq}
use Rattle.std.proofs.Math.IntN.{one, *ℤ-one, *ℤ_comm, *ℤ-negsuc, zero-*ℤ, +ℤ_idl, +ℤ_comm}
use Rattle.std.proofs.lemmas.Int.{ints}
use Rattle.std.proofs.lemmas.Bool.Decides.{Decides-int_eq}
use Rattle.std.proofs.lemmas.Option.{same_Some, cond_some, option_and_then_some}
use Rattle.nf_core.specs.Texts.{is_i64}
use Rattle.nf_core.specs.Intervals.{Interval}
use Rattle.nf_core.specs.Expressions.{member, value_of, value_of_node, binary, negated, in_range, of_ints}
use Rattle.nf_core.specs.declared.values.Value.{Value}
use Rattle.nf_core.specs.declared.values.Value.TheVariants as v
use Rattle.nf_core.specs.declared.operators.BinOp.{BinOp}
use Rattle.nf_core.specs.declared.operators.BinOp.TheVariants as op
use Rattle.nf_core.specs.declared.terms.Term.{Term, Term-F, fold-roll-Term, fold_out-Term, map-Term, roll-Term, ind-Term, out-Term}
use Rattle.nf_core.specs.declared.terms.Term.TheOpen as node
use Rattle.nf_demands.specs.declared.linear.LinearForm.{LinearForm}
use Rattle.nf_demands.specs.Linear.{form_from, number_form, start_form, stop_form, plus, minus, combined, linear_at_node, linear_of}
use Rattle.nf_demands.specs.Linear.{fitting, is_i128}
use Rattle.nf_demands.specs.declared.bounds.Limits.{Limits}
use Rattle.nf_demands.specs.declared.bounds.Bound.{Bound}
use Rattle.nf_demands.specs.declared.bounds.SignedEnd.{SignedEnd}
use Rattle.nf_demands.specs.declared.bounds.End.{End}
use Rattle.nf_demands.specs.declared.bounds.End.TheVariants.{Start, Stop}
use Rattle.nf_demands.specs.Bounds.{end_of, IsWithin, IsBoundMet, limits_of, sign_of, signed, single_end, lowered, turned, signed_bound, bound_of_form, bound_of_sides, bound_at_node, bound_of}
use Rattle.std.proofs.lemmas.Map.Lookups.{exact_signed}
use Rattle.nf_core.proofs.Public.SameIntervalLemmas.{is_equal}
use Rattle.nf_demands.proofs.LinearLemmas.{value_at, value_of_sum, value_of_difference}

ranged : (m : ℤ) (r : Value) → in_range m ≡ Some r → r ≡ v.Int m
unfolding in_range
ranged m r e = sym (cond_some (is_i64 m) (v.Int m) r e).1

number : (m n : ℤ) → v.Int m ≡ v.Int n → m ≡ n
number m n e = cc

one_times : (x : ℤ) → pos 1 *ℤ x ≡ x
unfolding one
one_times x = *ℤ_comm (pos 1) x ∙ *ℤ-one x

at_number : (k x y z w : ℤ) → k ≡ k +ℤ pos 0 *ℤ x +ℤ pos 0 *ℤ y +ℤ pos 0 *ℤ z +ℤ pos 0 *ℤ w
at_number k x y z w = omega (arith, ints, zero-*ℤ x, zero-*ℤ y, zero-*ℤ z, zero-*ℤ w)

at_first : (x y z w : ℤ) → x ≡ pos 0 +ℤ pos 1 *ℤ x +ℤ pos 0 *ℤ y +ℤ pos 0 *ℤ z +ℤ pos 0 *ℤ w
at_first x y z w = omega (arith, ints, one_times x, zero-*ℤ y, zero-*ℤ z, zero-*ℤ w)

at_second : (x y z w : ℤ) → y ≡ pos 0 +ℤ pos 0 *ℤ x +ℤ pos 1 *ℤ y +ℤ pos 0 *ℤ z +ℤ pos 0 *ℤ w
at_second x y z w = omega (arith, ints, zero-*ℤ x, one_times y, zero-*ℤ z, zero-*ℤ w)

at_third : (x y z w : ℤ) → z ≡ pos 0 +ℤ pos 0 *ℤ x +ℤ pos 0 *ℤ y +ℤ pos 1 *ℤ z +ℤ pos 0 *ℤ w
at_third x y z w = omega (arith, ints, zero-*ℤ x, zero-*ℤ y, one_times z, zero-*ℤ w)

at_fourth : (x y z w : ℤ) → w ≡ pos 0 +ℤ pos 0 *ℤ x +ℤ pos 0 *ℤ y +ℤ pos 0 *ℤ z +ℤ pos 1 *ℤ w
at_fourth x y z w = omega (arith, ints, zero-*ℤ x, zero-*ℤ y, zero-*ℤ z, one_times w)

module _ (i j : Interval) where
  abbrev value : Term → Option Value
  value t = value_of i (Some j) t

  -- a value that a linear expression has is the whole number that its form has
  abbrev IsOfForm : Option Value → Option LinearForm → Type 0
  IsOfForm x f = (r : Value) (form : LinearForm) → x ≡ Some r → f ≡ Some form → r ≡ v.Int (value_at i j form)

  the_same : (k : ℤ) (f : LinearForm) → k ≡ value_at i j f → IsOfForm (Some (v.Int k)) (Some f)
  the_same k f h r form e l = sym (same_Some (v.Int k) r e) ∙ ap v.Int (h ∙ ap (value_at i j) (same_Some f form l))

  plain_number : (k : ℤ) → IsOfForm (Some (v.Int k)) (Some (number_form k))
  unfolding value_at
  plain_number k = the_same k (number_form k) (at_number k i.start i.stop j.start j.stop)

  starts : (m : ℕ) → IsOfForm (option_and_then (λ (x : Interval). Some (v.Int x.start)) (member i (Some j) m)) (start_form m)
  unfolding value_at member start_form
  starts zero = the_same i.start (form_from (pos 0) (pos 1) (pos 0) (pos 0) (pos 0)) (at_first i.start i.stop j.start j.stop)
  starts (suc zero) = the_same j.start (form_from (pos 0) (pos 0) (pos 0) (pos 1) (pos 0)) (at_third i.start i.stop j.start j.stop)
  starts (suc (suc m)) = λ r form e l. absurd (cc)

  stops : (m : ℕ) → IsOfForm (option_and_then (λ (x : Interval). Some (v.Int x.stop)) (member i (Some j) m)) (stop_form m)
  unfolding value_at member stop_form
  stops zero = the_same i.stop (form_from (pos 0) (pos 0) (pos 1) (pos 0) (pos 0)) (at_second i.start i.stop j.start j.stop)
  stops (suc zero) = the_same j.stop (form_from (pos 0) (pos 0) (pos 0) (pos 0) (pos 1)) (at_fourth i.start i.stop j.start j.stop)
  stops (suc (suc m)) = λ r form e l. absurd (cc)

  added : (a b : ℤ) (r : Value) (f g form : LinearForm) → v.Int a ≡ v.Int (value_at i j f) → v.Int b ≡ v.Int (value_at i j g) → plus f g ≡ Some form → in_range (a +ℤ b) ≡ Some r → r ≡ v.Int (value_at i j form)
  added a b r f g form h k l e = ranged (a +ℤ b) r e ∙ ap v.Int ((λ q. number _ _ h q +ℤ number _ _ k q) ∙ sym (value_of_sum i j f g form l))

  subtracted : (a b : ℤ) (r : Value) (f g form : LinearForm) → v.Int a ≡ v.Int (value_at i j f) → v.Int b ≡ v.Int (value_at i j g) → minus f g ≡ Some form → in_range (a -ℤ b) ≡ Some r → r ≡ v.Int (value_at i j form)
  subtracted a b r f g form h k l e = ranged (a -ℤ b) r e ∙ ap v.Int ((λ q. number _ _ h q -ℤ number _ _ k q) ∙ sym (value_of_difference i j f g form l))

  -- the operands of an operator on whole numbers that gives a value are whole numbers
  numbers_in : (f : ℤ → ℤ → Option Value) (x y : Option Value) (r : Value) → option_and_then (λ a. option_and_then (of_ints f a) y) x ≡ Some r → (a : ℤ) × (b : ℤ) × (x ≡ Some (v.Int a)) × (y ≡ Some (v.Int b)) × (f a b ≡ Some r)
  unfolding of_ints
  numbers_in f None y r e = absurd (cc)
  numbers_in f (Some (v.Int a)) None r e = absurd (cc)
  numbers_in f (Some (v.Int a)) (Some (v.Int b)) r e = (a, b, refl, refl, e)
  numbers_in f (Some (v.Int a)) (Some (v.Bool b)) r e = absurd (cc)
  numbers_in f (Some (v.Int a)) (Some (v.Text t)) r e = absurd (cc)
  numbers_in f (Some (v.Bool a)) None r e = absurd (cc)
  numbers_in f (Some (v.Bool a)) (Some y) r e = absurd (cc)
  numbers_in f (Some (v.Text a)) None r e = absurd (cc)
  numbers_in f (Some (v.Text a)) (Some y) r e = absurd (cc)

  both_of_form : (o : BinOp) (x y : Option Value) (f g : Option LinearForm) → IsOfForm x f → IsOfForm y g → IsOfForm (option_and_then (λ a. option_and_then (binary o a) y) x) (combined o f g)
  unfolding binary combined
  both_of_form op.Add x y f g h k r form e l =
      let each = numbers_in (λ a b. in_range (a +ℤ b)) x y r e in
      option_and_then_some (λ a. option_and_then (plus a) g) f form l (λ a p t.
      option_and_then_some (plus a) g form t (λ b q u.
      added each.0 each.1 r a b form (h (v.Int each.0) a each.2 p) (k (v.Int each.1) b each.3 q) u each.4))
  both_of_form op.Sub x y f g h k r form e l =
      let each = numbers_in (λ a b. in_range (a -ℤ b)) x y r e in
      option_and_then_some (λ a. option_and_then (minus a) g) f form l (λ a p t.
      option_and_then_some (minus a) g form t (λ b q u.
      subtracted each.0 each.1 r a b form (h (v.Int each.0) a each.2 p) (k (v.Int each.1) b each.3 q) u each.4))
  both_of_form o x y f g h k n form e l = absurd (cc)

  turned_round : (a : ℤ) → neg_ℤ a ≡ pos 0 -ℤ a
  turned_round a = omega (arith, ints)

  negated_of_form : (x : Option Value) (f : Option LinearForm) → IsOfForm x f → IsOfForm (option_and_then negated x) (option_and_then (minus (number_form (pos 0))) f)
  unfolding negated
  negated_of_form (Some (v.Int a)) f h r form e l =
      option_and_then_some (minus (number_form (pos 0))) f form l (λ b p s.
      subtracted (pos 0) a r (number_form (pos 0)) b form (plain_number (pos 0) (v.Int (pos 0)) (number_form (pos 0)) refl refl) (h (v.Int a) b refl p) s (ap in_range (sym (turned_round a)) ∙ e))
  negated_of_form None f h n form e l = absurd (cc)
  negated_of_form (Some (v.Bool b)) f h n form e l = absurd (cc)
  negated_of_form (Some (v.Text t)) f h n form e l = absurd (cc)

  abbrev HasItsForm : Term → Type 0
  HasItsForm t = IsOfForm (value t) (linear_of t)

  node_of_form : (y : Term-F ((x : Term) × HasItsForm x)) → IsOfForm
      (value_of_node i (Some j) (map-Term Term (Option Value) (value_of i (Some j)) (map-Term ((x : Term) × HasItsForm x) Term (λ e. e.0) y)))
      (linear_at_node (map-Term Term (Option LinearForm) linear_of (map-Term ((x : Term) × HasItsForm x) Term (λ e. e.0) y)))
  unfolding value_of_node linear_at_node
  node_of_form (node.Bool b) = λ r form e l. absurd (cc)
  node_of_form (node.Int k) = plain_number k
  node_of_form (node.Text t) = λ r form e l. absurd (cc)
  node_of_form (node.Start m) = starts m
  node_of_form (node.Stop m) = stops m
  node_of_form (node.Key m place) = λ r form e l. absurd (cc)
  node_of_form (node.Neg a) = negated_of_form (value a.0) (linear_of a.0) a.1
  node_of_form (node.Not a) = λ r form e l. absurd (cc)
  node_of_form (node.Bin o a b) = both_of_form o (value a.0) (value b.0) (linear_of a.0) (linear_of b.0) a.1 b.1

  value_rolled : (n : Term-F Term) → value_of i (Some j) (roll-Term n) ≡ value_of_node i (Some j) (map-Term Term (Option Value) (value_of i (Some j)) n)
  unfolding value_of
  value_rolled n = fold-roll-Term (Option Value) (value_of_node i (Some j)) n

  linear_rolled : (n : Term-F Term) → linear_of (roll-Term n) ≡ linear_at_node (map-Term Term (Option LinearForm) linear_of n)
  unfolding linear_of
  linear_rolled n = fold-roll-Term (Option LinearForm) linear_at_node n

  step : (y : Term-F ((x : Term) × HasItsForm x)) → HasItsForm (roll-Term (map-Term ((x : Term) × HasItsForm x) Term (λ e. e.0) y))
  step y r form e l = node_of_form y r form (sym (value_rolled _) ∙ e) (sym (linear_rolled _) ∙ l)

  pub value_of_form : (t : Term) → HasItsForm t
  value_of_form = ind-Term HasItsForm (λ x y e. subst (λ n. HasItsForm (roll-Term n)) e (step y))

lt_within : (a b : ℤ) → int_lt a b ≡ true → (a -ℤ b) ≤ℤ negsuc 0
lt_within a b e = grind (arith, ints)

le_within : (a b : ℤ) → int_le a b ≡ true → (a -ℤ b) ≤ℤ pos 0
le_within a b e = grind (arith, ints)

gt_within : (a b : ℤ) → int_lt b a ≡ true → pos 1 ≤ℤ (a -ℤ b)
gt_within a b e = grind (arith, ints)

ge_within : (a b : ℤ) → int_le b a ≡ true → pos 0 ≤ℤ (a -ℤ b)
ge_within a b e = grind (arith, ints)

eq_low : (a b : ℤ) → a ≡ b → pos 0 ≤ℤ (a -ℤ b)
eq_low a b e = omega (arith, ints)

eq_high : (a b : ℤ) → a ≡ b → (a -ℤ b) ≤ℤ pos 0
eq_high a b e = omega (arith, ints)

truth : (b : Bool) → Some (v.Bool b) ≡ Some (v.Bool true) → b ≡ true
truth b e = cc

-- where a comparison is true, the left side minus the right is within its limits
within : (o : BinOp) (a b : ℤ) (limits : Limits) → limits_of o ≡ Some limits → binary o (v.Int a) (v.Int b) ≡ Some (v.Bool true) → IsWithin limits (a -ℤ b)
unfolding limits_of binary of_ints
within op.Eq a b limits l e =
    let same : a ≡ b = exact_signed a b (is_equal _ (truth _ e)) in
    subst (λ m. IsWithin m (a -ℤ b)) (same_Some _ limits l) (record { low = eq_low a b same; high = eq_high a b same })
within op.Lt a b limits l e = subst (λ m. IsWithin m (a -ℤ b)) (same_Some _ limits l) (record { low = tt; high = lt_within a b (truth _ e) })
within op.Le a b limits l e = subst (λ m. IsWithin m (a -ℤ b)) (same_Some _ limits l) (record { low = tt; high = le_within a b (truth _ e) })
within op.Gt a b limits l e = subst (λ m. IsWithin m (a -ℤ b)) (same_Some _ limits l) (record { low = gt_within a b (truth _ e); high = tt })
within op.Ge a b limits l e = subst (λ m. IsWithin m (a -ℤ b)) (same_Some _ limits l) (record { low = ge_within a b (truth _ e); high = tt })
within o a b limits l e = absurd (cc)

fits : (n m : ℤ) → fitting n ≡ Some m → n ≡ m
unfolding fitting
fits n m e = (cond_some (is_i128 n) n m e).1

-- a fact of what stands there
there : (o : Option ℤ) (P : ℤ → Type 0) → ((m : ℤ) → o ≡ Some m → P m) → IfSome o P
there None P h = tt
there (Some m) P h = h m refl

of_there : (o : Option ℤ) (P : ℤ → Type 0) (m : ℤ) → o ≡ Some m → IfSome o P → P m
of_there None P m e h = absurd (cc)
of_there (Some n) P m e h = subst P (same_Some n m e) h

low_down : (k c n m : ℤ) → k ≤ℤ (c +ℤ n) → k -ℤ c ≡ m → m ≤ℤ n
low_down k c n m h e = omega (arith, ints)

high_down : (k c n m : ℤ) → (c +ℤ n) ≤ℤ k → k -ℤ c ≡ m → n ≤ℤ m
high_down k c n m h e = omega (arith, ints)

low_round : (k c n m : ℤ) → (c -ℤ n) ≤ℤ k → c -ℤ k ≡ m → m ≤ℤ n
low_round k c n m h e = omega (arith, ints)

high_round : (k c n m : ℤ) → k ≤ℤ (c -ℤ n) → c -ℤ k ≡ m → n ≤ℤ m
high_round k c n m h e = omega (arith, ints)

lowered_met : (limits : Limits) (c n : ℤ) → IsWithin limits (c +ℤ n) → IsWithin (lowered limits c) n
unfolding lowered
lowered_met limits c n h = record {
  low = there _ (λ m. m ≤ℤ n) (λ m e. option_and_then_some (λ k. fitting (k -ℤ c)) limits.least m e (λ k p q. low_down k c n m (of_there limits.least (λ k. k ≤ℤ (c +ℤ n)) k p h.low) (fits _ m q)));
  high = there _ (λ m. n ≤ℤ m) (λ m e. option_and_then_some (λ k. fitting (k -ℤ c)) limits.most m e (λ k p q. high_down k c n m (of_there limits.most (λ k. (c +ℤ n) ≤ℤ k) k p h.high) (fits _ m q)));
}

turned_met : (limits : Limits) (c n : ℤ) → IsWithin limits (c -ℤ n) → IsWithin (turned limits c) n
unfolding turned
turned_met limits c n h = record {
  low = there _ (λ m. m ≤ℤ n) (λ m e. option_and_then_some (λ k. fitting (c -ℤ k)) limits.most m e (λ k p q. low_round k c n m (of_there limits.most (λ k. (c -ℤ n) ≤ℤ k) k p h.high) (fits _ m q)));
  high = there _ (λ m. n ≤ℤ m) (λ m e. option_and_then_some (λ k. fitting (c -ℤ k)) limits.least m e (λ k p q. high_round k c n m (of_there limits.least (λ k. k ≤ℤ (c -ℤ n)) k p h.low) (fits _ m q)));
}

equal_numbers : (a b : ℤ) → int_eq a b ≡ true → a ≡ b
equal_numbers a b e = (Decides-int_eq a b).0 e

map_some : {A B : Type 0} {P : Type 0} (f : A → B) (o : Option A) (y : B) → option_map f o ≡ Some y → ((x : A) → o ≡ Some x → f x ≡ y → P) → P
map_some f None y e h = absurd (cc)
map_some f (Some x) y e h = h x refl (same_Some (f x) y e)

minus_one_times : (x : ℤ) → negsuc 0 *ℤ x ≡ neg_ℤ x
minus_one_times x = *ℤ_comm (negsuc 0) x ∙ *ℤ-negsuc x 0 ∙ ap neg_ℤ (*ℤ_comm x (pos 1) ∙ one_times x)

sign_cases : (times : ℤ) (b c : Bool) → int_eq times (pos 1) ≡ b → int_eq times (negsuc 0) ≡ c → (negative : Bool) (x : ℤ)
    → cond b (Some false) (cond c (Some true) None) ≡ Some negative → times *ℤ x ≡ cond negative (neg_ℤ x) x
sign_cases times true c p q negative x e =
    ap (λ t. t *ℤ x) (equal_numbers times (pos 1) p) ∙ one_times x ∙ ap (λ b. cond b (neg_ℤ x) x) (same_Some false negative e)
sign_cases times false true p q negative x e =
    ap (λ t. t *ℤ x) (equal_numbers times (negsuc 0) q) ∙ minus_one_times x ∙ ap (λ b. cond b (neg_ℤ x) x) (same_Some true negative e)
sign_cases times false false p q negative x e = absurd (cc)

sign_value : (times : ℤ) (negative : Bool) (x : ℤ) → sign_of times ≡ Some negative → times *ℤ x ≡ cond negative (neg_ℤ x) x
unfolding sign_of
sign_value times negative x e = sign_cases times _ _ refl refl negative x e

-- an end of a member with its sign
abbrev signed_value : SignedEnd → Interval → ℤ
signed_value s i = cond s.negative (neg_ℤ (end_of s.end i)) (end_of s.end i)

left_out : (t x y z : ℤ) → t ≡ pos 0 → y ≡ z → t *ℤ x +ℤ y ≡ z
left_out t x y z e h = ap (λ n. n *ℤ x +ℤ y) e ∙ ap (λ n. n +ℤ y) (zero-*ℤ x) ∙ +ℤ_idl y ∙ h

right_out : (t x y z : ℤ) → t ≡ pos 0 → y ≡ z → y +ℤ t *ℤ x ≡ z
right_out t x y z e h = +ℤ_comm y (t *ℤ x) ∙ left_out t x y z e h

single_cases : (i : Interval) (start stop : ℤ) (b c : Bool) → int_eq start (pos 0) ≡ b → int_eq stop (pos 0) ≡ c → (s : SignedEnd)
    → cond b (option_map (signed Stop) (sign_of stop)) (cond c (option_map (signed Start) (sign_of start)) None) ≡ Some s
    → start *ℤ i.start +ℤ stop *ℤ i.stop ≡ signed_value s i
single_cases i start stop true c p q s e =
    map_some (signed Stop) (sign_of stop) s e (λ negative f g.
    left_out start i.start _ _ (equal_numbers start (pos 0) p) (sign_value stop negative i.stop f ∙ ap (λ s. signed_value s i) g))
single_cases i start stop false true p q s e =
    map_some (signed Start) (sign_of start) s e (λ negative f g.
    right_out stop i.stop _ _ (equal_numbers stop (pos 0) q) (sign_value start negative i.start f ∙ ap (λ s. signed_value s i) g))
single_cases i start stop false false p q s e = absurd (cc)

single_value : (i : Interval) (start stop : ℤ) (s : SignedEnd) → single_end start stop ≡ Some s → start *ℤ i.start +ℤ stop *ℤ i.stop ≡ signed_value s i
unfolding single_end
single_value i start stop s e = single_cases i start stop _ _ refl refl s e

sum_in : (c x y f s : ℤ) → f ≡ x → s ≡ y → (c +ℤ f) +ℤ s ≡ c +ℤ (x +ℤ y)
sum_in c x y f s e h = omega (arith, ints)

difference_in : (c x y f s : ℤ) → f ≡ neg_ℤ x → s ≡ y → (c +ℤ f) +ℤ s ≡ c +ℤ (y -ℤ x)
difference_in c x y f s e h = omega (arith, ints)

difference_round : (c x y f s : ℤ) → f ≡ x → s ≡ neg_ℤ y → (c +ℤ f) +ℤ s ≡ c -ℤ (y -ℤ x)
difference_round c x y f s e h = omega (arith, ints)

sum_round : (c x y f s : ℤ) → f ≡ neg_ℤ x → s ≡ neg_ℤ y → (c +ℤ f) +ℤ s ≡ c -ℤ (x +ℤ y)
sum_round c x y f s e h = omega (arith, ints)

module _ (i j : Interval) where
  -- two signed ends and a number within limits meet their bound
  signed_met : (p q : Bool) (d e : End) (c f s : ℤ) (limits : Limits) → f ≡ cond p (neg_ℤ (end_of d i)) (end_of d i) → s ≡ cond q (neg_ℤ (end_of e j)) (end_of e j)
      → IsWithin limits ((c +ℤ f) +ℤ s) → IsBoundMet (signed_bound (signed d p) (signed e q) c limits) i j
  unfolding signed_bound
  signed_met false false d e c f s limits g h w = lowered_met limits c _ (subst (IsWithin limits) (sum_in c _ _ f s g h) w)
  signed_met true false d e c f s limits g h w = lowered_met limits c _ (subst (IsWithin limits) (difference_in c _ _ f s g h) w)
  signed_met false true d e c f s limits g h w = turned_met limits c _ (subst (IsWithin limits) (difference_round c _ _ f s g h) w)
  signed_met true true d e c f s limits g h w = turned_met limits c _ (subst (IsWithin limits) (sum_round c _ _ f s g h) w)

  by_members : (n a b c d x y : ℤ) → a +ℤ b ≡ x → c +ℤ d ≡ y → n +ℤ a +ℤ b +ℤ c +ℤ d ≡ (n +ℤ x) +ℤ y
  by_members n a b c d x y g h = omega (arith, ints)

  form_met : (limits : Limits) (form : LinearForm) (bound : Bound) → bound_of_form limits form ≡ Some bound → IsWithin limits (value_at i j form) → IsBoundMet bound i j
  unfolding bound_of_form value_at
  form_met limits form bound e w =
      option_and_then_some (λ first. option_map (λ second. signed_bound first second form.number limits) (single_end form.second_start form.second_stop)) (single_end form.first_start form.first_stop) bound e (λ first p t.
      map_some (λ second. signed_bound first second form.number limits) (single_end form.second_start form.second_stop) bound t (λ second q u.
      let f = single_value i form.first_start form.first_stop first p in
      let s = single_value j form.second_start form.second_stop second q in
      subst (λ (b : Bound). IsBoundMet b i j) u
      (signed_met first.negative second.negative first.end second.end form.number _ _ limits refl refl
      (subst (IsWithin limits) (by_members form.number _ _ _ _ _ _ f s) w))))

  sides_met : (o : BinOp) (a b : Term) (bound : Bound) → bound_of_sides o (linear_of a) (linear_of b) ≡ Some bound
      → option_and_then (λ x. option_and_then (binary o x) (value_of i (Some j) b)) (value_of i (Some j) a) ≡ Some (v.Bool true) → IsBoundMet bound i j
  unfolding bound_of_sides
  sides_met o a b bound e t =
      option_and_then_some (λ limits. option_and_then (λ x. option_and_then (λ y. option_and_then (bound_of_form limits) (minus x y)) (linear_of b)) (linear_of a)) (limits_of o) bound e (λ limits l e1.
      option_and_then_some (λ x. option_and_then (λ y. option_and_then (bound_of_form limits) (minus x y)) (linear_of b)) (linear_of a) bound e1 (λ x p e2.
      option_and_then_some (λ y. option_and_then (bound_of_form limits) (minus x y)) (linear_of b) bound e2 (λ y q e3.
      option_and_then_some (bound_of_form limits) (minus x y) bound e3 (λ form r e4.
      option_and_then_some (λ m. option_and_then (binary o m) (value_of i (Some j) b)) (value_of i (Some j) a) (v.Bool true) t (λ m g t1.
      option_and_then_some (binary o m) (value_of i (Some j) b) (v.Bool true) t1 (λ n h t2.
      let left = value_of_form i j a m x g p in
      let right = value_of_form i j b n y h q in
      let true_here : binary o (v.Int (value_at i j x)) (v.Int (value_at i j y)) ≡ Some (v.Bool true) = (λ k. binary o (sym left k) (sym right k)) ∙ t2 in
      form_met limits form bound e4 (subst (IsWithin limits) (sym (value_of_difference i j x y form r)) (within o _ _ limits l true_here))))))))

  bound_node : (n : Term-F Term) (bound : Bound) → bound_at_node n ≡ Some bound
      → value_of_node i (Some j) (map-Term Term (Option Value) (value_of i (Some j)) n) ≡ Some (v.Bool true) → IsBoundMet bound i j
  unfolding bound_at_node value_of_node
  bound_node (node.Bin o a b) bound e t = sides_met o a b bound e t
  bound_node n bound e t = absurd (cc)

  value_by_node : (t : Term) → value_of i (Some j) t ≡ value_of_node i (Some j) (map-Term Term (Option Value) (value_of i (Some j)) (out-Term t))
  unfolding value_of
  value_by_node t = fold_out-Term (Option Value) (value_of_node i (Some j)) t

  pub bound_met : (t : Term) (bound : Bound) → bound_of t ≡ Some bound → value_of i (Some j) t ≡ Some (v.Bool true) → IsBoundMet bound i j
  unfolding bound_of
  bound_met t bound e is = bound_node (out-Term t) bound e (sym (value_by_node t) ∙ is)
