-- The value of a linear expression is that of its form.
use Rattle.std.proofs.Common.{◌≡◌, zero, suc, ℤ, pos, negsuc, ◌+ℤ◌, ◌-ℤ◌, ◌*ℤ◌, Option, Some, None, sym, ap, ◌∙◌, arith}
use Rattle.std.proofs.Math.IntN.{suc_ℤ, pred_ℤ, suc_ℤ-*ℤ, pred_ℤ-*ℤ, suc_ℤ-+ℤ, pred_ℤ-+ℤ, zero-*ℤ, -ℤ-+ℤ_cancel, +ℤ_idl}
use Rattle.std.proofs.lemmas.Int.{ints}
use Rattle.std.proofs.lemmas.Option.{same_Some, cond_some}
use Rattle.nf_core.specs.Intervals.{Interval}
use Rattle.nf_demands.specs.declared.linear.LinearForm.{LinearForm}
use Rattle.nf_demands.specs.Linear.{form_from, is_i128, fitting, form_where, plus, minus}

-- the value of a form at two members
unfoldable pub value_at : Interval → Interval → LinearForm → ℤ
value_at i j form = form.number +ℤ form.first_start *ℤ i.start +ℤ form.first_stop *ℤ i.stop +ℤ form.second_start *ℤ j.start +ℤ form.second_stop *ℤ j.stop

up_one : (a b x ax bx ab : ℤ) → ab ≡ ax +ℤ bx → ab +ℤ x ≡ (ax +ℤ x) +ℤ bx
up_one a b x ax bx ab e = omega (arith, ints)

down_one : (a b x ax bx ab : ℤ) → ab ≡ ax +ℤ bx → ab -ℤ x ≡ (ax -ℤ x) +ℤ bx
down_one a b x ax bx ab e = omega (arith, ints)

step_up : (a b x : ℤ) → (a +ℤ b) *ℤ x ≡ a *ℤ x +ℤ b *ℤ x → (suc_ℤ a +ℤ b) *ℤ x ≡ suc_ℤ a *ℤ x +ℤ b *ℤ x
step_up a b x e = ap (λ y. y *ℤ x) (suc_ℤ-+ℤ a b) ∙ suc_ℤ-*ℤ (a +ℤ b) x ∙ up_one a b x (a *ℤ x) (b *ℤ x) _ e ∙ ap (λ y. y +ℤ b *ℤ x) (sym (suc_ℤ-*ℤ a x))

step_down : (a b x : ℤ) → (a +ℤ b) *ℤ x ≡ a *ℤ x +ℤ b *ℤ x → (pred_ℤ a +ℤ b) *ℤ x ≡ pred_ℤ a *ℤ x +ℤ b *ℤ x
step_down a b x e = ap (λ y. y *ℤ x) (pred_ℤ-+ℤ a b) ∙ pred_ℤ-*ℤ (a +ℤ b) x ∙ down_one a b x (a *ℤ x) (b *ℤ x) _ e ∙ ap (λ y. y +ℤ b *ℤ x) (sym (pred_ℤ-*ℤ a x))

none_more : (b x : ℤ) → (pos 0 +ℤ b) *ℤ x ≡ pos 0 *ℤ x +ℤ b *ℤ x
none_more b x = ap (λ y. y *ℤ x) (+ℤ_idl b) ∙ sym (ap (λ y. y +ℤ b *ℤ x) (zero-*ℤ x) ∙ +ℤ_idl (b *ℤ x))

-- a sum of two numbers, times a third
add_times : (a b x : ℤ) → (a +ℤ b) *ℤ x ≡ a *ℤ x +ℤ b *ℤ x
add_times (pos zero) b x = none_more b x
add_times (pos (suc n)) b x = step_up (pos n) b x (add_times (pos n) b x)
add_times (negsuc zero) b x = step_down (pos 0) b x (none_more b x)
add_times (negsuc (suc n)) b x = step_down (negsuc n) b x (add_times (negsuc n) b x)

less : (c a b : ℤ) → c ≡ a +ℤ b → a ≡ c -ℤ b
less c a b e = omega (arith, ints)

-- a difference of two numbers, times a third
sub_times : (a b x : ℤ) → (a -ℤ b) *ℤ x ≡ a *ℤ x -ℤ b *ℤ x
sub_times a b x = less (a *ℤ x) _ _ (sym (ap (λ y. y *ℤ x) (-ℤ-+ℤ_cancel a b)) ∙ add_times (a -ℤ b) b x)

fits : (n m : ℤ) → fitting n ≡ Some m → n ≡ m
unfolding fitting
fits n m e = (cond_some (is_i128 n) n m e).1

parts : (a b c d e : Option ℤ) (form : LinearForm) → form_where a b c d e ≡ Some form
    → (a ≡ Some form.number) × (b ≡ Some form.first_start) × (c ≡ Some form.first_stop) × (d ≡ Some form.second_start) × (e ≡ Some form.second_stop)
parts (Some a) (Some b) (Some c) (Some d) (Some e) form h =
    let is = same_Some (form_from a b c d e) form h in (
      ap (λ (f : LinearForm). Some f.number) is,
      ap (λ (f : LinearForm). Some f.first_start) is,
      ap (λ (f : LinearForm). Some f.first_stop) is,
      ap (λ (f : LinearForm). Some f.second_start) is,
      ap (λ (f : LinearForm). Some f.second_stop) is,
    )
parts None b c d e form h = absurd (cc)
parts (Some a) None c d e form h = absurd (cc)
parts (Some a) (Some b) None d e form h = absurd (cc)
parts (Some a) (Some b) (Some c) None e form h = absurd (cc)
parts (Some a) (Some b) (Some c) (Some d) None form h = absurd (cc)

sum_up : (n m k a b c d x y z w ax bx cx dx : ℤ) → k ≡ n +ℤ m → ax ≡ a +ℤ x → bx ≡ b +ℤ y → cx ≡ c +ℤ z → dx ≡ d +ℤ w
    → k +ℤ ax +ℤ bx +ℤ cx +ℤ dx ≡ (n +ℤ a +ℤ b +ℤ c +ℤ d) +ℤ (m +ℤ x +ℤ y +ℤ z +ℤ w)
sum_up n m k a b c d x y z w ax bx cx dx e0 e1 e2 e3 e4 = omega (arith, ints)

take_off : (n m k a b c d x y z w ax bx cx dx : ℤ) → k ≡ n -ℤ m → ax ≡ a -ℤ x → bx ≡ b -ℤ y → cx ≡ c -ℤ z → dx ≡ d -ℤ w
    → k +ℤ ax +ℤ bx +ℤ cx +ℤ dx ≡ (n +ℤ a +ℤ b +ℤ c +ℤ d) -ℤ (m +ℤ x +ℤ y +ℤ z +ℤ w)
take_off n m k a b c d x y z w ax bx cx dx e0 e1 e2 e3 e4 = omega (arith, ints)

times : (f g k x : ℤ) → f ≡ k → f *ℤ x ≡ g → k *ℤ x ≡ g
times f g k x e h = ap (λ y. y *ℤ x) (sym e) ∙ h

module _ (i j : Interval) where
  pub value_of_sum : (a b form : LinearForm) → plus a b ≡ Some form → value_at i j form ≡ value_at i j a +ℤ value_at i j b
  unfolding plus value_at
  value_of_sum a b form e =
      let p = parts _ _ _ _ _ form e in
      sum_up a.number b.number form.number _ _ _ _ _ _ _ _ _ _ _ _ (sym (fits _ _ p.0))
      (times _ _ _ i.start (fits _ _ p.1) (add_times a.first_start b.first_start i.start))
      (times _ _ _ i.stop (fits _ _ p.2) (add_times a.first_stop b.first_stop i.stop))
      (times _ _ _ j.start (fits _ _ p.3) (add_times a.second_start b.second_start j.start))
      (times _ _ _ j.stop (fits _ _ p.4) (add_times a.second_stop b.second_stop j.stop))

  pub value_of_difference : (a b form : LinearForm) → minus a b ≡ Some form → value_at i j form ≡ value_at i j a -ℤ value_at i j b
  unfolding minus value_at
  value_of_difference a b form e =
      let p = parts _ _ _ _ _ form e in
      take_off a.number b.number form.number _ _ _ _ _ _ _ _ _ _ _ _ (sym (fits _ _ p.0))
      (times _ _ _ i.start (fits _ _ p.1) (sub_times a.first_start b.first_start i.start))
      (times _ _ _ i.stop (fits _ _ p.2) (sub_times a.first_stop b.first_stop i.stop))
      (times _ _ _ j.start (fits _ _ p.3) (sub_times a.second_start b.second_start j.start))
      (times _ _ _ j.stop (fits _ _ p.4) (sub_times a.second_stop b.second_stop j.stop))
