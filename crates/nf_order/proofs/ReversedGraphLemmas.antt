-- A graph with its steps turned around.
use Rattle.std.proofs.Common.{◌≡◌, ℕ, ◌+◌, ◌<◌, Bool, true, false, List, [], ◌∷◌, ◌++◌, length, get_or, take, nat_eq, All, Contains, refl, sym, ap, subst, ◌∙◌, inl, inr, arith}
use Rattle.std.proofs.Math.ListN.{set}
use Rattle.std.proofs.lemmas.Bool.{eqb-true, eqb-false, cases_lt}
use Rattle.std.proofs.lemmas.List.{length-set, get_or-set_same, get_or-set_other, get_or_default}
use Rattle.std.proofs.lemmas.List.Elements.{All-contains, All-weaker, All-more, All-set, All-push, Contains-append_left, Contains-push}
use Rattle.nf_order.specs.Dependence.{Walk}
use Rattle.nf_order.specs.Dependence.Walk.{Last, More}
use Rattle.nf_order.specs.inner.Graph.{below_of, IsAbove, ArePut, IsReversed}
use Rattle.nf_order.proofs.WalkLemmas.{walk_on}

module _ (ns : List ℕ) (number : ℕ) (old mid : List (List ℕ)) (i d : ℕ) (s : ArePut (take i ns) number old mid) (h : i < length ns) (within_mid : get_or ns i d < length mid) (row : List ℕ) (read : row ≡ get_or mid (get_or ns i d) row) where
  abbrev lower : ℕ
  lower = get_or ns i d

  abbrev new : List (List ℕ)
  new = set mid lower (row ++ number ∷ [])

  row_is : below_of mid lower ≡ row
  row_is = get_or_default mid lower [] row within_mid ∙ sym read

  at_lower : below_of new lower ≡ row ++ number ∷ []
  at_lower = get_or-set_same mid lower (row ++ number ∷ []) [] within_mid

  still : (n m : ℕ) → IsAbove mid n m → IsAbove new n m
  still n m c = by (nat_eq n lower) refl
    where
      by : (b : Bool) → nat_eq n lower ≡ b → IsAbove new n m
      by true e =
          let is : n ≡ lower = eqb-true n lower e in
          subst (λ k. IsAbove new k m) (sym is) (subst (λ xs. Contains xs m) (sym at_lower) (Contains-append_left row (number ∷ []) m (subst (λ xs. Contains xs m) (ap (below_of mid) is ∙ row_is) c)))
      by false e = subst (λ xs. Contains xs m) (sym (get_or-set_other mid lower n (row ++ number ∷ []) [] (eqb-false n lower e))) c

  pub put_more : ArePut (take (i + 1) ns) number old new
  put_more = record {
    each = length-set mid lower (row ++ number ∷ []) ∙ s.each;
    kept = λ n m c. still n m (s.kept n m c);
    added = All-more (λ n. IsAbove new n number) ns i d h (All-weaker (λ n. IsAbove mid n number) (λ n. IsAbove new n number) (λ n c. still n number c) (take i ns) s.added) (subst (λ xs. Contains xs number) (sym at_lower) (Contains-push row number));
    within = λ most few all.
        let all_mid = s.within most few all in
        All-set (All (λ m. m < most)) mid lower (row ++ number ∷ []) (All-push (λ m. m < most) row number (subst (All (λ m. m < most)) (sym read) (all_mid lower row within_mid)) few) all_mid;
  }

-- the steps from one more number are turned around
pub turn_more : (below old new : List (List ℕ)) (number : ℕ) → ArePut (below_of below number) number old new → ((n m : ℕ) → n < number → IsAbove below n m → IsAbove old m n) → (n m : ℕ) → n < number + 1 → IsAbove below n m → IsAbove new m n
turn_more below old new number put so_far n m h c = elim (cases_lt n number) [
  | inl l ↦ put.kept m n (so_far n m l c)
  | inr l ↦ let is : n ≡ number = omega arith in
      subst (λ k. IsAbove new m k) (sym is) (All-contains (λ k. IsAbove new k number) (below_of below number) m put.added (subst (λ k. Contains (below_of below k) m) is c))
]

walk_turned : (below above : List (List ℕ)) → IsReversed below above → (n m : ℕ) → Walk (IsAbove below) n m → Walk (IsAbove above) m n
walk_turned below above r _ _ (Last n m step) = Last m n (r.turned n m step)
walk_turned below above r _ _ (More n x m step rest) = walk_on (IsAbove above) m x n (walk_turned below above r x m rest) (r.turned n x step)

-- what is on no cycle of the one is on none of the other
pub off_turned : (below above : List (List ℕ)) → IsReversed below above → (n : ℕ) → ¬ Walk (IsAbove above) n n → ¬ Walk (IsAbove below) n n
off_turned below above r n never w = never (walk_turned below above r n n w)
