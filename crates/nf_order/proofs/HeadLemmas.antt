-- No more names are heads than there are rules.
use Rattle.std.proofs.Common.{◌≡◌, ℕ, ◌+◌, ◌≤◌, Bool, true, false, cond, List, [], ◌∷◌, length, map, filter, flat_map, bytes_eq, refl, sym, ap, subst, arith}
use Rattle.std.specs.List.{IsDistinct, AllByRecursion, count_by}
use Rattle.std.proofs.lemmas.Map.Keys.{IsDistinct-head, IsDistinct-tail}
use Rattle.nf_core.specs.Texts.{text_eq}
use Rattle.nf_core.specs.Trees.{Rule}
use Rattle.nf_core.specs.Written.{names_of, place_of}
use Rattle.nf_core.proofs.Public.EachOnceLemmas.{same}
use Rattle.nf_core.proofs.Public.NameLemmas.{IsDistinct-names_of}
use Rattle.nf_order.specs.inner.Graph.{graph_of, heads, is_filled, numbers_below}
use Rattle.nf_order.proofs.CountLemmas.{counts_next}
use Rattle.nf_order.proofs.WalkLemmas.{names_read_by}

-- of names, each once, at most one is a given one
none_is : (t : List ℕ) (ns : List (List ℕ)) → AllByRecursion (λ n. text_eq t n ≡ false) ns → count_by (bytes_eq t) ns ≡ 0
none_is t [] h = refl
none_is t (n ∷ ns) h = let no : cond {A = ℕ} (bytes_eq t n) 1 0 ≡ 0 = ap (λ b. cond b 1 0) h.0 in omega (arith, counts_next (bytes_eq t) n ns, no, none_is t ns h.1)

one_is : (t : List ℕ) (ns : List (List ℕ)) → IsDistinct text_eq ns → count_by (bytes_eq t) ns ≤ 1
one_is t [] distinct = omega arith
one_is t (n ∷ ns) distinct = by (bytes_eq t n) refl (one_is t ns (IsDistinct-tail text_eq n ns distinct))
  where
    by : (b : Bool) → bytes_eq t n ≡ b → count_by (bytes_eq t) ns ≤ 1 → count_by (bytes_eq t) (n ∷ ns) ≤ 1
    by true e rest =
        let yes : cond {A = ℕ} (bytes_eq t n) 1 0 ≡ 1 = ap (λ b. cond b 1 0) e in
        let others : count_by (bytes_eq t) ns ≡ 0 = none_is t ns (subst (λ s. AllByRecursion (λ m. text_eq s m ≡ false) ns) (sym (same t n e)) (IsDistinct-head text_eq n ns distinct)) in
        omega (arith, counts_next (bytes_eq t) n ns, yes, others)
    by false e rest =
        let no : cond {A = ℕ} (bytes_eq t n) 1 0 ≡ 0 = ap (λ b. cond b 1 0) e in
        omega (arith, counts_next (bytes_eq t) n ns, no, rest)

module _ (names : List (List ℕ)) (rule : Rule) (rules : List Rule) where
  abbrev with_rule : List ℕ → List ℕ
  with_rule = numbers_below names (rule ∷ rules)

  abbrev without : List ℕ → List ℕ
  without = numbers_below names rules

  -- a rule fills at most its head
  at_most : (n : List ℕ) → cond {A = ℕ} (is_filled (with_rule n)) 1 0 ≤ cond {A = ℕ} (bytes_eq rule.head n) 1 0 + cond {A = ℕ} (is_filled (without n)) 1 0
  at_most n = by (bytes_eq rule.head n) refl
    where
      most_one : (b : Bool) → cond {A = ℕ} b 1 0 ≤ 1
      most_one true = omega arith
      most_one false = omega arith

      by : (b : Bool) → bytes_eq rule.head n ≡ b → cond {A = ℕ} (is_filled (with_rule n)) 1 0 ≤ cond {A = ℕ} (bytes_eq rule.head n) 1 0 + cond {A = ℕ} (is_filled (without n)) 1 0
      by true e =
          let yes : cond {A = ℕ} (bytes_eq rule.head n) 1 0 ≡ 1 = ap (λ b. cond b 1 0) e in
          omega (arith, yes, most_one (is_filled (with_rule n)))
      by false e =
          let no : cond {A = ℕ} (bytes_eq rule.head n) 1 0 ≡ 0 = ap (λ b. cond b 1 0) e in
          let same_below : with_rule n ≡ without n = ap (λ b. map (place_of names) (flat_map names_read_by (cond b (rule ∷ filter (λ (r : Rule). bytes_eq r.head n) rules) (filter (λ (r : Rule). bytes_eq r.head n) rules)))) e in
          let same_weight : cond {A = ℕ} (is_filled (with_rule n)) 1 0 ≡ cond {A = ℕ} (is_filled (without n)) 1 0 = ap (λ ms. cond {A = ℕ} (is_filled ms) 1 0) same_below in
          omega (arith, no, same_weight)

  one_more_rule : (ns : List (List ℕ)) → count_by is_filled (map with_rule ns) ≤ count_by (bytes_eq rule.head) ns + count_by is_filled (map without ns)
  one_more_rule [] = omega arith
  one_more_rule (n ∷ ns) =
      omega (arith, counts_next is_filled (with_rule n) (map with_rule ns), counts_next (bytes_eq rule.head) n ns, counts_next is_filled (without n) (map without ns), at_most n, one_more_rule ns)

no_rules : (names ns : List (List ℕ)) → count_by is_filled (map (numbers_below names []) ns) ≡ 0
no_rules names [] = refl
no_rules names (n ∷ ns) = omega (arith, counts_next is_filled [] (map (numbers_below names []) ns), no_rules names ns)

few_filled : (names ns : List (List ℕ)) → IsDistinct text_eq ns → (rules : List Rule) → count_by is_filled (map (numbers_below names rules) ns) ≤ length rules
few_filled names ns distinct [] = omega (arith, no_rules names ns)
few_filled names ns distinct (rule ∷ rules) = omega (arith, one_more_rule names rule rules ns, one_is rule.head ns distinct, few_filled names ns distinct rules)

pub few_heads : (rules : List Rule) → heads (graph_of rules) ≤ length rules
few_heads rules = few_filled (names_of rules) (names_of rules) (IsDistinct-names_of rules) rules
