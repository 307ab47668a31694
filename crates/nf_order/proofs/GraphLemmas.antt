-- The numbers below each name, rule by rule, and that the graph of some rules is a graph.
use Rattle.std.proofs.Common.{◌≡◌, ℕ, ◌+◌, ◌<◌, ◌≢◌, Bool, true, false, cond, List, [], ◌∷◌, ◌++◌, length, get_or, take, map, filter, flat_map, replicate, All, Contains, bytes_eq, refl, sym, ap, subst, ◌∙◌, true≢false, append-nil}
use Rattle.std.specs.List.{IsDistinct, AllByRecursion}
use Rattle.std.proofs.Math.ListN.{set}
use Rattle.std.proofs.lemmas.Bool.{eq-eqb, eqb-true}
use Rattle.std.proofs.lemmas.List.{length-map, length-set, get_or-map, map-append, get_or-set_same, get_or-set_other, take_more, same_lists}
use Rattle.std.proofs.lemmas.List.Elements.{All-map, filter-append, Contains-get_or}
use Rattle.std.proofs.lemmas.Grind.{flat_map-append}
use Rattle.nf_core.specs.Texts.{text_eq}
use Rattle.nf_core.specs.Trees.{Rule}
use Rattle.nf_core.specs.Written.{names_of, names_in, names_below, place_of}
use Rattle.nf_core.proofs.Public.EachOnceLemmas.{place_of-lt, place_of-eq}
use Rattle.nf_core.proofs.Public.NameLemmas.{known_names}
use Rattle.nf_order.specs.inner.Graph.{IsGraph, numbers_below, graph_of}
use Rattle.nf_order.proofs.WalkLemmas.{names_read_by, reads_from_below, read_known}

-- no rules, nothing below
pub below_none : (names ns : List (List ℕ)) → replicate (length ns) [] ≡ map (numbers_below names []) ns
below_none names [] = refl
below_none names (n ∷ ns) = λ i. [] ∷ below_none names ns i

module _ (names : List (List ℕ)) where
  -- what a rule puts below a name
  abbrev put : Rule → List ℕ → List ℕ
  put rule name = cond (bytes_eq rule.head name) (map (place_of names) (names_read_by rule)) []

  put_is : (rule : Rule) (name : List ℕ) → map (place_of names) (names_below (rule ∷ []) name) ≡ put rule name
  put_is rule name = by (bytes_eq rule.head name)
    where
      by : (b : Bool) → map (place_of names) (flat_map names_read_by (cond b (rule ∷ []) [])) ≡ cond b (map (place_of names) (names_read_by rule)) []
      by true = ap (map (place_of names)) (append-nil (names_read_by rule))
      by false = refl

  -- the rules so far and one more
  one_more : (rules : List Rule) (rule : Rule) (name : List ℕ) → numbers_below names (rules ++ rule ∷ []) name ≡ numbers_below names rules name ++ put rule name
  one_more rules rule name =
      let passes : Rule → Bool = λ r. bytes_eq r.head name in
      ap (λ rs. map (place_of names) (flat_map names_read_by rs)) (filter-append passes rules (rule ∷ []))
      ∙ ap (map (place_of names)) (flat_map-append names_read_by (filter passes rules) (filter passes (rule ∷ [])))
      ∙ map-append (place_of names) (names_below rules name) (names_below (rule ∷ []) name)
      ∙ ap (λ last. numbers_below names rules name ++ last) (put_is rule name)

  module _ (distinct : IsDistinct text_eq names) (rule : Rule) (there : Contains names rule.head) (rules : List Rule) where
    abbrev head : ℕ
    head = place_of names rule.head

    abbrev before : List (List ℕ)
    before = map (numbers_below names rules) names

    abbrev after : List (List ℕ)
    after = map (numbers_below names (rules ++ rule ∷ [])) names

    within : head < length before
    within = rw length-map (place_of-lt names rule.head there)

    -- the rule adds to its head, and to no other name
    module _ (new : List ℕ) (is : new ≡ get_or before head [] ++ map (place_of names) (names_read_by rule)) (k : ℕ) (d : List ℕ) (h : k < length names) where
      abbrev name : List ℕ
      name = get_or names k []

      is_before : (e : List ℕ) → get_or before k e ≡ numbers_below names rules name
      is_before e = get_or-map (numbers_below names rules) names k [] e h

      is_after : (b : Bool) → bytes_eq rule.head name ≡ b → get_or after k d ≡ numbers_below names rules name ++ cond b (map (place_of names) (names_read_by rule)) []
      is_after b e = get_or-map (numbers_below names (rules ++ rule ∷ [])) names k [] d h ∙ one_more rules rule name ∙ ap (λ b. numbers_below names rules name ++ cond b (map (place_of names) (names_read_by rule)) []) e

      at : get_or (set before head new) k d ≡ get_or after k d
      at = by (bytes_eq rule.head name) refl
        where
          by : (b : Bool) → bytes_eq rule.head name ≡ b → get_or (set before head new) k d ≡ get_or after k d
          by true e =
              let same_place : head ≡ k = eqb-true head k (place_of-eq names rule.head there distinct k h ∙ e) in
              ap (λ n. get_or (set before head new) n d) (sym same_place) ∙ get_or-set_same before head new d within ∙ is
              ∙ ap (λ xs. xs ++ map (place_of names) (names_read_by rule)) (ap (λ n. get_or before n []) same_place ∙ is_before [])
              ∙ sym (is_after true e)
          by false e =
              let other : k ≢ head = λ p. true≢false (sym (eq-eqb head k (sym p)) ∙ place_of-eq names rule.head there distinct k h ∙ e) in
              get_or-set_other before head k new d other ∙ is_before d ∙ sym (is_after false e ∙ append-nil (numbers_below names rules name))

    pub put_below : (new : List ℕ) → new ≡ get_or before head [] ++ map (place_of names) (names_read_by rule) → set before head new ≡ after
    put_below new is =
        same_lists (set before head new) after (length-set before head new ∙ length-map names (numbers_below names rules) ∙ sym (length-map names (numbers_below names (rules ++ rule ∷ []))))
        (λ k d h. at new is k d (subst (λ n. k < n) (length-set before head new ∙ length-map names (numbers_below names rules)) h))

-- what stands at a place that is there doesn't depend on what stands where none is
defaults : (names : List (List ℕ)) (rule : Rule) (there : Contains names rule.head) (rules : List Rule) (d : List ℕ)
    → get_or (map (numbers_below names rules) names) (place_of names rule.head) d ≡ get_or (map (numbers_below names rules) names) (place_of names rule.head) []
defaults names rule there rules d =
    let h = place_of-lt names rule.head there in
    get_or-map (numbers_below names rules) names (place_of names rule.head) [] d h ∙ sym (get_or-map (numbers_below names rules) names (place_of names rule.head) [] [] h)

-- the names of a rule are among those of its rules
pub rule_known : (names : List (List ℕ)) (rules items : List Rule) (i : ℕ) (rule : Rule) → names ≡ names_of rules → items ≡ rules → i < length items → rule ≡ get_or items i rule → AllByRecursion (Contains names) (names_in rule)
rule_known names rules items i rule named same_items h is =
    subst (λ ns. AllByRecursion (Contains ns) (names_in rule)) (sym named) (known_names rules rule (subst (λ rs. Contains rs rule) same_items (i, h, sym is)))

-- the step of the loop
pub below_more : (names : List (List ℕ)) (rules : List Rule) (i : ℕ) (rule : Rule) (below : List (List ℕ)) (old new : List ℕ)
    → IsDistinct text_eq names → Contains names rule.head → i < length rules → rule ≡ get_or rules i rule
    → below ≡ map (numbers_below names (take i rules)) names → old ≡ get_or below (place_of names rule.head) old → new ≡ old ++ map (place_of names) (names_read_by rule)
    → set below (place_of names rule.head) new ≡ map (numbers_below names (take (i + 1) rules)) names
below_more names rules i rule below old new distinct there h is so_far old_is new_is =
    ap (λ b. set b (place_of names rule.head) new) so_far
    ∙ put_below names distinct rule there (take i rules) new (new_is ∙ ap (λ o. o ++ map (place_of names) (names_read_by rule)) (old_is ∙ ap (λ b. get_or b (place_of names rule.head) old) so_far ∙ defaults names rule there (take i rules) old))
    ∙ ap (λ rs. map (numbers_below names rs) names) (sym (take_more rules i rule h ∙ ap (λ r. take i rules ++ r ∷ []) (sym is)))

-- the graph of some rules is a graph
pub IsGraph-graph_of : (rules : List Rule) → IsGraph (graph_of rules)
IsGraph-graph_of rules =
    subst (λ n. All (All (λ m. m < n)) (graph_of rules)) (sym (length-map (names_of rules) (numbers_below (names_of rules) rules)))
    (All-map (All (λ m. m < length (names_of rules))) (numbers_below (names_of rules) rules) (names_of rules) (λ k d h.
    let name : List ℕ = get_or (names_of rules) k d in
    All-map (λ m. m < length (names_of rules)) (place_of (names_of rules)) (names_below rules name) (λ j e l.
    place_of-lt (names_of rules) (get_or (names_below rules name) j e) (read_known rules name (get_or (names_below rules name) j e) (reads_from_below rules name _ (Contains-get_or (names_below rules name) j e l))).1)))
