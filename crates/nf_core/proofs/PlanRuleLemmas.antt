-- A rule of a plan is over the plan: its numbers, its expressions and its map.
use Rattle.std.proofs.Common.{◌≡◌, ℕ, ◌<◌, ◌≤◌, ◌==◌, false, true≢false, Option, Some, None, option_map, option_to_list, List, [], ◌∷◌, ◌++◌, length, get_or, map, All, IsTrue, Contains, refl, sym, ap, subst, ◌∙◌, arith}
use Rattle.std.specs.List.{AllByRecursion, IsDistinct}
use Rattle.std.specs.Cmp.Lexicographic.{nat_list_eq_equiv}
use Rattle.std.proofs.lemmas.Bool.{ne_eqb}
use Rattle.std.proofs.lemmas.List.Elements.{All-nil, All-cons, All-append, All-contains, All-from_recursion, All-map, Contains-get_or, Contains-append_left, Contains-append_right}
use Rattle.nf_core.specs.Texts.{text_eq, IsI64, IsPlain}
use Rattle.nf_core.specs.Kinds.{Kind, kind_of_term, kind_of_tree, is_condition, is_end_point, is_map_value, labels_of, result_labels, AreKindsRight}
use Rattle.nf_core.specs.Plan.{Plan, IsRuleOf, IsEntryOf, IsTermOver, body_names, result_names}
use Rattle.nf_core.specs.Trees.{tree, operators, atoms_of, expressions_of, IsWithinLimits, IsRule}
use Rattle.nf_core.specs.Written.{Levels, members_of, names_in, names_of, keys_of_name, place_of, plan_rule, plan_of, term_of, numbers_in, texts_in, HasValueNumbers, HasPlainTexts, CanBePlanned}
use Rattle.nf_core.specs.declared.limits.TheConstants.{MOST_OPERATORS}
use Rattle.nf_core.specs.declared.trees.Entry.{Entry}
use Rattle.nf_core.specs.declared.trees.Expr.{Expr}
use Rattle.nf_core.specs.declared.trees.Rule.{Rule}
use Rattle.nf_core.specs.declared.terms.PlanEntry.{PlanEntry}
use Rattle.nf_core.specs.declared.terms.PlanRule.{PlanRule}
use Rattle.nf_core.specs.declared.terms.Term.{Term}
use Rattle.nf_core.proofs.Public.EachOnceLemmas.{place_of-lt, get_or-place_of}
use Rattle.nf_core.proofs.KeyLemmas.{Contains-key_read, Contains-key_mapped}
use Rattle.nf_core.proofs.MemberLemmas.{result_atoms, result_labels_are, member_of_body, member_of_result}
use Rattle.nf_core.proofs.NameNumberLemmas.{keys-place_of, numbers_at, within_at, widths_at, result_widths_at}
use Rattle.nf_core.proofs.TermLemmas.{kind_of-term_of, IsTermOver-term_of}
use Rattle.nf_lemmas.proofs.ListLemmas.{Contains-map}

-- the expressions of each clause are among those of the rule
module _ (rule : Rule) where
  abbrev filters : List Expr
  filters = option_to_list rule.filter

  abbrev values : List Expr
  values = map (λ (entry : Entry). entry.value) rule.entries

  abbrev starts : List Expr
  starts = option_to_list rule.start

  abbrev stops : List Expr
  stops = option_to_list rule.stop

  in_filter : (x : Expr) → Contains filters x → Contains (expressions_of rule) x
  in_filter x c = Contains-append_left (filters ++ values ++ starts) stops x (Contains-append_left (filters ++ values) starts x (Contains-append_left filters values x c))

  in_entries : (entry : Entry) → Contains rule.entries entry → Contains (expressions_of rule) entry.value
  in_entries entry c =
      Contains-append_left (filters ++ values ++ starts) stops entry.value (Contains-append_left (filters ++ values) starts entry.value (Contains-append_right filters values entry.value (Contains-map (λ (e : Entry). e.value) rule.entries entry c)))

  in_start : (x : Expr) → Contains starts x → Contains (expressions_of rule) x
  in_start x c = Contains-append_left (filters ++ values ++ starts) stops x (Contains-append_right (filters ++ values) starts x c)

  in_stop : (x : Expr) → Contains stops x → Contains (expressions_of rule) x
  in_stop x c = Contains-append_right (filters ++ values ++ starts) stops x c

-- what holds of the image of an expression that may be there
All-option_map : {A B : Type 0} (f : A → B) (o : Option A) (P : B → Type 0) → ((x : A) → Contains (option_to_list o) x → P (f x)) → All P (option_to_list (option_map f o))
All-option_map f None P each = All-nil P
All-option_map f (Some x) P each = All-cons P (f x) [] (each x (Contains-get_or (x ∷ []) 0 x (omega arith))) (All-nil P)

-- a condition has a kind, and so has an end point
some_from_condition : (k : Option Kind) → IsTrue (is_condition k) → IsTrue (is_map_value k)
some_from_condition None h = h
some_from_condition (Some k) h = refl

some_from_end_point : (k : Option Kind) → IsTrue (is_end_point k) → IsTrue (is_map_value k)
some_from_end_point None h = h
some_from_end_point (Some k) h = refl

-- different keys have different places
module _ (keys : List (List ℕ)) (f : Expr → Term) where
  abbrev placed : Entry → PlanEntry
  placed entry = record { place = place_of keys entry.key; value = f entry.value }

  apart : (k : List ℕ) (entries : List Entry) → Contains keys k → ((entry : Entry) → Contains entries entry → Contains keys entry.key) → AllByRecursion (λ l. text_eq k l ≡ false) (map (λ (e : Entry). e.key) entries)
      → AllByRecursion (λ n. (place_of keys k == n) ≡ false) (map (λ (e : PlanEntry). e.place) (map placed entries))
  apart k [] there each h = tt
  apart k (e ∷ entries) there each h =
      let other : Contains keys e.key = each e (Contains-get_or (e ∷ entries) 0 e (omega arith)) in (
        ne_eqb (place_of keys k) (place_of keys e.key) (λ p. true≢false (sym (ap (text_eq k) (sym (get_or-place_of keys e.key other []) ∙ ap (λ n. get_or keys n []) (sym p) ∙ get_or-place_of keys k there []) ∙ nat_list_eq_equiv.refl k) ∙ h.0)),
        apart k entries there (λ entry c. each entry (Contains-append_right (e ∷ []) entries entry c)) h.1,
      )

  IsDistinct-places : (entries : List Entry) → ((entry : Entry) → Contains entries entry → Contains keys entry.key) → IsDistinct text_eq (map (λ (e : Entry). e.key) entries) → IsDistinct (λ m n. m == n) (map (λ (e : PlanEntry). e.place) (map placed entries))
  unfolding IsDistinct
  IsDistinct-places [] each h = tt
  IsDistinct-places (e ∷ entries) each h =
      let rest : (entry : Entry) → Contains entries entry → Contains keys entry.key = λ entry c. each entry (Contains-append_right (e ∷ []) entries entry c) in
      (apart e.key entries (each e (Contains-get_or (e ∷ entries) 0 e (omega arith))) rest h.0, IsDistinct-places entries rest h.1)

-- one rule of the rules
module _ (rules : List Rule) (levels : Levels) (planned : CanBePlanned rules) (limited : All IsRule rules) (rule : Rule) (there : Contains rules rule) (known : AllByRecursion (Contains (names_of rules)) (names_in rule)) where
  abbrev names : List (List ℕ)
  names = names_of rules

  abbrev plan : Plan
  plan = plan_of rules levels

  abbrev numbered : PlanRule
  numbered = plan_rule rules rule

  abbrev term : Expr → Term
  term = term_of (members_of rules rule.body)

  kinds : AreKindsRight rule
  kinds = All-contains AreKindsRight rules rule planned.kinds there

  few_operators : (x : Expr) → Contains (expressions_of rule) x → operators (tree x) ≤ MOST_OPERATORS
  few_operators x c = (All-contains (λ y. IsWithinLimits (tree y)) (expressions_of rule) x (All-contains IsRule rules rule limited there) c).few_operators

  plain_texts : (x : Expr) → Contains (expressions_of rule) x → All IsPlain (texts_in (tree x))
  plain_texts x c = All-contains (λ y. All IsPlain (texts_in (tree y))) (expressions_of rule) x (All-contains HasPlainTexts rules rule planned.plain there) c

  value_numbers : (x : Expr) → Contains (expressions_of rule) x → All IsI64 (numbers_in (tree x))
  value_numbers x c = All-contains (λ y. All IsI64 (numbers_in (tree y))) (expressions_of rule) x (All-contains HasValueNumbers rules rule planned.numbers there) c

  over_body : (x : Expr) → Contains (expressions_of rule) x → IsTrue (is_map_value (kind_of_tree (labels_of rule.body) (tree x))) → IsTermOver plan (body_names numbered) (term x)
  over_body x c kind =
      IsTermOver-term_of rules rule.body (atoms_of rule.body) (λ label found. member_of_body (keys_of_name rules) label rule.body found) plan (body_names numbered) (widths_at rules levels rule.body known.1)
      x kind (few_operators x c) (value_numbers x c) (plain_texts x c) (Contains-key_read rules rule there x c)

  over_result : (x : Expr) → Contains (expressions_of rule) x → IsTrue (is_map_value (kind_of_tree (result_labels rule.body) (tree x))) → IsTermOver plan (result_names numbered) (term x)
  over_result x c kind =
      IsTermOver-term_of rules rule.body (result_atoms rule.body) (λ label found. member_of_result (keys_of_name rules) label rule.body found) plan (result_names numbered) (result_widths_at rules levels rule.body known.1)
      x (subst (λ labels. IsTrue (is_map_value (kind_of_tree labels (tree x)))) (result_labels_are rule.body) kind) (few_operators x c) (value_numbers x c) (plain_texts x c) (Contains-key_read rules rule there x c)

  is_entry : (entry : Entry) → Contains rule.entries entry → IsEntryOf plan numbered (record { place = place_of (keys_of_name rules rule.head) entry.key; value = term entry.value })
  is_entry entry c =
      let kind = All-contains (λ (e : Entry). IsTrue (is_map_value (kind_of_tree (result_labels rule.body) (tree e.value)))) rule.entries entry kinds.entries c in
      record {
        place = place_of-lt (keys_of_name rules rule.head) entry.key (Contains-key_mapped rules rule there entry c);
        value = over_result entry.value (in_entries rule entry c) kind;
        kind = subst (λ k. IsTrue (is_map_value k)) (sym (kind_of-term_of (members_of rules rule.body) (result_labels rule.body) entry.value kind)) kind;
      }

  is_filter : (x : Expr) → Contains (option_to_list rule.filter) x → IsTermOver plan (body_names numbered) (term x) × IsTrue (is_condition (kind_of_term (term x)))
  is_filter x c =
      let kind = All-contains (λ y. IsTrue (is_condition (kind_of_tree (labels_of rule.body) (tree y)))) (option_to_list rule.filter) x kinds.filter c in
      let some = some_from_condition _ kind in
      (over_body x (in_filter rule x c) some, subst (λ k. IsTrue (is_condition k)) (sym (kind_of-term_of (members_of rules rule.body) (labels_of rule.body) x some)) kind)

  is_end : (x : Expr) → Contains (expressions_of rule) x → IsTrue (is_end_point (kind_of_tree (result_labels rule.body) (tree x))) → IsTermOver plan (result_names numbered) (term x) × IsTrue (is_end_point (kind_of_term (term x)))
  is_end x c kind =
      let some = some_from_end_point _ kind in
      (over_result x c some, subst (λ k. IsTrue (is_end_point k)) (sym (kind_of-term_of (members_of rules rule.body) (result_labels rule.body) x some)) kind)

  is_start : (x : Expr) → Contains (option_to_list rule.start) x → IsTermOver plan (result_names numbered) (term x) × IsTrue (is_end_point (kind_of_term (term x)))
  is_start x c = is_end x (in_start rule x c) (All-contains (λ y. IsTrue (is_end_point (kind_of_tree (result_labels rule.body) (tree y)))) (option_to_list rule.start) x kinds.start c)

  is_stop : (x : Expr) → Contains (option_to_list rule.stop) x → IsTermOver plan (result_names numbered) (term x) × IsTrue (is_end_point (kind_of_term (term x)))
  is_stop x c = is_end x (in_stop rule x c) (All-contains (λ y. IsTrue (is_end_point (kind_of_tree (result_labels rule.body) (tree y)))) (option_to_list rule.stop) x kinds.stop c)

  pub IsRuleOf-plan_rule : IsRuleOf plan numbered
  IsRuleOf-plan_rule = record {
    head = place_of-lt names rule.head known.0;
    body = All-from_recursion (λ n. n < length names) (numbers_at rules levels rule.body) (within_at rules levels rule.body known.1);
    keys = ap length (sym (keys-place_of rules levels rule.head known.0));
    filter = All-option_map term rule.filter (IsTermOver plan (body_names numbered)) (λ x c. (is_filter x c).0);
    condition = All-option_map term rule.filter (λ t. IsTrue (is_condition (kind_of_term t))) (λ x c. (is_filter x c).1);
    places = IsDistinct-places (keys_of_name rules rule.head) term rule.entries (λ entry c. Contains-key_mapped rules rule there entry c) kinds.keys;
    entries = All-map (IsEntryOf plan numbered) (λ (entry : Entry). record { place = place_of (keys_of_name rules rule.head) entry.key; value = term entry.value }) rule.entries (λ k d h. is_entry (get_or rule.entries k d) (Contains-get_or rule.entries k d h));
    start = All-option_map term rule.start (IsTermOver plan (result_names numbered)) (λ x c. (is_start x c).0);
    stop = All-option_map term rule.stop (IsTermOver plan (result_names numbered)) (λ x c. (is_stop x c).0);
    end_points = All-append (λ t. IsTrue (is_end_point (kind_of_term t))) (option_to_list numbered.start) (option_to_list numbered.stop)
        (All-option_map term rule.start (λ t. IsTrue (is_end_point (kind_of_term t))) (λ x c. (is_start x c).1)) (All-option_map term rule.stop (λ t. IsTrue (is_end_point (kind_of_term t))) (λ x c. (is_stop x c).1));
  }
