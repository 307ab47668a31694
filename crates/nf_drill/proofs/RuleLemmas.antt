-- The six rules are within the limits of rules, and a plan can be made of them.
use Rattle.std.proofs.Common.{◌≡◌, ℕ, pos, ◌<◌, ◌^◌, List, [], ◌∷◌, length, map, Option, None, option_to_list, All, IsTrue, refl, sym, subst, ◌∙◌, arith}
use Rattle.std.specs.Prelude.{codes}
use Rattle.std.specs.List.{IsDistinct}
use Rattle.std.proofs.lemmas.List.Elements.{All-nil, All-cons, All-weaker}
use Rattle.std.proofs.lemmas.Int.{ints}
use Rattle.nf_core.specs.Trees as t
use Rattle.nf_core.specs.Texts.{text_eq, IsI64, IsPlain}
use Rattle.nf_core.specs.Trees.{Rule, IsWithinLimits, tree, expressions_of}
use Rattle.nf_core.specs.Identifiers.{is_identifier}
use Rattle.nf_core.specs.Kinds.{AreKindsRight, is_condition, is_end_point, is_map_value, kind_of_binary, kind_of_tree, labels_of, result_labels}
use Rattle.nf_core.specs.Written.{CanBePlanned, IsWritableIn, names_of, keys_of_name, numbers_in, texts_in}
use Rattle.nf_core.specs.declared.operators.BinOp.TheVariants as operator
use Rattle.nf_core.specs.declared.trees.Entry.{Entry}
use Rattle.nf_core.specs.declared.trees.Expr.{Expr}
use Rattle.nf_core.specs.declared.trees.Expr.TheVariants as e
use Rattle.nf_core.proofs.Public.TreeLemmas.{tree_Key, tree_Start, tree_Int, tree_Bin}
use Rattle.nf_drill.specs.Rules.{drill_rules, pair_rule, lone_rule, reach_rule, hit_in_reach_rule, hit_of_pair_rule, calm_rule}
use Rattle.nf_drill.proofs.KeyLemmas.{own_names, keys_of_a, keys_of_b}
use Rattle.nf_drill.proofs.LevelLemmas.{from_a, from_b, from_lone, from_c, from_reach, from_hit, from_d, from_calm}

-- ---- the rules from each one on
abbrev from_calm_rule : List Rule
from_calm_rule = calm_rule ∷ []

abbrev from_other_rule : List Rule
from_other_rule = hit_of_pair_rule ∷ from_calm_rule

abbrev from_hit_rule : List Rule
from_hit_rule = hit_in_reach_rule ∷ from_other_rule

abbrev from_reach_rule : List Rule
from_reach_rule = reach_rule ∷ from_hit_rule

abbrev from_lone_rule : List Rule
from_lone_rule = lone_rule ∷ from_reach_rule

-- ---- trees
abbrev pub own_key : Expr
own_key = e.Key (codes "b") (codes "k")

abbrev pub own_end : Expr
own_end = e.Bin operator.Add (e.Start (codes "a")) (e.Int (pos 4))

key_tree : tree own_key ≡ t.Key (codes "b") (codes "k")
key_tree = tree_Key (codes "b") (codes "k")

end_tree : tree own_end ≡ t.Bin operator.Add (t.Start (codes "a")) (t.Int (pos 4))
end_tree = tree_Bin operator.Add (e.Start (codes "a")) (e.Int (pos 4)) ∙ (λ i. t.Bin operator.Add (tree_Start (codes "a") i) (tree_Int (pos 4) i))

-- ---- limits
key_within : IsWithinLimits (tree own_key)
unfolding t.operators t.open_parens
key_within = subst IsWithinLimits (sym key_tree) (record { few_operators = omega arith; few_parens = omega arith })

end_within : IsWithinLimits (tree own_end)
unfolding t.operators t.open_parens t.level t.op_level
end_within = subst IsWithinLimits (sym end_tree) (record { few_operators = omega arith; few_parens = omega arith })

abbrev IsLimited : Expr → Type 0
IsLimited x = IsWithinLimits (tree x)

pub key_limited : All IsLimited (own_key ∷ [])
key_limited = All-cons IsLimited own_key [] key_within (All-nil IsLimited)

pub end_limited : All IsLimited (own_end ∷ [])
end_limited = All-cons IsLimited own_end [] end_within (All-nil IsLimited)

-- ---- keys
no_keys : (texts : List (List ℕ)) → texts ≡ [] → All (λ key. IsTrue (is_identifier key)) texts
no_keys texts none = subst (All (λ key. IsTrue (is_identifier key))) (sym none) (All-nil (λ key. IsTrue (is_identifier key)))

one_key : (texts : List (List ℕ)) → texts ≡ codes "k" ∷ [] → All (λ key. IsTrue (is_identifier key)) texts
unfolding Rattle.nf_core.specs.Identifiers.is_identifier Rattle.nf_core.specs.Identifiers.has_name_form Rattle.nf_core.specs.Identifiers.keywords
one_key texts one = subst (All (λ key. IsTrue (is_identifier key))) (sym one) (All-cons (λ key. IsTrue (is_identifier key)) (codes "k") [] refl (All-nil (λ key. IsTrue (is_identifier key))))

abbrev keys_of : List ℕ → List (List ℕ)
keys_of name = keys_of_name drill_rules name

-- a name with few keys, which are identifiers as it is
record IsNamed (name : List ℕ) : Type 0 where
  few : length (keys_of name) < 2 ^ 32
  name_is : IsTrue (is_identifier name)
  keys_are : All (λ key. IsTrue (is_identifier key)) (keys_of name)

keyless : (name : List ℕ) → IsTrue (is_identifier name) → keys_of name ≡ [] → IsNamed name
keyless name named none = record {
  few = subst (λ (keys : List (List ℕ)). length keys < 2 ^ 32) (sym none) (omega arith);
  name_is = named;
  keys_are = no_keys (keys_of name) none;
}

keyed : (name : List ℕ) → IsTrue (is_identifier name) → keys_of name ≡ codes "k" ∷ [] → IsNamed name
keyed name named one = record {
  few = subst (λ (keys : List (List ℕ)). length keys < 2 ^ 32) (sym one) (omega arith);
  name_is = named;
  keys_are = one_key (keys_of name) one;
}

all_named : All IsNamed (names_of drill_rules)
unfolding Rattle.nf_core.specs.Identifiers.is_identifier Rattle.nf_core.specs.Identifiers.has_name_form Rattle.nf_core.specs.Identifiers.keywords
all_named = subst (All IsNamed) (sym own_names)
    (All-cons IsNamed (codes "pair") from_a (keyed (codes "pair") refl refl)
    (All-cons IsNamed (codes "a") from_b (keyless (codes "a") refl keys_of_a)
    (All-cons IsNamed (codes "b") from_lone (keyed (codes "b") refl keys_of_b)
    (All-cons IsNamed (codes "lone") from_c (keyless (codes "lone") refl refl)
    (All-cons IsNamed (codes "c") from_reach (keyless (codes "c") refl refl)
    (All-cons IsNamed (codes "reach") from_hit (keyless (codes "reach") refl refl)
    (All-cons IsNamed (codes "hit") from_d (keyless (codes "hit") refl refl)
    (All-cons IsNamed (codes "d") from_calm (keyless (codes "d") refl refl)
    (All-cons IsNamed (codes "calm") [] (keyless (codes "calm") refl refl) (All-nil IsNamed))))))))))

-- ---- kinds, whole numbers and texts
abbrev IsMapped : Expr → Type 0
IsMapped x = IsTrue (is_map_value (kind_of_tree (codes "a" ∷ codes "b" ∷ []) (tree x)))

abbrev IsEnd : Expr → Type 0
IsEnd x = IsTrue (is_end_point (kind_of_tree (codes "a" ∷ []) (tree x)))

key_mapped : IsMapped own_key
unfolding kind_of_tree
key_mapped = subst (λ (a : t.Tree). IsTrue (is_map_value (kind_of_tree (codes "a" ∷ codes "b" ∷ []) a))) (sym key_tree) refl

end_points : IsEnd own_end
unfolding kind_of_tree kind_of_binary
end_points = subst (λ (a : t.Tree). IsTrue (is_end_point (kind_of_tree (codes "a" ∷ []) a))) (sym end_tree) refl

-- a rule without clauses, whose atoms have different labels
plain_right : (rule : Rule) → rule.filter ≡ None → rule.entries ≡ [] → rule.start ≡ None → rule.stop ≡ None → IsDistinct text_eq (labels_of rule.body) → AreKindsRight rule
unfolding IsDistinct
plain_right rule none empty no_start no_stop labels = record {
  labels = labels;
  filter = subst (λ (o : Option Expr). All (λ x. IsTrue (is_condition (kind_of_tree (labels_of rule.body) (tree x)))) (option_to_list o)) (sym none) (All-nil _);
  keys = subst (λ (es : List Entry). IsDistinct text_eq (map (λ (entry : Entry). entry.key) es)) (sym empty) tt;
  entries = subst (λ (es : List Entry). All (λ (entry : Entry). IsTrue (is_map_value (kind_of_tree (result_labels rule.body) (tree entry.value)))) es) (sym empty) (All-nil _);
  start = subst (λ (o : Option Expr). All (λ x. IsTrue (is_end_point (kind_of_tree (result_labels rule.body) (tree x)))) (option_to_list o)) (sym no_start) (All-nil _);
  stop = subst (λ (o : Option Expr). All (λ x. IsTrue (is_end_point (kind_of_tree (result_labels rule.body) (tree x)))) (option_to_list o)) (sym no_stop) (All-nil _);
}

pair_right : AreKindsRight pair_rule
unfolding IsDistinct
pair_right = record {
  labels = ((refl, tt), (tt, tt));
  filter = All-nil _;
  keys = (tt, tt);
  entries = All-cons (λ (entry : Entry). IsMapped entry.value) (record { key = codes "k"; value = own_key }) [] key_mapped (All-nil _);
  start = All-nil _;
  stop = All-nil _;
}

reach_right : AreKindsRight reach_rule
unfolding IsDistinct
reach_right = record {
  labels = (tt, tt);
  filter = All-nil _;
  keys = tt;
  entries = All-nil _;
  start = All-nil _;
  stop = All-cons IsEnd own_end [] end_points (All-nil _);
}

all_right : All AreKindsRight drill_rules
unfolding IsDistinct
all_right =
    All-cons AreKindsRight pair_rule from_lone_rule pair_right
    (All-cons AreKindsRight lone_rule from_reach_rule (plain_right lone_rule refl refl refl refl ((refl, tt), (tt, tt)))
    (All-cons AreKindsRight reach_rule from_hit_rule reach_right
    (All-cons AreKindsRight hit_in_reach_rule from_other_rule (plain_right hit_in_reach_rule refl refl refl refl ((refl, tt), (tt, tt)))
    (All-cons AreKindsRight hit_of_pair_rule from_calm_rule (plain_right hit_of_pair_rule refl refl refl refl (tt, tt))
    (All-cons AreKindsRight calm_rule [] (plain_right calm_rule refl refl refl refl ((refl, tt), (tt, tt))) (All-nil _))))))

-- what holds of the key that is read, and of the end, holds of all expressions of the rules
all_expressions : (P : Expr → Type 0) → P own_key → P own_end → All (λ rule. All P (expressions_of rule)) drill_rules
all_expressions P of_key of_end =
    let Q : Rule → Type 0 = λ rule. All P (expressions_of rule) in
    All-cons Q pair_rule from_lone_rule (All-cons P own_key [] of_key (All-nil P))
    (All-cons Q lone_rule from_reach_rule (All-nil P)
    (All-cons Q reach_rule from_hit_rule (All-cons P own_end [] of_end (All-nil P))
    (All-cons Q hit_in_reach_rule from_other_rule (All-nil P)
    (All-cons Q hit_of_pair_rule from_calm_rule (All-nil P)
    (All-cons Q calm_rule [] (All-nil P) (All-nil Q))))))

four : IsI64 (pos 4)
four = record { low = grind (arith, ints); high = grind (arith, ints) }

key_numbers : All IsI64 (numbers_in (tree own_key))
unfolding numbers_in
key_numbers = subst (λ (a : t.Tree). All IsI64 (numbers_in a)) (sym key_tree) (All-nil IsI64)

end_numbers : All IsI64 (numbers_in (tree own_end))
unfolding numbers_in
end_numbers = subst (λ (a : t.Tree). All IsI64 (numbers_in a)) (sym end_tree) (All-cons IsI64 (pos 4) [] four (All-nil IsI64))

key_texts : All IsPlain (texts_in (tree own_key))
unfolding texts_in
key_texts = subst (λ (a : t.Tree). All IsPlain (texts_in a)) (sym key_tree) (All-nil IsPlain)

end_texts : All IsPlain (texts_in (tree own_end))
unfolding texts_in
end_texts = subst (λ (a : t.Tree). All IsPlain (texts_in a)) (sym end_tree) (All-nil IsPlain)

-- ---- the rules
pub can_be_planned : CanBePlanned drill_rules
can_be_planned = record {
  few_rules = omega arith;
  few_names = subst (λ (names : List (List ℕ)). length names < 2 ^ 32) (sym own_names) (omega arith);
  few_keys = All-weaker IsNamed (λ name. length (keys_of name) < 2 ^ 32) (λ name named. named.few) (names_of drill_rules) all_named;
  identifiers = All-weaker IsNamed (IsWritableIn drill_rules) (λ name named narrow. record { name = named.name_is; keys = named.keys_are }) (names_of drill_rules) all_named;
  kinds = all_right;
  numbers = all_expressions (λ x. All IsI64 (numbers_in (tree x))) key_numbers end_numbers;
  plain = all_expressions (λ x. All IsPlain (texts_in (tree x))) key_texts end_texts;
}
