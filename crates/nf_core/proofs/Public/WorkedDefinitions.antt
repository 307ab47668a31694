-- The definitions computed on worked cases. What is expected was worked out by hand from the rules.
use Rattle.std.specs.Prelude.{◌≡◌, refl, ℕ, zero, suc, ◌<◌, nat_lt, slice_index, All, AllPairs, IsTrue, ℤ, pos, negsuc, Bool, true, false, List, [], ◌∷◌, map, Option, Some, None, codes}
use Rattle.std.specs.List.{range_with_len, IsDistinct}
use Rattle.std.specs.List.Sorted.{IsStrictlySortedBy}
use mathlib.Core.Path.{sym, ap, ◌∙◌}
use Rattle.nf_core.specs.Intervals.{Interval, is_strictly_inside}
use Rattle.nf_core.specs.Sets.{once}
use Rattle.nf_core.specs.Relations.{holds, span, blocks}
use Rattle.nf_core.specs.Texts.{int_least, int_greatest, IsI64, IsPlain}
use Rattle.nf_core.specs.Expressions.{reads_within, reads_within_node, operators_of, operators_of_node, numbers_of, numbers_at_node, texts_of, texts_at_node, value_of, value_of_node, binary, negated, inverted, of_ints, of_bools, in_range, member}
use Rattle.nf_core.specs.Identifiers.{is_identifier, is_wide_name, has_name_form, keywords, IsWideBehind}
use Rattle.std.proofs.Common.{arith, rules, tests}
use Rattle.std.proofs.lemmas.List.Elements.{All-nil, All-cons, All-from_recursion}
use Rattle.nf_core.specs.Kinds.{kind_of_term, kind_of_node, kind_of_binary, is_condition}
use Rattle.nf_core.specs.Plan.{Plan, IsPlan, IsWritable, AreKeys, IsTermOver, IsEntryOf, IsRuleOf, body_names, result_names, widths_of_names, level_of, level_by_rules, is_head, is_wide, plan_from}
use Rattle.nf_core.specs.Trees as tree
use Rattle.nf_core.specs.Trees.{Tree, operators, open_parens, level, op_level, left_in_parens, right_in_parens, operand_in_parens}
use Rattle.nf_core.specs.Written.{names_of, keys_read, keys_at_node, keys_of_name, term_of, term_at_node, plan_of, Levels, IsLevelOf, AreLevels}
use Rattle.nf_core.specs.declared.values.Value.{Value}
use Rattle.nf_core.specs.declared.values.Value.TheVariants as v
use Rattle.nf_core.specs.declared.operators.Op.{Op}
use Rattle.nf_core.specs.declared.operators.Op.TheVariants.{Before, Meet, During, Coincide, Start, Finish, Overlap, Slice}
use Rattle.nf_core.specs.declared.operators.Xop.{Xop}
use Rattle.nf_core.specs.declared.operators.Xop.TheVariants.{After, Follow, Contain}
use Rattle.nf_core.specs.declared.operators.BinOp.{BinOp}
use Rattle.nf_core.specs.declared.operators.BinOp.TheVariants as op
use Rattle.nf_core.specs.declared.terms.Term.{Term}
use Rattle.nf_core.specs.declared.terms.Term.TheVariants as t
use Rattle.nf_core.specs.declared.terms.Link.{Link}
use Rattle.nf_core.specs.declared.terms.Link.TheVariants as link
use Rattle.nf_core.specs.declared.terms.PlanRule.{PlanRule}
use Rattle.nf_core.specs.declared.trees.Expr.{Expr, Expr-F, fold-Expr, fold-roll-Expr}
use Rattle.nf_core.specs.declared.trees.Expr.TheOpen as x
use Rattle.nf_core.specs.declared.trees.Expr.TheVariants as e
use Rattle.nf_core.specs.declared.trees.Rule.{Rule}
use Rattle.nf_core.specs.declared.trees.Atom.{Atom}
use Rattle.nf_core.specs.declared.trees.Body.{Body}
use Rattle.nf_core.specs.declared.trees.Body.TheVariants as body
use Rattle.nf_core.proofs.Public.NameLemmas.{IsNarrow, IsWide, wide_behind}
use Rattle.nf_core.proofs.TermFoldLemmas.{fold_Bool, fold_Int, fold_Start, fold_Stop, fold_Key, fold_Neg, fold_Not, fold_Bin}

-- ---- the equations of folds over terms and over expressions
pub ruleset terms = (fold_Bool, fold_Int, fold_Start, fold_Stop, fold_Key, fold_Neg, fold_Not, fold_Bin)

module _ (A : Type 0) (step : Expr-F A → A) where
  pub fold_bool : (b : Bool) → fold-Expr A step (e.Bool b) ≡ step (x.Bool b)
  fold_bool b = ap (fold-Expr A step) (sym (e.rolls-Bool b)) ∙ fold-roll-Expr A step (x.Bool b)

  pub fold_int : (k : ℤ) → fold-Expr A step (e.Int k) ≡ step (x.Int k)
  fold_int k = ap (fold-Expr A step) (sym (e.rolls-Int k)) ∙ fold-roll-Expr A step (x.Int k)

  pub fold_start : (l : List ℕ) → fold-Expr A step (e.Start l) ≡ step (x.Start l)
  fold_start l = ap (fold-Expr A step) (sym (e.rolls-Start l)) ∙ fold-roll-Expr A step (x.Start l)

  pub fold_stop : (l : List ℕ) → fold-Expr A step (e.Stop l) ≡ step (x.Stop l)
  fold_stop l = ap (fold-Expr A step) (sym (e.rolls-Stop l)) ∙ fold-roll-Expr A step (x.Stop l)

  pub fold_key : (l key : List ℕ) → fold-Expr A step (e.Key l key) ≡ step (x.Key l key)
  fold_key l key = ap (fold-Expr A step) (sym (e.rolls-Key l key)) ∙ fold-roll-Expr A step (x.Key l key)

  pub fold_neg : (a : Expr) → fold-Expr A step (e.Neg a) ≡ step (x.Neg (fold-Expr A step a))
  fold_neg a = ap (fold-Expr A step) (sym (e.rolls-Neg a)) ∙ fold-roll-Expr A step (x.Neg a)

  pub fold_not : (a : Expr) → fold-Expr A step (e.Not a) ≡ step (x.Not (fold-Expr A step a))
  fold_not a = ap (fold-Expr A step) (sym (e.rolls-Not a)) ∙ fold-roll-Expr A step (x.Not a)

  pub fold_bin : (o : BinOp) (a b : Expr) → fold-Expr A step (e.Bin o a b) ≡ step (x.Bin o (fold-Expr A step a) (fold-Expr A step b))
  fold_bin o a b = ap (fold-Expr A step) (sym (e.rolls-Bin o a b)) ∙ fold-roll-Expr A step (x.Bin o a b)

pub ruleset exprs = (fold_bool, fold_int, fold_start, fold_stop, fold_key, fold_neg, fold_not, fold_bin)

-- ---- values
abbrev pub nat : ℕ → Value
nat k = v.Int (pos k)

-- past the range, and zero divisors
undefined_numbers : binary op.Add (v.Int int_greatest) (nat 1) ∷ binary op.Sub (v.Int int_least) (nat 1) ∷ binary op.Mul (v.Int int_greatest) (nat 2) ∷ negated (v.Int int_least) ∷ binary op.Div (v.Int int_least) (v.Int (negsuc 0))
    ∷ binary op.Rem (v.Int int_least) (v.Int (negsuc 0)) ∷ binary op.Div (nat 1) (nat 0) ∷ binary op.Rem (nat 1) (nat 0) ∷ [] ≡ None ∷ None ∷ None ∷ None ∷ None ∷ None ∷ None ∷ None ∷ []
unfolding binary of_ints in_range negated
undefined_numbers = refl

-- 7 / -2, -7 / 2, -7 % 2, 7 % -2, MAX + 0, MIN / 1, -5
numbers : binary op.Div (nat 7) (v.Int (negsuc 1)) ∷ binary op.Div (v.Int (negsuc 6)) (nat 2) ∷ binary op.Rem (v.Int (negsuc 6)) (nat 2) ∷ binary op.Rem (nat 7) (v.Int (negsuc 1)) ∷ binary op.Add (v.Int int_greatest) (nat 0) ∷ binary op.Div (v.Int int_least) (nat 1) ∷ negated (nat 5) ∷ []
    ≡ Some (v.Int (negsuc 2)) ∷ Some (v.Int (negsuc 2)) ∷ Some (v.Int (negsuc 0)) ∷ Some (nat 1) ∷ Some (v.Int int_greatest) ∷ Some (v.Int int_least) ∷ Some (v.Int (negsuc 4)) ∷ []
unfolding binary of_ints in_range negated
numbers = refl

-- wrong kinds
undefined_kinds : binary op.Or (v.Bool true) (nat 5) ∷ binary op.And (nat 1) (v.Bool false) ∷ binary op.Lt (v.Bool false) (v.Bool true) ∷ binary op.Ge (v.Text (codes "b")) (v.Text (codes "a")) ∷ binary op.Add (v.Text (codes "a")) (nat 1) ∷ negated (v.Bool true) ∷ inverted (nat 0) ∷ []
    ≡ None ∷ None ∷ None ∷ None ∷ None ∷ None ∷ None ∷ []
unfolding binary of_ints of_bools negated inverted
undefined_kinds = refl

-- `=` and `!=` of different kinds, and of one kind; 2 < 2, 2 <= 2, 3 > 2, 1 >= 2
truths : binary op.Eq (v.Bool true) (nat 1) ∷ binary op.Ne (v.Bool true) (nat 1) ∷ binary op.Eq (v.Text (codes "007")) (nat 7) ∷ binary op.Eq (v.Text (codes "a")) (v.Text (codes "a")) ∷ binary op.Ne (nat 3) (nat 3)
    ∷ binary op.Lt (nat 2) (nat 2) ∷ binary op.Le (nat 2) (nat 2) ∷ binary op.Gt (nat 3) (nat 2) ∷ binary op.Ge (nat 1) (nat 2) ∷ inverted (v.Bool true) ∷ []
    ≡ map (λ b. Some (v.Bool b)) (false ∷ true ∷ false ∷ true ∷ false ∷ false ∷ true ∷ true ∷ false ∷ false ∷ [])
unfolding binary of_ints inverted
truths = refl

-- an event at a time
abbrev pub at : ℕ → List (Option Value) → Interval
at time row = record { start = pos time; stop = pos time; row = row }

-- `k | true`, `true | k`, `false & k`, `k = k`, `!k`, `-k` where k is missing
strict : map (value_of (at 1 (None ∷ [])) None) (t.Bin op.Or (t.Key 0 0) (t.Bool true) ∷ t.Bin op.Or (t.Bool true) (t.Key 0 0) ∷ t.Bin op.And (t.Bool false) (t.Key 0 0) ∷ t.Bin op.Eq (t.Key 0 0) (t.Key 0 0) ∷ t.Not (t.Key 0 0) ∷ t.Neg (t.Key 0 0) ∷ [])
    ≡ None ∷ None ∷ None ∷ None ∷ None ∷ None ∷ []
unfolding value_of value_of_node binary of_bools member
strict = simp terms

-- `b.end - a.begin`, `b.k` and `a.k | true` of two events
members : map (value_of (at 3 (Some (v.Bool false) ∷ [])) (Some (at 9 (Some (nat 4) ∷ [])))) (t.Bin op.Sub (t.Stop 1) (t.Start 0) ∷ t.Key 1 0 ∷ t.Bin op.Or (t.Key 0 0) (t.Bool true) ∷ []) ≡ Some (nat 6) ∷ Some (nat 4) ∷ Some (v.Bool true) ∷ []
unfolding value_of value_of_node binary of_ints of_bools in_range member
members = simp terms

-- ---- orders: by begin, by end, then by row: a shorter row, missing, false, true, numbers, texts by their bytes
ordered : once (record { start = pos 2; stop = pos 2; row = [] } ∷ record { start = pos 1; stop = pos 3; row = [] } ∷ map (at 1) ((Some (v.Text (codes "ab")) ∷ []) ∷ (Some (nat 10) ∷ []) ∷ (Some (v.Text (codes "B")) ∷ []) ∷ (Some (v.Bool true) ∷ []) ∷ (None ∷ None ∷ [])
    ∷ (Some (nat 9) ∷ []) ∷ (Some (v.Text []) ∷ []) ∷ (Some (v.Bool false) ∷ []) ∷ (None ∷ []) ∷ (Some (v.Int (negsuc 0)) ∷ []) ∷ [] ∷ (Some (v.Text (codes "a")) ∷ []) ∷ (Some (nat 10) ∷ []) ∷ []))
    ≡ at 1 [] ∷ at 1 (None ∷ []) ∷ at 1 (None ∷ None ∷ []) ∷ at 1 (Some (v.Bool false) ∷ []) ∷ at 1 (Some (v.Bool true) ∷ []) ∷ at 1 (Some (v.Int (negsuc 0)) ∷ []) ∷ at 1 (Some (nat 9) ∷ []) ∷ at 1 (Some (nat 10) ∷ []) ∷ at 1 (Some (v.Text []) ∷ [])
    ∷ at 1 (Some (v.Text (codes "B")) ∷ []) ∷ at 1 (Some (v.Text (codes "a")) ∷ []) ∷ at 1 (Some (v.Text (codes "ab")) ∷ []) ∷ record { start = pos 1; stop = pos 3; row = [] } ∷ record { start = pos 2; stop = pos 2; row = [] } ∷ []
ordered = refl

-- [1, 2], [2, 3], [2, 2], [1, 3], [1, 3] with another row, [0, 3] and [4, 4] in [1, 3]
inside : map (λ i. is_strictly_inside i (record { start = pos 1; stop = pos 3; row = None ∷ [] }))
    (record { start = pos 1; stop = pos 2; row = [] } ∷ record { start = pos 2; stop = pos 3; row = [] } ∷ at 2 [] ∷ record { start = pos 1; stop = pos 3; row = None ∷ [] } ∷ record { start = pos 1; stop = pos 3; row = Some (nat 1) ∷ [] } ∷ record { start = pos 0; stop = pos 3; row = [] } ∷ at 4 [] ∷ [])
    ≡ true ∷ true ∷ true ∷ false ∷ false ∷ false ∷ false ∷ []
inside = refl

-- ---- relations
abbrev ops : List Op
ops = Before ∷ Meet ∷ During ∷ Coincide ∷ Start ∷ Finish ∷ Overlap ∷ Slice ∷ []

abbrev xops : List Xop
xops = After ∷ Follow ∷ Contain ∷ []

-- two events at 5
at_a_point : map (holds (pos 5) (pos 5) (pos 5) (pos 5)) ops ≡ false ∷ true ∷ true ∷ true ∷ true ∷ true ∷ false ∷ false ∷ []
unfolding holds
at_a_point = refl

-- [0, 10] and [4, 14]
crossing : map (holds (pos 0) (pos 10) (pos 4) (pos 14)) ops ≡ false ∷ false ∷ false ∷ false ∷ false ∷ false ∷ true ∷ true ∷ []
unfolding holds
crossing = refl

spans : map (span (pos 0) (pos 10) (pos 4) (pos 14)) ops
    ≡ (pos 0, pos 14) ∷ (pos 0, pos 14) ∷ (pos 4, pos 14) ∷ (pos 0, pos 10) ∷ (pos 0, pos 14) ∷ (pos 0, pos 10) ∷ (pos 0, pos 14) ∷ (pos 4, pos 10) ∷ []
unfolding span
spans = refl

-- [4, 14] after [0, 3] and after [0, 4]; [0, 10] around [2, 3]; an event and another one at its time
blocking : map (blocks (pos 4) (pos 14) (pos 0) (pos 3)) xops ∷ map (blocks (pos 4) (pos 14) (pos 0) (pos 4)) xops ∷ map (blocks (pos 0) (pos 10) (pos 2) (pos 3)) xops ∷ map (blocks (pos 5) (pos 5) (pos 5) (pos 5)) xops ∷ []
    ≡ (true ∷ false ∷ false ∷ []) ∷ (false ∷ true ∷ false ∷ []) ∷ (false ∷ false ∷ true ∷ []) ∷ (false ∷ true ∷ true ∷ []) ∷ []
unfolding blocks
blocking = refl

-- ---- identifiers
names : map is_identifier (codes "w" ∷ codes "_a1" ∷ codes "9a" ∷ codes "before" ∷ [] ∷ codes "beforehand" ∷ codes "a-b" ∷ []) ≡ true ∷ true ∷ false ∷ false ∷ false ∷ true ∷ false ∷ []
unfolding is_identifier has_name_form keywords
names = refl

-- ---- canonical parentheses
abbrev whole : ℕ → Tree
whole k = tree.Int (pos k)

abbrev read : List ℕ → Tree
read key = tree.Key (codes "x") key

-- `!(x.k & x.j) | 1 - (2 - 3) < - -x.n`
abbrev mixed : Tree
mixed = tree.Bin op.Or (tree.Not (tree.Bin op.And (read (codes "k")) (read (codes "j")))) (tree.Bin op.Lt (tree.Bin op.Sub (whole 1) (tree.Bin op.Sub (whole 2) (whole 3))) (tree.Neg (tree.Neg (read (codes "n")))))

-- `(1 - 2) - 3`, `1 - (2 - 3)`, `(1 < 2) = true`, `-(1 + 2)`, `-(1 - (2 - 3))`
abbrev grouped : List Tree
grouped = mixed
    ∷ tree.Bin op.Sub (tree.Bin op.Sub (whole 1) (whole 2)) (whole 3)
    ∷ tree.Bin op.Sub (whole 1) (tree.Bin op.Sub (whole 2) (whole 3))
    ∷ tree.Bin op.Eq (tree.Bin op.Lt (whole 1) (whole 2)) (tree.Bool true)
    ∷ tree.Neg (tree.Bin op.Add (whole 1) (whole 2))
    ∷ tree.Neg (tree.Bin op.Sub (whole 1) (tree.Bin op.Sub (whole 2) (whole 3))) ∷ []

counted_operators : map operators grouped ≡ 8 ∷ 2 ∷ 2 ∷ 2 ∷ 2 ∷ 3 ∷ []
unfolding operators
counted_operators = refl

counted_parens : map open_parens grouped ≡ 1 ∷ 0 ∷ 1 ∷ 1 ∷ 1 ∷ 2 ∷ []
unfolding open_parens level op_level
counted_parens = refl

-- `a | b` and `a & b` under `&`, `a < b` left and right of `=`, `a + b` and `a * b` left and right of `*`
in_parens : left_in_parens op.And (tree.Bin op.Or (read []) (read [])) ∷ left_in_parens op.And (tree.Bin op.And (read []) (read [])) ∷ right_in_parens op.And (tree.Bin op.And (read []) (read []))
    ∷ left_in_parens op.Eq (tree.Bin op.Lt (read []) (read [])) ∷ right_in_parens op.Eq (tree.Bin op.Lt (read []) (read []))
    ∷ left_in_parens op.Mul (tree.Bin op.Add (read []) (read [])) ∷ left_in_parens op.Mul (tree.Bin op.Mul (read []) (read [])) ∷ right_in_parens op.Mul (tree.Bin op.Mul (read []) (read []))
    ∷ operand_in_parens (tree.Bin op.Mul (read []) (read [])) ∷ operand_in_parens (tree.Neg (read [])) ∷ operand_in_parens (read []) ∷ []
    ≡ true ∷ false ∷ true ∷ true ∷ true ∷ true ∷ false ∷ true ∷ true ∷ false ∷ false ∷ []
unfolding level op_level
in_parens = refl

-- ---- the plan of the rover's three rules
abbrev count : List ℕ
count = codes "count"

abbrev atom : List ℕ → List ℕ → Atom
atom label name = record { label = label; name = name }

abbrev rover : List Rule
rover = record {
  head = codes "BOOT";
  body = body.Pair (atom (codes "BOOT_S") (codes "BOOT_S")) Before (atom (codes "BOOT_E") (codes "BOOT_E"));
  filter = Some (e.Bin op.Eq (e.Key (codes "BOOT_S") count) (e.Key (codes "BOOT_E") count));
  entries = record { key = count; value = e.Key (codes "BOOT_S") count } ∷ [];
  start = None;
  stop = None;
}
    ∷ record {
      head = codes "DBOOT";
      body = body.Pair (atom (codes "b1") (codes "BOOT")) Before (atom (codes "b2") (codes "BOOT"));
      filter = Some (e.Bin op.Le (e.Bin op.Sub (e.Stop (codes "b2")) (e.Start (codes "b1"))) (e.Int (pos 10000)));
      entries = record { key = count; value = e.Key (codes "b1") count } ∷ [];
      start = None;
      stop = None;
    }
    ∷ record {
      head = codes "RISK";
      body = body.Pair (atom (codes "DOWNLINK") (codes "DOWNLINK")) During (atom (codes "DBOOT") (codes "DBOOT"));
      filter = None;
      entries = record { key = count; value = e.Key (codes "DBOOT") count } ∷ [];
      start = None;
      stop = None;
    } ∷ []

abbrev rover_levels : Levels
rover_levels = (codes "BOOT_S", 0) ∷ (codes "BOOT_E", 0) ∷ (codes "DOWNLINK", 0) ∷ (codes "BOOT", 1) ∷ (codes "DBOOT", 2) ∷ (codes "RISK", 3) ∷ []

-- `BOOT_S.count = BOOT_E.count`, and `b2.end - b1.begin <= 10000`
abbrev same_count : Term
same_count = t.Bin op.Eq (t.Key 0 0) (t.Key 1 0)

abbrev soon : Term
soon = t.Bin op.Le (t.Bin op.Sub (t.Stop 1) (t.Start 0)) (t.Int (pos 10000))

abbrev boot : PlanRule
boot = record { head = 0; keys = 1; first = 1; link = link.Pair Before 2; filter = Some same_count; entries = record { place = 0; value = t.Key 0 0 } ∷ []; start = None; stop = None }

abbrev double_boot : PlanRule
double_boot = record { head = 3; keys = 1; first = 0; link = link.Pair Before 0; filter = Some soon; entries = record { place = 0; value = t.Key 0 0 } ∷ []; start = None; stop = None }

abbrev risk : PlanRule
risk = record { head = 4; keys = 1; first = 5; link = link.Pair During 3; filter = None; entries = record { place = 0; value = t.Key 1 0 } ∷ []; start = None; stop = None }

abbrev pub rover_plan : Plan
rover_plan = record {
  names = codes "BOOT" ∷ codes "BOOT_S" ∷ codes "BOOT_E" ∷ codes "DBOOT" ∷ codes "RISK" ∷ codes "DOWNLINK" ∷ [];
  keys = (count ∷ []) ∷ (count ∷ []) ∷ (count ∷ []) ∷ (count ∷ []) ∷ (count ∷ []) ∷ [] ∷ [];
  rules = boot ∷ double_boot ∷ risk ∷ [];
  levels = 1 ∷ 0 ∷ 0 ∷ 2 ∷ 3 ∷ 0 ∷ [];
}

the_names : names_of rover ≡ rover_plan.names
unfolding is_wide_name
the_names = refl

the_keys : map (keys_of_name rover) (names_of rover) ≡ rover_plan.keys
unfolding is_wide_name keys_read keys_at_node
the_keys = simp exprs

the_plan : plan_of rover rover_levels ≡ rover_plan
unfolding is_wide_name keys_read keys_at_node term_of term_at_node
the_plan = simp exprs

the_levels : map (level_by_rules rover_plan) (range_with_len 0 6) ≡ rover_plan.levels
the_levels = refl

levels_of_names : AreLevels rover rover_levels
unfolding is_wide_name
levels_of_names = All-from_recursion (IsLevelOf rover rover_levels) (names_of rover) (refl, (refl, (refl, (refl, (refl, (refl, tt))))))

-- w :- x:a unless contain y:a where y.k = x.j map { z -> x.j, b -> 2 } begin x.p end x.q: keys go by their bytes, members by their atoms
two_keys : plan_of (record {
  head = codes "w";
  body = body.Unless (atom (codes "x") (codes "a")) Contain (atom (codes "y") (codes "a"));
  filter = Some (e.Bin op.Eq (e.Key (codes "y") (codes "k")) (e.Key (codes "x") (codes "j")));
  entries = record { key = codes "z"; value = e.Key (codes "x") (codes "j") } ∷ record { key = codes "b"; value = e.Int (pos 2) } ∷ [];
  start = Some (e.Key (codes "x") (codes "p"));
  stop = Some (e.Key (codes "x") (codes "q"));
} ∷ []) ((codes "w", 1) ∷ (codes "a", 0) ∷ [])
    ≡ record {
      names = codes "w" ∷ codes "a" ∷ [];
      keys = (codes "b" ∷ codes "z" ∷ []) ∷ (codes "j" ∷ codes "k" ∷ codes "p" ∷ codes "q" ∷ []) ∷ [];
      levels = 1 ∷ 0 ∷ [];
      rules = record { head = 0; keys = 2; first = 1; link = link.Unless Contain 1; filter = Some (t.Bin op.Eq (t.Key 1 1) (t.Key 0 0)); entries = record { place = 1; value = t.Key 0 0 } ∷ record { place = 0; value = t.Int (pos 2) } ∷ []; start = Some (t.Key 0 2); stop = Some (t.Key 0 3) } ∷ [];
    }
unfolding is_wide_name keys_read keys_at_node term_of term_at_node
two_keys = simp exprs

-- it is a plan
rover_levelled : (n : ℕ) → n < 6 → level_of rover_plan n ≡ level_by_rules rover_plan n
rover_levelled zero l = refl
rover_levelled (suc zero) l = refl
rover_levelled (suc (suc zero)) l = refl
rover_levelled (suc (suc (suc zero))) l = refl
rover_levelled (suc (suc (suc (suc zero)))) l = refl
rover_levelled (suc (suc (suc (suc (suc zero))))) l = refl
rover_levelled (suc (suc (suc (suc (suc (suc n)))))) l = omega arith

one_key : AreKeys (count ∷ [])
unfolding IsStrictlySortedBy
one_key = record { few = omega arith; ascending = (tt, tt) }

no_key : AreKeys []
unfolding IsStrictlySortedBy
no_key = record { few = omega arith; ascending = tt }

-- none of its names is wide, and its names and keys are identifiers
rover_in_order : AllPairs IsWideBehind rover_plan.names
unfolding is_wide_name
rover_in_order = wide_behind rover_plan.names [] (All-from_recursion IsNarrow rover_plan.names (refl, (refl, (refl, (refl, (refl, (refl, tt))))))) (All-nil IsWide)

rover_writable : (n : ℕ) → n < 6 → IsWritable rover_plan n
unfolding is_identifier has_name_form keywords
rover_writable = λ n. writable n
  where
    keyed : All (λ key. IsTrue (is_identifier key)) (count ∷ [])
    keyed = All-from_recursion (λ key. IsTrue (is_identifier key)) (count ∷ []) (refl, tt)

    writable : (n : ℕ) → n < 6 → IsWritable rover_plan n
    writable zero l narrow = record { name = refl; keys = keyed }
    writable (suc zero) l narrow = record { name = refl; keys = keyed }
    writable (suc (suc zero)) l narrow = record { name = refl; keys = keyed }
    writable (suc (suc (suc zero))) l narrow = record { name = refl; keys = keyed }
    writable (suc (suc (suc (suc zero)))) l narrow = record { name = refl; keys = keyed }
    writable (suc (suc (suc (suc (suc zero))))) l narrow = record { name = refl; keys = All-nil _ }
    writable (suc (suc (suc (suc (suc (suc n)))))) l narrow = absurd (omega arith)

small : (a b : ℕ) → a < 6 → b < 6 → All (λ n. n < 6) (a ∷ b ∷ [])
small a b l m = All-from_recursion (λ n. n < 6) (a ∷ b ∷ []) (l, (m, tt))

-- its terms: of `where`, and the key that each map copies
same_count_over : IsTermOver rover_plan (body_names boot) same_count
unfolding reads_within reads_within_node operators_of operators_of_node numbers_of numbers_at_node texts_of texts_at_node
same_count_over = record { reads = simp terms; few = simp terms (omega arith); numbers = simp terms (All-nil IsI64); plain = simp terms (All-nil IsPlain) }

soon_over : IsTermOver rover_plan (body_names double_boot) soon
unfolding reads_within reads_within_node operators_of operators_of_node numbers_of numbers_at_node texts_of texts_at_node
soon_over = record { reads = simp terms; few = simp terms (omega arith); numbers = simp terms (All-cons IsI64 (pos 10000) [] (record { low = search (rules, tests); high = search (rules, tests) }) (All-nil IsI64)); plain = simp terms (All-nil IsPlain) }

same_count_is_condition : IsTrue (is_condition (kind_of_term same_count))
unfolding kind_of_term kind_of_node kind_of_binary
same_count_is_condition = simp terms

soon_is_condition : IsTrue (is_condition (kind_of_term soon))
unfolding kind_of_term kind_of_node kind_of_binary
soon_is_condition = simp terms

copied : (rule : PlanRule) (m : ℕ) → 0 < rule.keys → IsTrue (nat_lt 0 (slice_index (widths_of_names rover_plan (result_names rule)) m)) → IsEntryOf rover_plan rule (record { place = 0; value = t.Key m 0 })
unfolding reads_within reads_within_node operators_of operators_of_node numbers_of numbers_at_node texts_of texts_at_node kind_of_term kind_of_node
copied rule m keys width = record {
  place = keys;
  value = record { reads = simp terms width; few = simp terms (omega arith); numbers = simp terms (All-nil IsI64); plain = simp terms (All-nil IsPlain) };
  kind = simp terms;
}

rover_rules : All (IsRuleOf rover_plan) rover_plan.rules
unfolding IsDistinct
rover_rules = All-from_recursion (IsRuleOf rover_plan) rover_plan.rules (
  record {
    head = omega arith;
    body = small 1 2 (omega arith) (omega arith);
    keys = refl;
    filter = All-from_recursion (IsTermOver rover_plan (body_names boot)) (same_count ∷ []) (same_count_over, tt);
    condition = All-from_recursion (λ term. IsTrue (is_condition (kind_of_term term))) (same_count ∷ []) (same_count_is_condition, tt);
    places = (tt, tt);
    entries = All-from_recursion (IsEntryOf rover_plan boot) boot.entries (copied boot 0 (omega arith) refl, tt);
    start = All-nil _;
    stop = All-nil _;
    end_points = All-nil _;
  },
  (
    record {
      head = omega arith;
      body = small 0 0 (omega arith) (omega arith);
      keys = refl;
      filter = All-from_recursion (IsTermOver rover_plan (body_names double_boot)) (soon ∷ []) (soon_over, tt);
      condition = All-from_recursion (λ term. IsTrue (is_condition (kind_of_term term))) (soon ∷ []) (soon_is_condition, tt);
      places = (tt, tt);
      entries = All-from_recursion (IsEntryOf rover_plan double_boot) double_boot.entries (copied double_boot 0 (omega arith) refl, tt);
      start = All-nil _;
      stop = All-nil _;
      end_points = All-nil _;
    },
    (
      record {
        head = omega arith;
        body = small 5 3 (omega arith) (omega arith);
        keys = refl;
        filter = All-nil _;
        condition = All-nil _;
        places = (tt, tt);
        entries = All-from_recursion (IsEntryOf rover_plan risk) risk.entries (copied risk 1 (omega arith) refl, tt);
        start = All-nil _;
        stop = All-nil _;
        end_points = All-nil _;
      },
      tt,
    ),
  ),
)

rover_is_plan : IsPlan rover_plan
unfolding IsDistinct
rover_is_plan = record {
  few_names = omega arith;
  few_rules = omega arith;
  distinct = search rules;
  wide_last = rover_in_order;
  identifiers = rover_writable;
  each_keys = refl;
  keys = All-from_recursion AreKeys rover_plan.keys (one_key, (one_key, (one_key, (one_key, (one_key, (no_key, tt))))));
  each_level = refl;
  levels = rover_levelled;
  rules = rover_rules;
}

-- ---- `|1 :- a before b` and `w :- |1`: the wide name has the last number, and is no head
abbrev bare : List ℕ → Body → Rule
bare head b = record { head = head; body = b; filter = None; entries = []; start = None; stop = None }

abbrev wide_rules : List Rule
wide_rules = bare (codes "|1") (body.Pair (atom (codes "a") (codes "a")) Before (atom (codes "b") (codes "b"))) ∷ bare (codes "w") (body.One (atom (codes "x") (codes "|1"))) ∷ []

abbrev unclaused : ℕ → ℕ → Link → PlanRule
unclaused head first linked = record { head = head; keys = 0; first = first; link = linked; filter = None; entries = []; start = None; stop = None }

abbrev pub wide_plan : Plan
wide_plan = plan_from (codes "a" ∷ codes "b" ∷ codes "w" ∷ codes "|1" ∷ []) ([] ∷ [] ∷ [] ∷ [] ∷ [])
    (unclaused 3 0 (link.Pair Before 1) ∷ unclaused 2 3 link.One ∷ []) (0 ∷ 0 ∷ 2 ∷ 1 ∷ [])

the_wide_plan : plan_of wide_rules ((codes "a", 0) ∷ (codes "b", 0) ∷ (codes "w", 2) ∷ (codes "|1", 1) ∷ []) ≡ wide_plan
unfolding is_wide_name
the_wide_plan = refl

wide_names : map (is_wide wide_plan) (range_with_len 0 4) ≡ false ∷ false ∷ false ∷ true ∷ []
unfolding is_wide_name
wide_names = refl

wide_heads : map (is_head wide_plan) (range_with_len 0 4) ≡ false ∷ false ∷ true ∷ false ∷ []
unfolding is_wide_name
wide_heads = refl

wide_levels : map (level_by_rules wide_plan) (range_with_len 0 4) ≡ 0 ∷ 0 ∷ 2 ∷ 1 ∷ []
wide_levels = refl
