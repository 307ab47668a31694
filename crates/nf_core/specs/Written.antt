-- What a plan takes from written rules: names, keys of a name, terms and levels.
use Rattle.std.specs.Prelude.{◌≡◌, ℕ, suc, ℤ, ◌<◌, ◌^◌, false, not, List, [], ◌∷◌, ◌++◌, length, map, filter, fold, flat_map, option_map, unwrap_or, Option, Some, bytes_eq, All, if◌then◌else◌}
use Rattle.std.specs.List.{position_or_len}
use Rattle.std.specs.Map.{lookup}
use Rattle.indexmap.specs.IndexSet as distinct
use Rattle.std.specs.BTreeSet as sorted
use Rattle.nf_core.specs.Texts.{text_cmp, text_eq, IsI64, IsPlain}
use Rattle.nf_core.specs.Identifiers.{is_wide_name, AreIdentifiers}
use Rattle.nf_core.specs.Plan.{Plan, greatest}
use Rattle.nf_core.specs.Trees as tree
use Rattle.nf_core.specs.Trees.{Tree, atoms_of, expressions_of}
use Rattle.nf_core.specs.Kinds.{AreKindsRight}
use Rattle.nf_core.specs.declared.trees.Expr as expr
use Rattle.nf_core.specs.declared.trees.Expr.TheOpen as node
use Rattle.nf_core.specs.declared.trees.Expr.TheFolds.{fold-Expr}
use Rattle.nf_core.specs.declared.trees.Atom.{Atom}
use Rattle.nf_core.specs.declared.trees.Body.{Body}
use Rattle.nf_core.specs.declared.trees.Body.TheVariants as body
use Rattle.nf_core.specs.declared.trees.Entry.{Entry}
use Rattle.nf_core.specs.declared.trees.Rule.{Rule}
use Rattle.nf_core.specs.declared.terms.Term as term
use Rattle.nf_core.specs.declared.terms.Term.TheVariants as of_term
use Rattle.nf_core.specs.declared.terms.Link.{Link}
use Rattle.nf_core.specs.declared.terms.Link.TheVariants as link
use Rattle.nf_core.specs.declared.terms.PlanEntry.{PlanEntry}
use Rattle.nf_core.specs.declared.terms.PlanRule.{PlanRule}

-- texts, each once, in the order in which they first appear
abbrev pub each_once : List (List ℕ) → List (List ℕ)
each_once texts = fold (λ all text. distinct.insert_key text_eq all text) [] texts

-- texts, each once, ascending
abbrev pub ascending : List (List ℕ) → List (List ℕ)
ascending texts = fold (λ all text. sorted.insert_key text_cmp all text) [] texts

-- the names of a body's atoms in reading order
abbrev pub names_read : Body → List (List ℕ)
names_read body = map (λ (atom : Atom). atom.name) (atoms_of body)

-- the names of a rule: its head, and then those of its body
abbrev pub names_in : Rule → List (List ℕ)
names_in rule = rule.head ∷ names_read rule.body

-- the texts of wide names after all others
abbrev pub wide_last : List (List ℕ) → List (List ℕ)
wide_last texts = filter (λ text. not (is_wide_name text)) texts ++ filter is_wide_name texts

-- names are numbered by first appearance in the rules, each head before its body, and wide names after all others
abbrev pub names_of : List Rule → List (List ℕ)
names_of rules = each_once (wide_last (flat_map names_in rules))

-- the keys that a node reads under a label, given those that its operands read
unfoldable pub keys_at_node : List ℕ → node.Expr-F (List (List ℕ)) → List (List ℕ)
keys_at_node label (node.Key l key) = if bytes_eq l label then key ∷ [] else []
keys_at_node label (node.Neg a) = a
keys_at_node label (node.Not a) = a
keys_at_node label (node.Bin op a b) = a ++ b
keys_at_node label other = []

-- the keys that an expression reads under a label
unfoldable pub keys_read : List ℕ → expr.Expr → List (List ℕ)
keys_read label = fold-Expr (List (List ℕ)) (keys_at_node label)

-- the keys that some expressions read under a label
abbrev pub keys_read_of : List ℕ → List expr.Expr → List (List ℕ)
keys_read_of label xs = flat_map (keys_read label) xs

-- the keys of a map's entries
abbrev pub keys_mapped : List Entry → List (List ℕ)
keys_mapped entries = map (λ (entry : Entry). entry.key) entries

-- the keys that a rule reads from an atom of a name
abbrev pub keys_read_in : List ℕ → Rule → Atom → List (List ℕ)
keys_read_in name rule atom = if bytes_eq atom.name name then keys_read_of atom.label (expressions_of rule) else []

-- the keys that a rule maps into a head
abbrev pub keys_mapped_in : List ℕ → Rule → List (List ℕ)
keys_mapped_in name rule = if bytes_eq rule.head name then keys_mapped rule.entries else []

-- the keys that a rule reads from the atoms of a name
abbrev pub keys_read_by : Rule → List ℕ → List (List ℕ)
keys_read_by rule name = flat_map (keys_read_in name rule) (atoms_of rule.body)

-- the keys of a name that a rule reads from an atom of the name or maps into it as a head
abbrev pub keys_by_rule : Rule → List ℕ → List (List ℕ)
keys_by_rule rule name = keys_read_by rule name ++ keys_mapped_in name rule

-- the keys of a name: those that some rule reads or maps, ascending, each once
abbrev pub keys_of_name : List Rule → List ℕ → List (List ℕ)
keys_of_name rules name = ascending (flat_map (λ rule. keys_by_rule rule name) rules)

-- the place of a text in a list
abbrev pub place_of : List (List ℕ) → List ℕ → ℕ
place_of texts text = position_or_len (bytes_eq text) texts

-- a member as the expressions of a rule read it: its label, and the keys of its name by place
pub record Member : Type 0 where
  pub label : List ℕ
  pub keys : List (List ℕ)

-- the member of an atom, given the keys of names
abbrev pub member_by : (List ℕ → List (List ℕ)) → Atom → Member
member_by keys atom = record { label = atom.label; keys = keys atom.name }

-- the members of a body, given the keys of names: number 0 is the first atom's, and number 1 the second's
abbrev pub members_by : (List ℕ → List (List ℕ)) → Body → List Member
members_by keys body = map (member_by keys) (atoms_of body)

-- the members of the body of one of some rules
abbrev pub members_of : List Rule → Body → List Member
members_of rules body = members_by (keys_of_name rules) body

-- the number of the member with a label; where none has it, how many members there are
abbrev pub number_under : List Member → List ℕ → ℕ
number_under members label = place_of (map (λ (m : Member). m.label) members) label

-- the keys of the first member with a label
abbrev pub keys_under : List Member → List ℕ → List (List ℕ)
keys_under [] label = []
keys_under (m ∷ members) label = if bytes_eq label m.label then m.keys else keys_under members label

-- a node as a term over members, given the terms of its operands: labels go by number, and keys by place
unfoldable pub term_at_node : List Member → node.Expr-F term.Term → term.Term
term_at_node members (node.Bool b) = of_term.Bool b
term_at_node members (node.Int n) = of_term.Int n
term_at_node members (node.Text t) = of_term.Text t
term_at_node members (node.Start label) = of_term.Start (number_under members label)
term_at_node members (node.Stop label) = of_term.Stop (number_under members label)
term_at_node members (node.Key label key) = of_term.Key (number_under members label) (place_of (keys_under members label) key)
term_at_node members (node.Neg a) = of_term.Neg a
term_at_node members (node.Not a) = of_term.Not a
term_at_node members (node.Bin op a b) = of_term.Bin op a b

-- an expression as a term over members
unfoldable pub term_of : List Member → expr.Expr → term.Term
term_of members = fold-Expr term.Term (term_at_node members)

-- an entry of a map, given the keys of its head and the members that its value reads
abbrev pub entry_of : List (List ℕ) → List Member → Entry → PlanEntry
entry_of keys members entry = record { place = place_of keys entry.key; value = term_of members entry.value }

-- the first name's number
abbrev pub first_of : List Rule → Body → ℕ
first_of rules (body.One first) = place_of (names_of rules) first.name
first_of rules (body.Pair first op second) = place_of (names_of rules) first.name
first_of rules (body.Unless first xop second) = place_of (names_of rules) first.name

-- how the first name is linked to the second one, by its number
abbrev pub link_of : List Rule → Body → Link
link_of rules (body.One first) = link.One
link_of rules (body.Pair first op second) = link.Pair op (place_of (names_of rules) second.name)
link_of rules (body.Unless first xop second) = link.Unless xop (place_of (names_of rules) second.name)

-- a rule of a plan: names and keys by number
abbrev pub plan_rule : List Rule → Rule → PlanRule
plan_rule rules rule = record {
  head = place_of (names_of rules) rule.head;
  keys = length (keys_of_name rules rule.head);
  first = first_of rules rule.body;
  link = link_of rules rule.body;
  filter = option_map (term_of (members_of rules rule.body)) rule.filter;
  entries = map (entry_of (keys_of_name rules rule.head) (members_of rules rule.body)) rule.entries;
  start = option_map (term_of (members_of rules rule.body)) rule.start;
  stop = option_map (term_of (members_of rules rule.body)) rule.stop;
}

-- levels as contracts see them: pairs of a name and its level
abbrev pub Levels : Type 0
Levels = List (List ℕ × ℕ)

-- the level of a name, where it has one
abbrev pub level_of_name : Levels → List ℕ → Option ℕ
level_of_name levels name = lookup (bytes_eq name) levels

-- the level of a name, and 0 where it has none
abbrev pub level_or_zero : Levels → List ℕ → ℕ
level_or_zero levels name = unwrap_or (level_of_name levels name) 0

-- the plan of some rules with their levels
abbrev pub plan_of : List Rule → Levels → Plan
plan_of rules levels = record {
  names = names_of rules;
  keys = map (keys_of_name rules) (names_of rules);
  rules = map (plan_rule rules) rules;
  levels = map (level_or_zero levels) (names_of rules);
}

-- the names in the bodies of a name's rules
abbrev pub names_below : List Rule → List ℕ → List (List ℕ)
names_below rules name = flat_map (λ (rule : Rule). names_read rule.body) (filter (λ (rule : Rule). bytes_eq rule.head name) rules)

-- 0 where a name has no rules, else one more than the greatest level of a name in their bodies
abbrev pub IsLevelOf : List Rule → Levels → List ℕ → Type 0
IsLevelOf rules levels name =
    level_of_name levels name ≡ Some (greatest (map (λ below. suc (level_or_zero levels below)) (names_below rules name)))

-- every name of the rules has its level
abbrev pub AreLevels : List Rule → Levels → Type 0
AreLevels rules levels = All (IsLevelOf rules levels) (names_of rules)

-- the texts that stand in an expression
unfoldable pub texts_in : Tree → List (List ℕ)
texts_in (tree.Text t) = t ∷ []
texts_in (tree.Neg a) = texts_in a
texts_in (tree.Not a) = texts_in a
texts_in (tree.Bin op a b) = texts_in a ++ texts_in b
texts_in other = []

-- the whole numbers that stand in an expression
unfoldable pub numbers_in : Tree → List ℤ
numbers_in (tree.Int n) = n ∷ []
numbers_in (tree.Neg a) = numbers_in a
numbers_in (tree.Not a) = numbers_in a
numbers_in (tree.Bin op a b) = numbers_in a ++ numbers_in b
numbers_in other = []

-- every text in the expressions of a rule is plain
abbrev pub HasPlainTexts : Rule → Type 0
HasPlainTexts rule = All (λ x. All IsPlain (texts_in (tree.tree x))) (expressions_of rule)

-- every whole number in the expressions of a rule is one that a value may be
abbrev pub HasValueNumbers : Rule → Type 0
HasValueNumbers rule = All (λ x. All IsI64 (numbers_in (tree.tree x))) (expressions_of rule)

-- a name of rules and its keys are identifiers, unless the name is wide
abbrev pub IsWritableIn : List Rule → List ℕ → Type 0
IsWritableIn rules name = is_wide_name name ≡ false → AreIdentifiers name (keys_of_name rules name)

-- rules of which a plan can be made: few enough, with identifiers for the names that aren't wide and for their keys, with right kinds, with whole numbers that a value may be, and with plain texts
pub record CanBePlanned (rules : List Rule) : Type 0 where
  pub few_rules : length rules < 2 ^ 32
  pub few_names : length (names_of rules) < 2 ^ 32
  pub few_keys : All (λ name. length (keys_of_name rules name) < 2 ^ 32) (names_of rules)
  pub identifiers : All (IsWritableIn rules) (names_of rules)
  pub kinds : All AreKindsRight rules
  pub numbers : All HasValueNumbers rules
  pub plain : All HasPlainTexts rules
