-- The kinds of expressions: what kind a value of an expression has, as far as it is known without the members.
use Rattle.std.specs.Prelude.{◌≡◌, ℕ, Bool, true, false, ◌&&◌, List, [], ◌∷◌, map, bytes_eq, All, IsTrue, Option, Some, None, option_to_list, if◌then◌else◌}
use Rattle.std.specs.List.{list_any, IsDistinct}
use Rattle.nf_core.specs.Texts.{text_eq}
use Rattle.nf_core.specs.Trees.{Tree, tree, Rule, atoms_of}
use Rattle.nf_core.specs.Trees as of
use Rattle.nf_core.specs.declared.trees.Atom.{Atom}
use Rattle.nf_core.specs.declared.trees.Entry.{Entry}
use Rattle.nf_core.specs.declared.trees.Body.{Body}
use Rattle.nf_core.specs.declared.trees.Body.TheVariants as body
use Rattle.nf_core.specs.declared.values.Value as value
use Rattle.nf_core.specs.declared.values.Value.TheVariants as variant
use Rattle.nf_core.specs.declared.operators.BinOp as operator
use Rattle.nf_core.specs.declared.operators.BinOp.TheVariants as op
use Rattle.nf_core.specs.declared.terms.Term as term
use Rattle.nf_core.specs.declared.terms.Term.TheOpen as node
use Rattle.nf_core.specs.declared.terms.Term.TheFolds.{fold-Term}

-- whole numbers, truth values, texts, or values of every kind
pub data Kind : Type 0 where
  Number : Kind
  Truth : Kind
  Text : Kind
  Any : Kind

-- the operands of an operator on numbers are Number or Any
abbrev pub may_be_number : Kind → Bool
may_be_number Number = true
may_be_number Truth = false
may_be_number Text = false
may_be_number Any = true

-- the operands of an operator on truth values are Truth or Any
abbrev pub may_be_truth : Kind → Bool
may_be_truth Number = false
may_be_truth Truth = true
may_be_truth Text = false
may_be_truth Any = true

-- the operands of `|` and `&` are Truth or Any, those of `=` and `!=` of every kind, those of `< <= > >=` and of `+ - * / %` Number or Any
abbrev pub takes : operator.BinOp → Kind → Bool
takes op.Or k = may_be_truth k
takes op.And k = may_be_truth k
takes op.Eq k = true
takes op.Ne k = true
takes op.Lt k = may_be_number k
takes op.Le k = may_be_number k
takes op.Gt k = may_be_number k
takes op.Ge k = may_be_number k
takes op.Add k = may_be_number k
takes op.Sub k = may_be_number k
takes op.Mul k = may_be_number k
takes op.Div k = may_be_number k
takes op.Rem k = may_be_number k

-- the result of `+ - * / %` is Number, and of every other operator with two operands Truth
abbrev pub gives : operator.BinOp → Kind
gives op.Or = Truth
gives op.And = Truth
gives op.Eq = Truth
gives op.Ne = Truth
gives op.Lt = Truth
gives op.Le = Truth
gives op.Gt = Truth
gives op.Ge = Truth
gives op.Add = Number
gives op.Sub = Number
gives op.Mul = Number
gives op.Div = Number
gives op.Rem = Number

-- the kind of unary `-` over an operand: Number where that is Number or Any, else none
unfoldable pub kind_of_negated : Option Kind → Option Kind
kind_of_negated None = None
kind_of_negated (Some k) = if may_be_number k then Some Number else None

-- the kind of `!` over an operand: Truth where that is Truth or Any, else none
unfoldable pub kind_of_inverted : Option Kind → Option Kind
kind_of_inverted None = None
kind_of_inverted (Some k) = if may_be_truth k then Some Truth else None

-- the kind of an operator over two operands: that of its result where it takes both operands, else none
unfoldable pub kind_of_binary : operator.BinOp → Option Kind → Option Kind → Option Kind
kind_of_binary o None b = None
kind_of_binary o (Some k) None = None
kind_of_binary o (Some k) (Some l) = if takes o k && takes o l then Some (gives o) else None

-- the kind of a node, given those of its operands: a literal has its own kind, a begin and an end are Number, and a key is Any
unfoldable pub kind_of_node : node.Term-F (Option Kind) → Option Kind
kind_of_node (node.Bool b) = Some Truth
kind_of_node (node.Int n) = Some Number
kind_of_node (node.Text t) = Some Text
kind_of_node (node.Start m) = Some Number
kind_of_node (node.Stop m) = Some Number
kind_of_node (node.Key m place) = Some Any
kind_of_node (node.Neg a) = kind_of_negated a
kind_of_node (node.Not a) = kind_of_inverted a
kind_of_node (node.Bin o a b) = kind_of_binary o a b

-- the kind of an expression; none where an operator has an operand of a kind that it doesn't take
unfoldable pub kind_of_term : term.Term → Option Kind
kind_of_term = fold-Term (Option Kind) kind_of_node

-- the kind of a value
abbrev pub kind_of_value : value.Value → Kind
kind_of_value (variant.Bool b) = Truth
kind_of_value (variant.Int n) = Number
kind_of_value (variant.Text t) = Text

-- every value is of kind Any; of another kind are the values that have it
abbrev pub IsOfKind : Kind → value.Value → Type 0
IsOfKind Any v = Unit {0}
IsOfKind Number v = kind_of_value v ≡ Number
IsOfKind Truth v = kind_of_value v ≡ Truth
IsOfKind Text v = kind_of_value v ≡ Text

-- whether a clause with an expression of this kind, or of none, may be a condition: Truth or Any
abbrev pub is_condition : Option Kind → Bool
is_condition None = false
is_condition (Some k) = may_be_truth k

-- or an end point: Number or Any
abbrev pub is_end_point : Option Kind → Bool
is_end_point None = false
is_end_point (Some k) = may_be_number k

-- or a value of a map: every kind
abbrev pub is_map_value : Option Kind → Bool
is_map_value None = false
is_map_value (Some k) = true

-- the kind of an expression over members with these labels: a literal has its own kind, a begin and an end are Number, and a key is Any; none where a label isn't one of them, or an operator has an operand of a kind that it doesn't take
unfoldable pub kind_of_tree : List (List ℕ) → Tree → Option Kind
kind_of_tree labels (of.Bool b) = Some Truth
kind_of_tree labels (of.Int n) = Some Number
kind_of_tree labels (of.Text t) = Some Text
kind_of_tree labels (of.Start label) = if list_any (bytes_eq label) labels then Some Number else None
kind_of_tree labels (of.Stop label) = if list_any (bytes_eq label) labels then Some Number else None
kind_of_tree labels (of.Key label key) = if list_any (bytes_eq label) labels then Some Any else None
kind_of_tree labels (of.Neg a) = kind_of_negated (kind_of_tree labels a)
kind_of_tree labels (of.Not a) = kind_of_inverted (kind_of_tree labels a)
kind_of_tree labels (of.Bin o a b) = kind_of_binary o (kind_of_tree labels a) (kind_of_tree labels b)

-- the labels of a body's atoms in reading order
abbrev pub labels_of : Body → List (List ℕ)
labels_of body = map (λ (atom : Atom). atom.label) (atoms_of body)

-- the labels that the map, begin and end of a rule may read: those of all atoms, and of an exclusive rule that of the first one alone
abbrev pub result_labels : Body → List (List ℕ)
result_labels (body.One first) = first.label ∷ []
result_labels (body.Pair first op second) = first.label ∷ second.label ∷ []
result_labels (body.Unless first xop second) = first.label ∷ []

-- a rule whose kinds are right: its atoms have different labels, `where` is a condition over them, no key of the map stands twice, each entry is a value of a map, and `begin` and `end` are end points, these over the labels that the result may read
pub record AreKindsRight (rule : Rule) : Type 0 where
  pub labels : IsDistinct text_eq (labels_of rule.body)
  pub filter : All (λ x. IsTrue (is_condition (kind_of_tree (labels_of rule.body) (tree x)))) (option_to_list rule.filter)
  pub keys : IsDistinct text_eq (map (λ (entry : Entry). entry.key) rule.entries)
  pub entries : All (λ (entry : Entry). IsTrue (is_map_value (kind_of_tree (result_labels rule.body) (tree entry.value)))) rule.entries
  pub start : All (λ x. IsTrue (is_end_point (kind_of_tree (result_labels rule.body) (tree x)))) (option_to_list rule.start)
  pub stop : All (λ x. IsTrue (is_end_point (kind_of_tree (result_labels rule.body) (tree x)))) (option_to_list rule.stop)
