-- The first fault of a rule, by the kinds of its expressions.
use Rattle.std.specs.Prelude.{ℕ, Bool, false, ◌||◌, List, [], ◌∷◌, ◌++◌, bytes_eq, Option, Some, None, option_and_then, if◌then◌else◌}
use Rattle.std.specs.List.{list_any}
use Rattle.nf_core.specs.Texts.{text_eq}
use Rattle.nf_core.specs.Kinds.{Kind, kind_of_tree, is_condition, is_end_point, is_map_value, labels_of, result_labels}
use Rattle.nf_core.specs.Trees.{Tree, tree, Rule, atoms_of}
use Rattle.nf_core.specs.Trees as of
use Rattle.nf_core.specs.declared.trees.Expr as expr
use Rattle.nf_core.specs.declared.trees.Atom.{Atom}
use Rattle.nf_core.specs.declared.trees.Entry.{Entry}
use Rattle.nf_core.specs.declared.trees.Body.{Body}
use Rattle.nf_typing.specs.declared.fault.KindFault.{KindFault}
use Rattle.nf_typing.specs.declared.fault.KindFault.TheVariants.{UnknownLabel, SameLabel, WrongKind, SecondLabel, SameKey}
use Rattle.nf_typing.specs.declared.clause.Clause.{Clause}
use Rattle.nf_typing.specs.declared.clause.Clause.TheVariants as clause

-- of parts in order, the first fault that there is
abbrev pub first : List (Option KindFault) → Option KindFault
first [] = None
first (None ∷ others) = first others
first (Some fault ∷ others) = Some fault

-- a read under a label, by the labels that may be read and by those of all atoms: none where the label may be read, SecondLabel where it is another atom's, and UnknownLabel where no atom has it
unfoldable pub read_fault : List (List ℕ) → List (List ℕ) → List ℕ → Option KindFault
read_fault readable all label =
    if list_any (bytes_eq label) readable then None else (if list_any (bytes_eq label) all then Some SecondLabel else Some UnknownLabel)

-- the fault of an operator over operands without fault, by its kind: WrongKind where it has none, since it doesn't take the kind of an operand
abbrev pub operator_fault : Option Kind → Option KindFault
operator_fault None = Some WrongKind
operator_fault (Some k) = None

-- the first fault of an expression, by the labels that it may read and by those of all atoms: operands before their operator, and left before right. There is one exactly where the expression has no kind
unfoldable pub expression_fault : List (List ℕ) → List (List ℕ) → Tree → Option KindFault
expression_fault readable all (of.Start label) = read_fault readable all label
expression_fault readable all (of.Stop label) = read_fault readable all label
expression_fault readable all (of.Key label key) = read_fault readable all label
expression_fault readable all (of.Neg a) =
    first (expression_fault readable all a ∷ operator_fault (kind_of_tree readable (of.Neg a)) ∷ [])
expression_fault readable all (of.Not a) =
    first (expression_fault readable all a ∷ operator_fault (kind_of_tree readable (of.Not a)) ∷ [])
expression_fault readable all (of.Bin o a b) =
    first (expression_fault readable all a ∷ expression_fault readable all b ∷ operator_fault (kind_of_tree readable (of.Bin o a b)) ∷ [])
expression_fault readable all literal = None

-- the labels that a clause may read: `where` those of all atoms, and the others those that a result may read
abbrev pub readable_in : Clause → Body → List (List ℕ)
readable_in clause.Filter body = labels_of body
readable_in clause.Entry body = result_labels body
readable_in clause.Start body = result_labels body
readable_in clause.Stop body = result_labels body

-- whether a clause takes an expression of this kind, or of none: `where` Truth and Any, an entry every kind, `begin` and `end` Number and Any
abbrev pub fits : Clause → Option Kind → Bool
fits clause.Filter k = is_condition k
fits clause.Entry k = is_map_value k
fits clause.Start k = is_end_point k
fits clause.Stop k = is_end_point k

-- WrongKind where a clause doesn't take an expression of this kind, or of none
abbrev pub fit_fault : Clause → Option Kind → Option KindFault
fit_fault clause k = if fits clause k then None else Some WrongKind

-- the fault of a clause of a rule with this body: that of its expression, and then WrongKind where the clause doesn't take the expression's kind
unfoldable pub clause_fault : Body → Clause → expr.Expr → Option KindFault
clause_fault body clause x =
    first (expression_fault (readable_in clause body) (labels_of body) (tree x) ∷ fit_fault clause (kind_of_tree (readable_in clause body) (tree x)) ∷ [])

-- the fault of a clause that need not stand
abbrev pub optional_fault : Body → Clause → Option expr.Expr → Option KindFault
optional_fault body clause x = option_and_then (clause_fault body clause) x

-- whether one of some atoms has the label of an earlier one
abbrev pub has_same_label : List Atom → Bool
has_same_label [] = false
has_same_label (atom ∷ later) = list_any (λ (other : Atom). text_eq atom.label other.label) later || has_same_label later

-- SameLabel where an atom of a body has the label of an earlier one
abbrev pub label_fault : Body → Option KindFault
label_fault body = if has_same_label (atoms_of body) then Some SameLabel else None

-- SameKey where an earlier entry has the key of an entry
unfoldable pub key_fault : List Entry → Entry → Option KindFault
key_fault earlier entry = if list_any (λ (other : Entry). text_eq other.key entry.key) earlier then Some SameKey else None

-- an entry behind earlier ones: the fault of its key, and then that of its expression
abbrev pub entry_fault : Body → List Entry → Entry → Option KindFault
entry_fault body earlier entry = first (key_fault earlier entry ∷ clause_fault body clause.Entry entry.value ∷ [])

-- the first fault of entries in order, behind earlier ones
unfoldable pub entries_fault : Body → List Entry → List Entry → Option KindFault
entries_fault body earlier [] = None
entries_fault body earlier (entry ∷ later) =
    first (entry_fault body earlier entry ∷ entries_fault body (earlier ++ entry ∷ []) later ∷ [])

-- the first fault of a rule, or none: of its labels, then of `where`, then of each entry of its map, then of `begin`, then of `end`
unfoldable pub fault_of : Rule → Option KindFault
fault_of rule = first (
    label_fault rule.body
    ∷ optional_fault rule.body clause.Filter rule.filter
    ∷ entries_fault rule.body [] rule.entries
    ∷ optional_fault rule.body clause.Start rule.start
    ∷ optional_fault rule.body clause.Stop rule.stop
    ∷ [])
