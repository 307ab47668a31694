-- Equal keys of the two members.
use Rattle.std.specs.Prelude.{◌≡◌, ℕ, ◌&&◌, ◌==◌, Option, Some, None, option_and_then, slice_index_or, if◌then◌else◌}
use Rattle.nf_core.specs.Intervals.{Interval}
use Rattle.nf_core.specs.declared.values.Value as value
use Rattle.nf_core.specs.declared.operators.BinOp as operator
use Rattle.nf_core.specs.declared.operators.BinOp.TheVariants as op
use Rattle.nf_core.specs.declared.terms.Term as term
use Rattle.nf_core.specs.declared.terms.Term.{out-Term}
use Rattle.nf_core.specs.declared.terms.Term.TheOpen as node
use Rattle.nf_demands.specs.declared.keys.SameKeys.{SameKeys}

-- the value of a member at a place of its row, where there is one
abbrev pub cell_of : Interval → ℕ → Option value.Value
cell_of i place = slice_index_or i.row place None

-- the value of the first member and that of the second are there and are the same
pub record AreSameKeys (keys : SameKeys) (i j : Interval) : Type 0 where
  pub value : value.Value
  pub first : cell_of i keys.first ≡ Some value
  pub second : cell_of j keys.second ≡ Some value

-- the key at a node: its member and its place
unfoldable pub key_at_node : node.Term-F term.Term → Option (ℕ × ℕ)
key_at_node (node.Key m place) = Some (m, place)
key_at_node other = None

-- the key that an expression is, where it is one: its member and its place
unfoldable pub key_of : term.Term → Option (ℕ × ℕ)
key_of t = key_at_node (out-Term t)

-- two keys, where one is of the first member and the other of the second
unfoldable pub same_keys : (ℕ × ℕ) → (ℕ × ℕ) → Option SameKeys
same_keys x y =
    if x.0 == 0 && y.0 == 1 then Some (record { first = x.1; second = y.1 })
    else (if x.0 == 1 && y.0 == 0 then Some (record { first = y.1; second = x.1 }) else None)

-- the keys that an operator says are equal, from the keys that its sides are: `=` of a key of each member
unfoldable pub keys_of_sides : operator.BinOp → Option (ℕ × ℕ) → Option (ℕ × ℕ) → Option SameKeys
keys_of_sides op.Eq a b = option_and_then (λ x. option_and_then (same_keys x) b) a
keys_of_sides other a b = None

-- the keys at a node
unfoldable pub keys_at_node : node.Term-F term.Term → Option SameKeys
keys_at_node (node.Bin o a b) = keys_of_sides o (key_of a) (key_of b)
keys_at_node other = None

-- the keys of the two members that a part says are equal: `=` with a key of the first member on one side and a key of the second on the other
unfoldable pub keys_of : term.Term → Option SameKeys
keys_of t = keys_at_node (out-Term t)
