-- What a clause `where` demands of every pair that meets it.
use Rattle.std.specs.Prelude.{Bool, true, false, List, [], ◌∷◌, ◌++◌, flat_map, Option, Some, None, option_map, option_to_list}
use Rattle.std.specs.Option.{option_or}
use Rattle.nf_core.specs.Intervals.{Interval}
use Rattle.nf_core.specs.declared.operators.BinOp.TheVariants as op
use Rattle.nf_core.specs.declared.terms.Term as term
use Rattle.nf_core.specs.declared.terms.Term.{roll-Term, map-Term}
use Rattle.nf_core.specs.declared.terms.Term.TheOpen as node
use Rattle.nf_core.specs.declared.terms.Term.TheFolds.{fold-Term}
use Rattle.nf_demands.specs.Keys.{AreSameKeys, keys_of}
use Rattle.nf_demands.specs.Bounds.{IsBoundMet, bound_of}
use Rattle.nf_demands.specs.Alone.{reads, IsTrueOfFirst, IsTrueOfSecond}
use Rattle.nf_demands.specs.declared.clauses.Demand as demand
use Rattle.nf_demands.specs.declared.clauses.Demand.TheVariants as variant

-- a demand is met by a first and a second member
abbrev pub IsMet : Interval → Interval → demand.Demand → Type 0
IsMet i j (variant.SameKeys keys) = AreSameKeys keys i j
IsMet i j (variant.Bound bound) = IsBoundMet bound i j
IsMet i j (variant.OfFirst test) = IsTrueOfFirst test i
IsMet i j (variant.OfSecond test) = IsTrueOfSecond test j

-- an expression with its parts
pub record Divided : Type 0 where
  pub whole : term.Term
  pub parts : List term.Term

-- an expression with its parts, given its operands with theirs
unfoldable pub divided_at_node : node.Term-F Divided → Divided
divided_at_node (node.Bin op.And a b) = record { whole = roll-Term (node.Bin op.And a.whole b.whole); parts = a.parts ++ b.parts }
divided_at_node n =
    let whole = roll-Term (map-Term Divided term.Term (λ (a : Divided). a.whole) n) in record { whole = whole; parts = whole ∷ [] }

-- the parts of a clause: what stands joined by `&` at its top, from left to right, and itself where nothing does
unfoldable pub parts_of : term.Term → List term.Term
parts_of t = (fold-Term Divided divided_at_node t).parts

-- of a test, by whether it reads the first member and whether the second: that it is one of the first alone, or of the second alone
abbrev pub alone_where : Bool → Bool → term.Term → Option demand.Demand
alone_where true false t = Some (variant.OfFirst t)
alone_where false true t = Some (variant.OfSecond t)
alone_where true true t = None
alone_where false false t = None

-- the test of one member alone that a part is, where it reads that member and not the other
unfoldable pub alone_of : term.Term → Option demand.Demand
alone_of t = alone_where (reads 0 t) (reads 1 t) t

-- the demand of a part, where it gives one: same keys, or a bound, or a test of one member alone
unfoldable pub demand_of : term.Term → Option demand.Demand
demand_of t = option_or (option_map variant.SameKeys (keys_of t)) (option_or (option_map variant.Bound (bound_of t)) (alone_of t))

-- the demands of a clause, in the order of its parts
unfoldable pub demands_of : term.Term → List demand.Demand
demands_of t = flat_map (λ part. option_to_list (demand_of part)) (parts_of t)
