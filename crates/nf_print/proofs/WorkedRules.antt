-- The rules whose lines are worked out in WorkedLines.
use Rattle.std.specs.Prelude.{ℕ, pos, true, List, [], ◌∷◌, Some, None, codes}
use Rattle.nf_core.specs.Trees.{Rule}
use Rattle.nf_core.specs.declared.operators.BinOp.TheVariants as op
use Rattle.nf_core.specs.declared.operators.Op.TheVariants as inclusive
use Rattle.nf_core.specs.declared.operators.Xop.TheVariants as exclusive
use Rattle.nf_core.specs.declared.trees.Expr.{Expr}
use Rattle.nf_core.specs.declared.trees.Expr.TheVariants as e
use Rattle.nf_core.specs.declared.trees.Atom.{Atom}
use Rattle.nf_core.specs.declared.trees.Entry.{Entry}
use Rattle.nf_core.specs.declared.trees.Body.TheVariants as body

-- an atom with a label
abbrev pub atom : List ℕ → List ℕ → Atom
atom label name = record { label = label; name = name }

-- a key of `x`
abbrev pub key : List ℕ → Expr
key name = e.Key (codes "x") name

-- a number
abbrev pub int : ℕ → Expr
int n = e.Int (pos n)

-- !(x.k & x.j)
abbrev pub not_both : Expr
not_both = e.Not (e.Bin op.And (key (codes "k")) (key (codes "j")))

-- 1 - (2 - 3) < - -x.n
abbrev pub difference_below : Expr
difference_below = e.Bin op.Lt (e.Bin op.Sub (int 1) (e.Bin op.Sub (int 2) (int 3))) (e.Neg (e.Neg (key (codes "n"))))

-- !(x.k & x.j) | 1 - (2 - 3) < - -x.n
abbrev pub filter : Expr
filter = e.Bin op.Or not_both difference_below

-- w :- x:a where !(x.k & x.j) | 1 - (2 - 3) < - -x.n
abbrev pub filtered_rule : Rule
filtered_rule = record { head = codes "w"; body = body.One (atom (codes "x") (codes "a")); filter = Some filter; entries = []; start = None; stop = None }

-- k -> a.k, j -> 9223372036854775807
abbrev pub entries : List Entry
entries = record { key = codes "k"; value = e.Key (codes "a") (codes "k") } ∷ record { key = codes "j"; value = int 9223372036854775807 } ∷ []

-- a.begin
abbrev pub start : Expr
start = e.Start (codes "a")

-- a.end + 0
abbrev pub stop : Expr
stop = e.Bin op.Add (e.Stop (codes "a")) (int 0)

-- h :- a unless contain b:a where true map { k -> a.k, j -> 9223372036854775807 } begin a.begin end a.end + 0
abbrev pub whole_rule : Rule
whole_rule = record {
  head = codes "h";
  body = body.Unless (atom (codes "a") (codes "a")) exclusive.Contain (atom (codes "b") (codes "a"));
  filter = Some (e.Bool true);
  entries = entries;
  start = Some start;
  stop = Some stop;
}

-- h :- a before b
abbrev pub pair_rule : Rule
pair_rule = record { head = codes "h"; body = body.Pair (atom (codes "a") (codes "a")) inclusive.Before (atom (codes "b") (codes "b")); filter = None; entries = []; start = None; stop = None }
