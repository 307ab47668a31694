-- How operators are spelled.
use Rattle.std.specs.Prelude.{ℕ, List, codes}
use Rattle.nf_core.specs.declared.operators.BinOp.{BinOp}
use Rattle.nf_core.specs.declared.operators.BinOp.TheVariants as binary
use Rattle.nf_core.specs.declared.operators.Op.{Op}
use Rattle.nf_core.specs.declared.operators.Op.TheVariants as op
use Rattle.nf_core.specs.declared.operators.Xop.{Xop}
use Rattle.nf_core.specs.declared.operators.Xop.TheVariants as xop

-- the mark of a binary operator
unfoldable pub mark_of : BinOp → List ℕ
mark_of binary.Or = codes "|"
mark_of binary.And = codes "&"
mark_of binary.Eq = codes "="
mark_of binary.Ne = codes "!="
mark_of binary.Lt = codes "<"
mark_of binary.Le = codes "<="
mark_of binary.Gt = codes ">"
mark_of binary.Ge = codes ">="
mark_of binary.Add = codes "+"
mark_of binary.Sub = codes "-"
mark_of binary.Mul = codes "*"
mark_of binary.Div = codes "/"
mark_of binary.Rem = codes "%"

-- the keyword of an inclusive operator
unfoldable pub word_of_op : Op → List ℕ
word_of_op op.Before = codes "before"
word_of_op op.Meet = codes "meet"
word_of_op op.During = codes "during"
word_of_op op.Coincide = codes "coincide"
word_of_op op.Start = codes "start"
word_of_op op.Finish = codes "finish"
word_of_op op.Overlap = codes "overlap"
word_of_op op.Slice = codes "slice"

-- the keyword of an exclusive operator
unfoldable pub word_of_xop : Xop → List ℕ
word_of_xop xop.After = codes "after"
word_of_xop xop.Follow = codes "follow"
word_of_xop xop.Contain = codes "contain"
