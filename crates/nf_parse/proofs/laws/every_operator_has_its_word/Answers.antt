use Rattle.std.proofs.Common.{◌≡◌, refl, Some}
use Rattle.nf_core.specs.Spelling.{mark_of, word_of_op, word_of_xop}
use Rattle.nf_core.specs.declared.operators.BinOp.{BinOp}
use Rattle.nf_core.specs.declared.operators.BinOp.TheVariants as binary
use Rattle.nf_core.specs.declared.operators.Op.{Op}
use Rattle.nf_core.specs.declared.operators.Op.TheVariants as op
use Rattle.nf_core.specs.declared.operators.Xop.{Xop}
use Rattle.nf_core.specs.declared.operators.Xop.TheVariants as xop
use Rattle.nf_parse.specs.State.{sym_in, keywords, marks}
use Rattle.nf_parse.specs.Grammar.{op_at, op_of, xop_of}
use Rattle.nf_parse.specs.declared.level.Level.{Level}
use Rattle.nf_parse.specs.declared.level.Level.TheVariants as level
use Rattle.nf_parse.proofs.laws.every_operator_has_its_word.Goals as goal

of_op : (o : Op) → op_of (sym_in keywords (word_of_op o)) ≡ Some o
unfolding op_of word_of_op
of_op op.Before = refl
of_op op.Meet = refl
of_op op.During = refl
of_op op.Coincide = refl
of_op op.Start = refl
of_op op.Finish = refl
of_op op.Overlap = refl
of_op op.Slice = refl

of_xop : (x : Xop) → xop_of (sym_in keywords (word_of_xop x)) ≡ Some x
unfolding xop_of word_of_xop
of_xop xop.After = refl
of_xop xop.Follow = refl
of_xop xop.Contain = refl

at_level : (o : BinOp) → (l : Level) × (op_at l (sym_in marks (mark_of o)) ≡ Some o)
unfolding op_at mark_of
at_level binary.Or = (level.Or, refl)
at_level binary.And = (level.And, refl)
at_level binary.Eq = (level.Compare, refl)
at_level binary.Ne = (level.Compare, refl)
at_level binary.Lt = (level.Compare, refl)
at_level binary.Le = (level.Compare, refl)
at_level binary.Gt = (level.Compare, refl)
at_level binary.Ge = (level.Compare, refl)
at_level binary.Add = (level.Sum, refl)
at_level binary.Sub = (level.Sum, refl)
at_level binary.Mul = (level.Product, refl)
at_level binary.Div = (level.Product, refl)
at_level binary.Rem = (level.Product, refl)

pub returns : goal.returns
returns c = record { inclusive = of_op; exclusive = of_xop; binary = at_level }
