-- A value of an expression whose texts are plain is plain, since no operator gives a text.
use Rattle.std.proofs.Common.{◌≢◌, ℕ, List, [], ◌∷◌, All, Option, Some, None, sym, rules}
use Rattle.nf_core.specs.Texts.{IsPlain}
use Rattle.nf_core.specs.Rows.{IsPlainCell}
use Rattle.nf_core.specs.Expressions.{binary, negated, inverted}
use Rattle.nf_core.specs.Kinds.{Kind, Number, Truth, Text, gives}
use Rattle.nf_core.specs.declared.values.Value.{Value}
use Rattle.nf_core.specs.declared.values.Value.TheVariants as v
use Rattle.nf_core.specs.declared.operators.BinOp.{BinOp}
use Rattle.nf_core.specs.declared.operators.BinOp.TheVariants as op
use Rattle.nf_expr.proofs.KindLemmas.{Gives, binary_gives, negated_gives, inverted_gives}

no_text : (o : Option Value) (k : Kind) → k ≢ Text → Gives o k → IsPlainCell o
no_text None k d h = tt
no_text (Some (v.Bool b)) k d h = tt
no_text (Some (v.Int n)) k d h = tt
no_text (Some (v.Text t)) k d h = absurd (d (sym h))

gives_no_text : (o : BinOp) → gives o ≢ Text
gives_no_text op.Or e = cc
gives_no_text op.And e = cc
gives_no_text op.Eq e = cc
gives_no_text op.Ne e = cc
gives_no_text op.Lt e = cc
gives_no_text op.Le e = cc
gives_no_text op.Gt e = cc
gives_no_text op.Ge e = cc
gives_no_text op.Add e = cc
gives_no_text op.Sub e = cc
gives_no_text op.Mul e = cc
gives_no_text op.Div e = cc
gives_no_text op.Rem e = cc

pub binary_is_plain : (o : BinOp) (a b : Value) → IsPlainCell (binary o a b)
binary_is_plain o a b = no_text _ (gives o) (gives_no_text o) (binary_gives o a b)

pub negated_is_plain : (a : Value) → IsPlainCell (negated a)
negated_is_plain a = no_text _ Number (λ e. cc) (negated_gives a)

pub inverted_is_plain : (a : Value) → IsPlainCell (inverted a)
inverted_is_plain a = no_text _ Truth (λ e. cc) (inverted_gives a)

pub first_is_plain : (t : List ℕ) → All IsPlain (t ∷ []) → IsPlain t
first_is_plain t h = search rules
