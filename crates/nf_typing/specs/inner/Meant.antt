-- The kinds of the code, and what it finds.
use Rattle.std.specs.Prelude.{◌≡◌, Option, option_map, Result}
use Rattle.std.specs.Result.{result_ok, result_err}
use Rattle.nf_core.specs.Kinds as of
use Rattle.nf_core.specs.Kinds.{labels_of, kind_of_tree}
use Rattle.nf_core.specs.Trees.{tree}
use Rattle.nf_core.specs.declared.trees.Body.{Body}
use Rattle.nf_core.specs.declared.trees.Expr.{Expr}
use Rattle.nf_typing.specs.declared.clause.Clause.{Clause}
use Rattle.nf_typing.specs.declared.fault.KindFault.{KindFault}
use Rattle.nf_typing.specs.declared.kind.Kind as kind
use Rattle.nf_typing.specs.declared.kind.Kind.TheVariants as variant
use Rattle.nf_typing.specs.Faults.{operator_fault, expression_fault, readable_in}

-- the kind that is meant
abbrev pub kind_meant : kind.Kind → of.Kind
kind_meant variant.Number = of.Number
kind_meant variant.Truth = of.Truth
kind_meant variant.Text = of.Text
kind_meant variant.Any = of.Any

-- the kind that is found, where there is one
abbrev pub kind_found : Result kind.Kind KindFault → Option of.Kind
kind_found r = option_map kind_meant (result_ok r)

-- an operator over operands with kinds: this kind or none is found, and then WrongKind
pub record FindsOperator (k : Option of.Kind) (r : Result kind.Kind KindFault) : Type 0 where
  pub kind : kind_found r ≡ k
  pub fault : result_err r ≡ operator_fault k

-- an expression of a clause: its kind is found, or its first fault
pub record Finds (body : Body) (clause : Clause) (x : Expr) (r : Result kind.Kind KindFault) : Type 0 where
  pub kind : kind_found r ≡ kind_of_tree (readable_in clause body) (tree x)
  pub fault : result_err r ≡ expression_fault (readable_in clause body) (labels_of body) (tree x)
