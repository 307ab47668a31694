-- Bounds on an end of each member.
use Rattle.std.specs.Prelude.{ℤ, pos, negsuc, ◌+ℤ◌, ◌-ℤ◌, ◌≤ℤ◌, Bool, true, false, Option, Some, None, option_and_then, option_map, IfSome, if◌then◌else◌}
use Rattle.std.specs.Ordering.{int_eq}
use Rattle.nf_core.specs.Intervals.{Interval}
use Rattle.nf_core.specs.declared.operators.BinOp as operator
use Rattle.nf_core.specs.declared.operators.BinOp.TheVariants as op
use Rattle.nf_core.specs.declared.terms.Term as term
use Rattle.nf_core.specs.declared.terms.Term.{out-Term}
use Rattle.nf_core.specs.declared.terms.Term.TheOpen as node
use Rattle.nf_demands.specs.Linear.{fitting, minus, linear_of}
use Rattle.nf_demands.specs.declared.linear.LinearForm.{LinearForm}
use Rattle.nf_demands.specs.declared.bounds.End as end
use Rattle.nf_demands.specs.declared.bounds.End.TheVariants.{Start, Stop}
use Rattle.nf_demands.specs.declared.bounds.Measure as measure
use Rattle.nf_demands.specs.declared.bounds.Measure.TheVariants.{Difference, Sum}
use Rattle.nf_demands.specs.declared.bounds.Limits.{Limits}
use Rattle.nf_demands.specs.declared.bounds.Bound.{Bound}
use Rattle.nf_demands.specs.declared.bounds.SignedEnd.{SignedEnd}

-- this end of a member
abbrev pub end_of : end.End → Interval → ℤ
end_of Start i = i.start
end_of Stop i = i.stop

-- what is made of an end of the first member and one of the second: the second minus the first, or their sum
abbrev pub measured : measure.Measure → ℤ → ℤ → ℤ
measured Difference first second = second -ℤ first
measured Sum first second = first +ℤ second

-- the limits of this least number and this greatest one, where there are such
abbrev pub limits_from : Option ℤ → Option ℤ → Limits
limits_from least most = record { least = least; most = most }

-- a number is at least the least and at most the greatest, where there is one
pub record IsWithin (limits : Limits) (n : ℤ) : Type 0 where
  pub low : IfSome limits.least (λ least. least ≤ℤ n)
  pub high : IfSome limits.most (λ most. n ≤ℤ most)

-- a bound is met by such an end of a first member and such an end of a second one
abbrev pub IsMetByEnds : Bound → ℤ → ℤ → Type 0
IsMetByEnds bound first second = IsWithin bound.limits (measured bound.measure first second)

-- a bound is met by two members
abbrev pub IsBoundMet : Bound → Interval → Interval → Type 0
IsBoundMet bound i j = IsMetByEnds bound (end_of bound.first i) (end_of bound.second j)

-- the limits of the left side minus the right where a comparison is true; other operators give none
unfoldable pub limits_of : operator.BinOp → Option Limits
limits_of op.Eq = Some (limits_from (Some (pos 0)) (Some (pos 0)))
limits_of op.Lt = Some (limits_from None (Some (negsuc 0)))
limits_of op.Le = Some (limits_from None (Some (pos 0)))
limits_of op.Gt = Some (limits_from (Some (pos 1)) None)
limits_of op.Ge = Some (limits_from (Some (pos 0)) None)
limits_of other = None

-- whether an end is subtracted, where it stands so many times in a form: once subtracted or once added
unfoldable pub sign_of : ℤ → Option Bool
sign_of times = if int_eq times (pos 1) then Some false else (if int_eq times (negsuc 0) then Some true else None)

-- an end with its sign
abbrev pub signed : end.End → Bool → SignedEnd
signed e negative = record { end = e; negative = negative }

-- the one end of a member that stands in a form with so many of its begin and of its end: once, and the other not at all
unfoldable pub single_end : ℤ → ℤ → Option SignedEnd
single_end start stop =
    if int_eq start (pos 0) then option_map (signed Stop) (sign_of stop)
    else (if int_eq stop (pos 0) then option_map (signed Start) (sign_of start) else None)

-- the sum of two ends with the same sign, and the difference of two others
abbrev pub measure_of : Bool → Bool → measure.Measure
measure_of true true = Sum
measure_of true false = Difference
measure_of false true = Difference
measure_of false false = Sum

-- each limit less a number; a limit that doesn't fit 128 bits is left out
unfoldable pub lowered : Limits → ℤ → Limits
lowered limits number =
    limits_from (option_and_then (λ n. fitting (n -ℤ number)) limits.least) (option_and_then (λ n. fitting (n -ℤ number)) limits.most)

-- a number less each limit, so that the greatest gives the least; a limit that doesn't fit 128 bits is left out
unfoldable pub turned : Limits → ℤ → Limits
turned limits number =
    limits_from (option_and_then (λ n. fitting (number -ℤ n)) limits.most) (option_and_then (λ n. fitting (number -ℤ n)) limits.least)

-- the bound of two signed ends where a number and they, added up, are within limits: the second end gets the sign of a sum
unfoldable pub signed_bound : SignedEnd → SignedEnd → ℤ → Limits → Bound
signed_bound first second number limits = record {
  first = first.end;
  second = second.end;
  measure = measure_of first.negative second.negative;
  limits = if second.negative then turned limits number else lowered limits number;
}

-- the bound that limits on a linear form give: one end of each member stands in it once
unfoldable pub bound_of_form : Limits → LinearForm → Option Bound
bound_of_form limits form =
    option_and_then (λ first. option_map (λ second. signed_bound first second form.number limits)
    (single_end form.second_start form.second_stop)) (single_end form.first_start form.first_stop)

-- the bound that a comparison gives, from the linear forms of its sides
unfoldable pub bound_of_sides : operator.BinOp → Option LinearForm → Option LinearForm → Option Bound
bound_of_sides o a b =
    option_and_then (λ limits. option_and_then (λ x. option_and_then (λ y. option_and_then (bound_of_form limits) (minus x y)) b) a) (limits_of o)

-- the bound at a node
unfoldable pub bound_at_node : node.Term-F term.Term → Option Bound
bound_at_node (node.Bin o a b) = bound_of_sides o (linear_of a) (linear_of b)
bound_at_node other = None

-- the bound that a part gives: a comparison `< <= > >= =` of linear sides, of which the left minus the right has one end of the first member once, one end of the second once, and no other end
unfoldable pub bound_of : term.Term → Option Bound
bound_of t = bound_at_node (out-Term t)
