-- Linear forms: a whole number and the ends of two members, each end taken so many times, added up.
use Rattle.std.specs.Prelude.{ℕ, zero, suc, ℤ, pos, negsuc, ◌+ℤ◌, ◌-ℤ◌, int_le, Bool, ◌&&◌, Option, Some, None, option_and_then, if◌then◌else◌}
use Rattle.nf_core.specs.declared.operators.BinOp as operator
use Rattle.nf_core.specs.declared.operators.BinOp.TheVariants as op
use Rattle.nf_core.specs.declared.terms.Term as term
use Rattle.nf_core.specs.declared.terms.Term.TheOpen as node
use Rattle.nf_core.specs.declared.terms.Term.TheFolds.{fold-Term}
use Rattle.nf_demands.specs.declared.linear.LinearForm.{LinearForm}

-- the form of this number and of so many begins and ends of the first member, and of the second
abbrev pub form_from : ℤ → ℤ → ℤ → ℤ → ℤ → LinearForm
form_from number first_start first_stop second_start second_stop =
    record { number = number; first_start = first_start; first_stop = first_stop; second_start = second_start; second_stop = second_stop }

-- a whole number alone
abbrev pub number_form : ℤ → LinearForm
number_form n = form_from n (pos 0) (pos 0) (pos 0) (pos 0)

-- the begin of a member, 0 the first and 1 the second
unfoldable pub start_form : ℕ → Option LinearForm
start_form zero = Some (form_from (pos 0) (pos 1) (pos 0) (pos 0) (pos 0))
start_form (suc zero) = Some (form_from (pos 0) (pos 0) (pos 0) (pos 1) (pos 0))
start_form (suc (suc n)) = None

-- the end of a member, 0 the first and 1 the second
unfoldable pub stop_form : ℕ → Option LinearForm
stop_form zero = Some (form_from (pos 0) (pos 0) (pos 1) (pos 0) (pos 0))
stop_form (suc zero) = Some (form_from (pos 0) (pos 0) (pos 0) (pos 0) (pos 1))
stop_form (suc (suc n)) = None

-- whether a number fits 128 bits with a sign: from -2^127 to 2^127 - 1
abbrev pub is_i128 : ℤ → Bool
is_i128 n = int_le (negsuc 170141183460469231731687303715884105727) n && int_le n (pos 170141183460469231731687303715884105727)

-- a number, where it fits 128 bits
unfoldable pub fitting : ℤ → Option ℤ
fitting n = if is_i128 n then Some n else None

-- the form of these numbers, where each of them is there
abbrev pub form_where : Option ℤ → Option ℤ → Option ℤ → Option ℤ → Option ℤ → Option LinearForm
form_where (Some number) (Some first_start) (Some first_stop) (Some second_start) (Some second_stop) =
    Some (form_from number first_start first_stop second_start second_stop)
form_where number first_start first_stop second_start second_stop = None

-- two forms number by number, where each result fits 128 bits
abbrev pub number_by_number : (ℤ → ℤ → ℤ) → LinearForm → LinearForm → Option LinearForm
number_by_number f a b = form_where
    (fitting (f a.number b.number))
    (fitting (f a.first_start b.first_start)) (fitting (f a.first_stop b.first_stop))
    (fitting (f a.second_start b.second_start)) (fitting (f a.second_stop b.second_stop))

-- the sum of two forms, where its numbers fit 128 bits
unfoldable pub plus : LinearForm → LinearForm → Option LinearForm
plus a b = number_by_number (λ m n. m +ℤ n) a b

-- the difference of two forms, where its numbers fit 128 bits
unfoldable pub minus : LinearForm → LinearForm → Option LinearForm
minus a b = number_by_number (λ m n. m -ℤ n) a b

-- the form of a sum or a difference, given those of its operands; other operators give none
unfoldable pub combined : operator.BinOp → Option LinearForm → Option LinearForm → Option LinearForm
combined op.Add a b = option_and_then (λ x. option_and_then (plus x) b) a
combined op.Sub a b = option_and_then (λ x. option_and_then (minus x) b) a
combined other a b = None

-- the form of a node, given those of its operands
unfoldable pub linear_at_node : node.Term-F (Option LinearForm) → Option LinearForm
linear_at_node (node.Int n) = Some (number_form n)
linear_at_node (node.Start m) = start_form m
linear_at_node (node.Stop m) = stop_form m
linear_at_node (node.Neg a) = option_and_then (minus (number_form (pos 0))) a
linear_at_node (node.Bin op a b) = combined op a b
linear_at_node other = None

-- the linear form of an expression: it is made of whole numbers and of begins and ends of the two members by `+`, `-` and unary `-`; other expressions have none
unfoldable pub linear_of : term.Term → Option LinearForm
linear_of = fold-Term (Option LinearForm) linear_at_node
