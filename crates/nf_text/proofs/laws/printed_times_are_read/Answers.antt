use Rattle.std.proofs.Common.{◌<◌, ◌^◌, pos, ap, ◌∙◌, Some, decimal, arith}
use Rattle.std.proofs.lemmas.Fmt.{digits_decimal, digits_value-decimal, decimal_nonempty, length-decimal-le}
use Rattle.nf_text.proofs.NumeralLemmas.{time_is}
use Rattle.nf_text.proofs.laws.printed_times_are_read.Goals as goal
use Rattle.nf_lemmas.proofs.DigitLemmas.{digits_model}

pub returns : goal.returns
returns c = λ n h.
    let l : n < 2 ^ 64 = omega arith in
    let e = digits_value-decimal digits_model n l in
    time_is (decimal n) (digits_decimal digits_model n l) (decimal_nonempty n l) (length-decimal-le 19 n (omega arith) (omega arith) l) (omega arith)
    ∙ ap (λ v. Some (pos v)) e
