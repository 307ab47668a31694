-- The whole numbers that a value may be are those that 64 bits hold.
use Rattle.std.proofs.Common.{ℤ, pos, negsuc, rules, tests}
use Rattle.std.specs.Int.{w64}
use Rattle.std.specs.Int.RustNames.{FitsSigned}
use Rattle.nf_core.specs.Texts.{IsI64}

pub fits_i64 : (n : ℤ) → IsI64 n → FitsSigned w64 n
fits_i64 (pos n) h = record { sfits = search (rules, tests, h.high) }
fits_i64 (negsuc n) h = record { sfits = search (rules, tests, h.low) }

pub i64_fits : (n : ℤ) → FitsSigned w64 n → IsI64 n
i64_fits (pos n) h = record { low = search (rules, tests); high = search (rules, tests, h.sfits) }
i64_fits (negsuc n) h = record { low = search (rules, tests, h.sfits); high = search (rules, tests) }
