-- The tests of a line, one after the other.
use Rattle.std.specs.Prelude.{◌≡◌, Bool, true, false, Result, Ok, Err}
use Rattle.nf_line.specs.declared.fault.LineFault.{LineFault}

-- a test of a fault: the answer is that fault exactly where the line has it
abbrev pub Tests : {A : Type 0} → LineFault → Bool → Result A LineFault → Type 0
Tests fault has_fault (Ok x) = has_fault ≡ false
Tests fault has_fault (Err e) = (has_fault ≡ true) × (e ≡ fault)
