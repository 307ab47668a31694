-- Refusals of a specification.
use Rattle.std.proofs.Common.{◌≡◌, Err}
use Rattle.nf_spec.specs.Specification.{Answer}
use Rattle.nf_spec.specs.declared.fault.SpecFault.{SpecFault}

-- two refusals that are the same answer are the same fault
pub fault_is : (why other : SpecFault) → ◌≡◌ {A = Answer} (Err why) (Err other) → why ≡ other
fault_is why other e = cc
