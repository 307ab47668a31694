-- How reading and compiling a specification ends, from how reading it and compiling it end.
use Rattle.std.proofs.Common.{◌≡◌, ℕ, suc, ◌<◌, ◌≤◌, List, length, take, Option, Some, None, IfSome, Err, sym, subst, arith, ⊎_elim}
use Rattle.std.proofs.lemmas.List.{take-map, length-map}
use Rattle.nf_io.specs.Files.{Files, bytes_of}
use Rattle.nf_io.specs.Tells.{ShelfTells}
use Rattle.nf_spec.specs.Sources.{specification_limit, total}
use Rattle.nf_spec.specs.Specification.{Answer, OrNoMemory, Specifies}
use Rattle.nf_spec.specs.declared.fault.SpecFault.{SpecFault}
use Rattle.nf_spec.specs.declared.fault.SpecFault.TheVariants as fault
use Rattle.nf_spec.proofs.Public.FaultLemmas.{fault_is}
use Rattle.nfer_cli.specs.Answers.{Refuses, RefusedReadsTo, too_long, defines_none, StandsPast, StandsAfter}
use Rattle.nfer_cli.specs.Sources.{sources_of}
use Rattle.nfer_cli.specs.inner.Failures.{failure_of_fault}
use Rattle.nfer_cli.specs.inner.Specified.{AreRefused, AreSources, EndsBehind, SourcesFail, SpecificationFails}
use Rattle.nfer_cli.specs.declared.fault.Failure.{Failure}
use Rattle.nfer_cli.specs.declared.fault.Failure.TheVariants as failure

-- a specification whose files weren't all read isn't accepted
pub unread_fails : (names : List (List ℕ)) (root : Option (List ℕ)) (why : Failure) (before now : ShelfTells) → SourcesFail names why before now → SpecificationFails names root why before now
unread_fails names root (failure.Specification why) before now h = by before.files h.1
  where
    by : (told : Option Files) → IfSome told (λ files. StandsPast names files now.asked now.rest) → IfSome told (λ files. AreRefused files names root why now.asked now.rest)
    by None stands = tt
    by (Some files) stands = record {
      reads = suc stands.place;
      refuses = subst (λ w. Refuses (sources_of files names) root (suc stands.place) w) (sym h.0) (too_long stands.passes);
      stands = subst (λ w. RefusedReadsTo names w files now.asked now.rest) (sym h.0) stands;
    }
unread_fails names root (failure.Read place) before now h = h
unread_fails names root failure.NoMemory before now h = tt
unread_fails names root other before now h = absurd h

-- only sources past the limit are too long
abbrev pub AreTooLong : Type 0
AreTooLong = (sources : List (List ℕ)) (root : Option (List ℕ)) → Specifies sources root (Err fault.TooLong) → specification_limit < total sources

-- a refusal of files within the limit, each of which was read to its end; or want of memory
pub refused_fails : AreTooLong → (names sources : List (List ℕ)) (root : Option (List ℕ)) (why : SpecFault) (before now : ShelfTells) → total sources ≤ specification_limit → AreSources before names sources
    → OrNoMemory (Specifies sources root) (Err why) → EndsBehind names before now → SpecificationFails names root (failure_of_fault why) before now
refused_fails long names sources root why before now fits known found ends = ⊎_elim none (refused why) found
  where
    none : ◌≡◌ {A = Answer} (Err why) (Err fault.NoMemory) → SpecificationFails names root (failure_of_fault why) before now
    none e = let is : why ≡ fault.NoMemory = fault_is why fault.NoMemory e in subst (λ w. SpecificationFails names root (failure_of_fault w) before now) (sym is) tt

    by : (told : Option Files) (w : SpecFault) → ((files : Files) → StandsAfter names files now.asked now.rest → RefusedReadsTo names w files now.asked now.rest) → Specifies sources root (Err w)
        → IfSome told (λ files. sources ≡ sources_of files names) → IfSome told (λ files. StandsAfter names files now.asked now.rest) → IfSome told (λ files. AreRefused files names root w now.asked now.rest)
    by None w reads_to defined known ends = tt
    by (Some files) w reads_to defined known ends = record {
      reads = length sources;
      refuses = subst (λ ss. Refuses ss root (length sources) w) known (defines_none fits defined);
      stands = reads_to files ends;
    }

    refused : (w : SpecFault) → Specifies sources root (Err w) → SpecificationFails names root (failure_of_fault w) before now
    refused fault.NoMemory defined = tt
    refused fault.TooLong defined = absurd (omega (arith, long sources root defined, fits))
    refused other defined = by before.files other (λ files stands. stands) defined known ends

-- why sources aren't compiled: they are refused; or the one at a place, before which they are within the limit, couldn't be read; or memory was wanted
abbrev pub IsNotAccepted : List (List ℕ) → Option (List ℕ) → Failure → Type 0
IsNotAccepted sources root (failure.Specification why) = (reads : ℕ) × Refuses sources root reads why
IsNotAccepted sources root (failure.Read place) = (place < length sources) × (total (take place sources) ≤ specification_limit)
IsNotAccepted sources root failure.NoMemory = Unit {0}
IsNotAccepted sources root other = ⊥

pub not_accepted : (names : List (List ℕ)) (root : Option (List ℕ)) (why : Failure) (before now : ShelfTells) → SpecificationFails names root why before now → IfSome before.files (λ files. IsNotAccepted (sources_of files names) root why)
not_accepted names root (failure.Specification why) before now h = by before.files h
  where
    by : (told : Option Files) → IfSome told (λ files. AreRefused files names root why now.asked now.rest) → IfSome told (λ files. IsNotAccepted (sources_of files names) root (failure.Specification why))
    by None h = tt
    by (Some files) h = (h.reads, h.refuses)
not_accepted names root (failure.Read place) before now h = by before.files h.fits
  where
    by : (told : Option Files) → IfSome told (λ files. total (sources_of files (take place names)) ≤ specification_limit) → IfSome told (λ files. IsNotAccepted (sources_of files names) root (failure.Read place))
    by None fits = tt
    by (Some files) fits = (
      subst (λ n. place < n) (sym (length-map names (bytes_of files))) h.cannot.place_is,
      subst (λ ss. total ss ≤ specification_limit) (sym (take-map (bytes_of files) place names)) fits,
    )
not_accepted names root failure.NoMemory before now h = by before.files
  where
    by : (told : Option Files) → IfSome told (λ files. IsNotAccepted (sources_of files names) root failure.NoMemory)
    by None = tt
    by (Some files) = tt
not_accepted names root other before now h = absurd h
