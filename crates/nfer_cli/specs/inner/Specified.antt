-- How reading and compiling a specification ends.
use Rattle.std.specs.Prelude.{◌≡◌, ◌≤◌, ℕ, List, [], take, Option, IfSome, Ok, ⊤, slice_index_or}
use Rattle.nf_io.specs.Tells.{ShelfTells}
use Rattle.nf_io.specs.Files.{Files}
use Rattle.nf_spec.specs.Sources.{specification_limit, total}
use Rattle.nf_spec.specs.Specification.{Specifies}
use Rattle.nf_spec.specs.declared.compiling.Compiled.{Compiled}
use Rattle.nf_spec.specs.declared.fault.SpecFault.{SpecFault}
use Rattle.nf_spec.specs.declared.fault.SpecFault.TheVariants as fault
use Rattle.nfer_cli.specs.Answers.{AsksWithin, CannotReadAt, Refuses, RefusedReadsTo, StandsAfter, StandsPast, StandsShort, allowed_at}
use Rattle.nfer_cli.specs.Sources.{sources_of}
use Rattle.nfer_cli.specs.inner.Reading.{IsLonger, PassesIn, StopsIn}
use Rattle.nfer_cli.specs.declared.fault.Failure.{Failure}
use Rattle.nfer_cli.specs.declared.fault.Failure.TheVariants as failure

-- sources are within the limit, and under a root, or without one, they are compiled to this
pub record IsAccepted (sources : List (List ℕ)) (root : Option (List ℕ))
    (made : Compiled) : Type 0 where
  pub fits : total sources ≤ specification_limit
  pub defined : Specifies sources root (Ok made)

-- where the shelf tells its files, those with these names are accepted
abbrev pub Accepts : ShelfTells → List (List ℕ) → Option (List ℕ) → Compiled → Type 0
Accepts shelf names root made =
    IfSome shelf.files (λ files. IsAccepted (sources_of files names) root made)

-- where the shelf tells its files, these are the bytes of those with these names
abbrev pub AreSources : ShelfTells → List (List ℕ) → List (List ℕ) → Type 0
AreSources shelf names sources = IfSome shelf.files (λ files. sources ≡ sources_of files names)

-- where the shelf tells its files, the one asked for last is one of those with these names, or still that of before
abbrev pub AsksOne : List (List ℕ) → ShelfTells → ShelfTells → Type 0
AsksOne names before now =
    IfSome before.files (λ files. AsksWithin names files before.asked now.asked)

-- where the shelf tells its files, it stands at the end of the last of those with these names
abbrev pub EndsBehind : List (List ℕ) → ShelfTells → ShelfTells → Type 0
EndsBehind names before now =
    IfSome before.files (λ files. StandsAfter names files now.asked now.rest)

-- the file at a place of a specification couldn't be read: reading stands in it within what is allowed of it, and
-- the files before it are within the limit
pub record FileFails (names : List (List ℕ)) (place : ℕ) (before now : ShelfTells) : Type 0 where
  pub cannot : CannotReadAt names place before now
  pub stands : IfSome before.files (λ files.
      StandsShort files (slice_index_or names place []) (allowed_at names files place)
      now.asked now.rest)
  pub fits : IfSome before.files (λ files.
      total (sources_of files (take place names)) ≤ specification_limit)

-- why the files of a specification aren't read: they are too long together, and reading stands past what is
-- allowed; one couldn't be read; or memory was wanted
abbrev pub SourcesFail : List (List ℕ) → Failure → ShelfTells → ShelfTells → Type 0
SourcesFail names (failure.Specification why) before now =
    (why ≡ fault.TooLong) × IfSome before.files (λ files. StandsPast names files now.asked now.rest)
SourcesFail names (failure.Read place) before now = FileFails names place before now
SourcesFail names failure.NoMemory before now = ⊤
SourcesFail names other before now = ⊥

-- why the file at a place of a specification isn't read, where some bytes are allowed of it: it has more, and
-- reading stands past them; it couldn't be read; or memory was wanted
abbrev pub SourceFails : (names : List (List ℕ)) (place room : ℕ) → Failure
    → ShelfTells → ShelfTells → Type 0
SourceFails names place room (failure.Specification why) before now =
    let name = slice_index_or names place [] in
    (why ≡ fault.TooLong) × IsLonger before name room × PassesIn name room before now
SourceFails names place room (failure.Read at) before now =
    (at ≡ place) × CannotReadAt names at before now
    × StopsIn (slice_index_or names place []) room before now
SourceFails names place room failure.NoMemory before now = ⊤
SourceFails names place room other before now = ⊥

-- files are refused as a specification, and no read was made after that was known
pub record AreRefused (files : Files) (names : List (List ℕ)) (root : Option (List ℕ))
    (why : SpecFault) (last rest : Option (List ℕ)) : Type 0 where
  pub reads : ℕ
  pub refuses : Refuses (sources_of files names) root reads why
  pub stands : RefusedReadsTo names why files last rest

-- why a specification isn't compiled: its files are refused; one couldn't be read; or memory was wanted
abbrev pub SpecificationFails : List (List ℕ) → Option (List ℕ) → Failure
    → ShelfTells → ShelfTells → Type 0
SpecificationFails names root (failure.Specification why) before now =
    IfSome before.files (λ files. AreRefused files names root why now.asked now.rest)
SpecificationFails names root (failure.Read place) before now = FileFails names place before now
SpecificationFails names root failure.NoMemory before now = ⊤
SpecificationFails names root other before now = ⊥
