-- A file of a specification that wasn't read.
use Rattle.std.proofs.Common.{◌≡◌, ℕ, ◌+◌, ◌<◌, ◌≤◌, List, [], length, take, Option, Some, None, IfSome, sym, subst}
use Rattle.std.specs.Prelude.{slice_index_or}
use Rattle.nf_io.specs.Files.{Files, asked_of}
use Rattle.nf_io.specs.Tells.{ShelfTells}
use Rattle.nf_io.proofs.Public.{later-then_Rose}
use Rattle.nf_spec.specs.Sources.{specification_limit, total}
use Rattle.nfer_cli.specs.Answers.{CannotRead, CannotReadAt, StandsShort, allowed_at}
use Rattle.nfer_cli.specs.Sources.{sources_of}
use Rattle.nfer_cli.specs.inner.Specified.{AreSources, FileFails, SourceFails, SourcesFail}
use Rattle.nfer_cli.specs.declared.fault.Failure.{Failure}
use Rattle.nfer_cli.specs.declared.fault.Failure.TheVariants as failure
use Rattle.nfer_cli.proofs.AllowedLemmas.{allowed_here}
use Rattle.nfer_cli.proofs.FilesReadLemmas.{fits_before, past_here}

-- what holds where the shelf tells its files holds where it told the same before
pub told_before : (before middle : Option Files) (P : Files → Type 0) → middle ≡ before → IfSome middle P → IfSome before P
told_before before middle P same h = subst (λ (t : Option Files). IfSome t P) same h

-- a file that couldn't be read since a later state couldn't be read since an earlier one
pub cannot_since : (name : List ℕ) (before middle now : ShelfTells) → middle.files ≡ before.files → before.faults ≤ middle.faults → CannotRead name middle now → CannotRead name before now
cannot_since name before middle now same later cannot = record {
  rose = later-then_Rose before.faults middle.faults now.faults later cannot.rose;
  has_failed = cannot.has_failed;
  asked_is = told_before before.files middle.files (λ files. now.asked ≡ Some (asked_of files name)) same cannot.asked_is;
}

-- what is read of the file at a place is within what is allowed there
short_here : (told : Option Files) (names : List (List ℕ)) (place left : ℕ) (sources : List (List ℕ)) (last rest : Option (List ℕ)) → place < length names → total sources + left ≡ specification_limit
    → IfSome told (λ files. sources ≡ sources_of files (take place names)) → IfSome told (λ files. StandsShort files (slice_index_or names place []) left last rest)
    → IfSome told (λ files. StandsShort files (slice_index_or names place []) (allowed_at names files place) last rest)
short_here None names place left sources last rest low room known stands = tt
short_here (Some files) names place left sources last rest low room known stands =
    subst (λ n. StandsShort files (slice_index_or names place []) n last rest) (allowed_here files names place left sources low room known) stands

-- a file that wasn't read, behind others that were
pub fails_here : (names : List (List ℕ)) (place left : ℕ) (sources : List (List ℕ)) (why : Failure) (before middle now : ShelfTells) → place < length names → length sources ≡ place → total sources + left ≡ specification_limit
    → total sources ≤ specification_limit → AreSources before (take place names) sources → middle.files ≡ before.files → before.faults ≤ middle.faults → SourceFails names place left why middle now → SourcesFail names why before now
fails_here names place left sources (failure.Specification why) before middle now low count room fits known same later h = (
  h.0,
  past_here before.files names place left sources now.asked now.rest low count room fits known (told_before before.files middle.files _ same h.1) (told_before before.files middle.files _ same h.2),
)
fails_here names place left sources (failure.Read at) before middle now low count room fits known same later h =
    subst (λ n. FileFails names n before now) (sym h.0) (record {
      cannot = record { place_is = low; cannot = cannot_since (slice_index_or names place []) before middle now same later (subst (λ n. CannotReadAt names n middle now) h.0 h.1).cannot };
      stands = short_here before.files names place left sources now.asked now.rest low room known (told_before before.files middle.files _ same h.2);
      fits = fits_before before.files names place sources fits known;
    })
fails_here names place left sources failure.NoMemory before middle now low count room fits known same later h = tt
fails_here names place left sources other before middle now low count room fits known same later h = absurd h
