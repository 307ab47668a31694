use Rattle.std.proofs.Common.{◌≡◌, ◌+◌, ◌-◌, ◌<◌, ◌≤◌, [], length, take, false}
use Rattle.std.specs.Prelude.{slice_index_or}
use Rattle.nf_spec.specs.Sources.{specification_limit, total}
use Rattle.nfer_cli.specs.inner.Reading.{EndsIn}
use Rattle.nfer_cli.specs.inner.Specified.{AreSources, AsksOne}
use Rattle.nfer_cli.proofs.sources.read_sources.Given as goal

-- the files before the place were read whole, and are within the limit
abbrev pub invariant-names : goal.invariant-names
invariant-names g l = let shelf = g.F.Shelf in record {
  files : (shelf.tells l.shelf).files ≡ (shelf.tells l.fn.shelf).files;
  later : (shelf.tells l.fn.shelf).faults ≤ (shelf.tells l.shelf).faults;
  calm : 0 < l.place → (shelf.tells l.shelf).failed ≡ false;
  count : length l.sources ≡ l.place;
  room : total l.sources + l.room ≡ specification_limit;
  fits : total l.sources ≤ specification_limit;
  known : AreSources (shelf.tells l.fn.shelf) (take l.place l.names) l.sources;
  asks : AsksOne l.names (shelf.tells l.fn.shelf) (shelf.tells l.shelf);
  end : 0 < l.place
      → EndsIn (slice_index_or l.names (l.place - 1) []) (shelf.tells l.fn.shelf) (shelf.tells l.shelf);
}
