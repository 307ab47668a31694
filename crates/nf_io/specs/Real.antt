-- What a contract sees of the real shelf, and what the real shelf and the real sink tell.
use Rattle.std.specs.Prelude.{ℕ, Bool, None}
use Rattle.nf_io.specs.Tells.{ShelfTells, SinkTells}

-- a shelf of the outside: the faults counted so far, and whether the last call failed
pub record RealShelfState : Type 0 where
  pub faults : ℕ
  pub failed : Bool

-- a shelf of the outside tells no content
abbrev pub real_shelf_tells : RealShelfState → ShelfTells
real_shelf_tells shelf = record {
  files = None;
  asked = None;
  rest = None;
  failed = shelf.failed;
  faults = shelf.faults;
}

-- a sink of the outside, of which a contract sees the faults counted so far, tells no content
abbrev pub real_sink_tells : ℕ → SinkTells
real_sink_tells faults = record { taken = None; faults = faults }
