-- What a contract sees of the shelves and sinks in memory, and what they tell.
use Rattle.std.specs.Prelude.{ℕ, Bool, false, ◌==◌, nat_le, List, [], ◌++◌, length, min, Option, None, Some, unwrap_or, if◌then◌else◌}
use Rattle.std.specs.List.{list_any}
use Rattle.nf_io.specs.Causes.{risen}
use Rattle.nf_io.specs.Files.{Files}
use Rattle.nf_io.specs.Tells.{ShelfTells, SinkTells}

-- a shelf without failures: its files, the most bytes of one read, the name asked for, and what is left of the
-- current file, which is told where the last pick answered Ok
pub record SureShelfState : Type 0 where
  pub files : Files
  pub most : ℕ
  pub asked : List ℕ
  pub rest : Option (List ℕ)

-- a shelf with failures: besides, the numbers of the calls that fail, the calls and faults counted so far,
-- and whether the last call failed
pub record MemShelfState : Type 0 where
  pub files : Files
  pub most : ℕ
  pub fails : List ℕ
  pub calls : ℕ
  pub faults : ℕ
  pub asked : List ℕ
  pub rest : Option (List ℕ)
  pub failed : Bool

-- a sink without failures: what it took where told, and the places of its buffer
pub record SureSinkState : Type 0 where
  pub taken : Option (List ℕ)
  pub room : ℕ

-- a sink with failures: besides, the most bytes of one call, the numbers of the calls that fail, and the calls
-- and faults counted so far
pub record MemSinkState : Type 0 where
  pub taken : Option (List ℕ)
  pub room : ℕ
  pub most : ℕ
  pub fails : List ℕ
  pub calls : ℕ
  pub faults : ℕ

-- whether the next call's number, counted from 1, is listed
abbrev pub is_next_listed : List ℕ → ℕ → Bool
is_next_listed fails calls = list_any (λ call. call == risen calls) fails

-- the bytes that are left, and none where they are not told
abbrev pub left_of : Option (List ℕ) → List ℕ
left_of rest = unwrap_or rest []

-- how many bytes one read gives: the least of the most of one read, the buffer's places and the bytes left
abbrev pub read_count : ℕ → ℕ → List ℕ → ℕ
read_count most places left = min most (min places (length left))

-- what a buffer tells after one more piece: all that was taken as long as it fits, and nothing ever after
abbrev pub told_after : ℕ → Option (List ℕ) → List ℕ → Option (List ℕ)
told_after room None piece = None
told_after room (Some taken) piece =
    if nat_le (length (taken ++ piece)) room then Some (taken ++ piece) else None

-- what a shelf without failures tells: its files and the name asked for, from the start
abbrev pub sure_shelf_tells : SureShelfState → ShelfTells
sure_shelf_tells shelf = record {
  files = Some shelf.files;
  asked = Some shelf.asked;
  rest = shelf.rest;
  failed = false;
  faults = 0;
}

-- what a shelf with failures tells: its files and the name asked for, from the start
abbrev pub mem_shelf_tells : MemShelfState → ShelfTells
mem_shelf_tells shelf = record {
  files = Some shelf.files;
  asked = Some shelf.asked;
  rest = shelf.rest;
  failed = shelf.failed;
  faults = shelf.faults;
}

-- what a sink without failures tells
abbrev pub sure_sink_tells : SureSinkState → SinkTells
sure_sink_tells sink = record { taken = sink.taken; faults = 0 }

-- what a sink with failures tells
abbrev pub mem_sink_tells : MemSinkState → SinkTells
mem_sink_tells sink = record { taken = sink.taken; faults = sink.faults }
