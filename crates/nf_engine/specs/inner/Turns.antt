-- One name's turn within a step.
use Rattle.std.specs.Prelude.{◌≡◌, ℕ, ◌==◌, ◌||◌, ◌⊎◌, ◌++◌, ◌+◌, cond, List, slice_set}
use Rattle.nf_core.specs.Intervals.{Interval}
use Rattle.nf_core.specs.Plan.{Plan}
use Rattle.nf_core.specs.declared.intervals.Delta.{Delta}
use Rattle.nf_model.specs.Changes.{delta_of}
use Rattle.nf_minimal.specs.Minimals.{Minimal, held_of}
use Rattle.nf_tally.specs.Numbers.{number, often}
use Rattle.nf_engine.specs.declared.rounds.Round.{Round}
use Rattle.nf_engine.specs.inner.Deltas.{no_change, delta_at, is_changed}
use Rattle.nf_engine.specs.inner.Readers.{readers_of, HasQueued}
use Rattle.nf_engine.specs.inner.Rounds.{minimal_at, held_in}

-- the lists of a delta have those of another one behind them
pub record IsAppended (more old new : Delta) : Type 0 where
  pub gone : new.gone ≡ old.gone ++ more.gone
  pub come : new.come ≡ old.come ++ more.come

-- a name's candidates took what was gathered for it, and its held intervals lost and gained a delta
pub record IsApplied (head : ℕ) (gathered delta : Delta) (old new : List Minimal) : Type 0 where
  pub minimal : Minimal
  pub set : new ≡ slice_set old head minimal
  pub full : minimal.full ≡ (minimal_at old head).full
  pub counted : (q : Interval) → number minimal.sources q + often gathered.gone q ≡ number (minimal_at old head).sources q + often gathered.come q
  pub leads : delta ≡ delta_of (held_in old head) (held_of minimal)

-- a name has a delta now, and the rules that read it are in the queue
pub record IsPut (plan : Plan) (readers : List (List ℕ)) (head : ℕ) (delta : Delta) (old new : Round) : Type 0 where
  pub deltas : (n : ℕ) → delta_at new.changed n ≡ cond (n == head) delta (delta_at old.changed n)
  pub names : (n : ℕ) → is_changed new.changed n ≡ (n == head || is_changed old.changed n)
  pub queue : HasQueued plan (readers_of readers head) old.queue new.queue

-- nothing is kept of a name that stays
pub record IsLeft (delta : Delta) (old new : Round) : Type 0 where
  pub nothing : delta ≡ no_change
  pub changed : new.changed ≡ old.changed
  pub queue : new.queue ≡ old.queue

-- a name's delta is kept, unless it is that of what stays; what is kept of names and rules stays as it was
pub record IsRecorded (plan : Plan) (readers : List (List ℕ)) (head : ℕ) (delta : Delta) (old new : Round) : Type 0 where
  pub same_names : new.names.items ≡ old.names.items
  pub same_rules : new.rules.items ≡ old.rules.items
  pub kept : IsPut plan readers head delta old new ⊎ IsLeft delta old new
