-- What was made and entered of a made trace so far.
use Rattle.std.specs.Prelude.{◌≡◌, ℕ, pos, Bool, List, [], ◌∷◌, Option, codes, position, bytes_eq, reverse}
use Rattle.std.specs.Map.{lookup}
use Rattle.nf_core.specs.Plan.{Plan}
use Rattle.nf_core.specs.declared.values.Value.{Value}
use Rattle.nf_core.specs.declared.values.Value.TheVariants.{Int}
use Rattle.nf_model.specs.Changes.{Content}
use Rattle.nf_session.specs.Drill.{announced, counted, drill_events, drill_number, drill_time, withdrawn}
use Rattle.nf_session.specs.Follow.{content_after}
use Rattle.nf_session.specs.declared.drilling.Counts.{Counts}
use Rattle.nf_session.specs.declared.making.DrillNames.{DrillNames}
use Rattle.nf_session.specs.declared.making.Maker.{Maker}

-- a maker stands behind the line of this number
pub record StandsAt (i : ℕ) (maker : Maker) : Type 0 where
  pub number_is : maker.number ≡ drill_number i
  pub time_is : maker.time ≡ drill_time i

-- the numbers that a plan gives to the four names
pub record AreNumbersOf (plan : Plan) (names : DrillNames) : Type 0 where
  pub a_is : names.a ≡ position (bytes_eq (97 ∷ [])) plan.names
  pub b_is : names.b ≡ position (bytes_eq (98 ∷ [])) plan.names
  pub c_is : names.c ≡ position (bytes_eq (99 ∷ [])) plan.names
  pub d_is : names.d ≡ position (bytes_eq (100 ∷ [])) plan.names

-- the cell of a key in the row of a made line with this bit
abbrev pub cell_of : List ℕ → ℕ → Option Value
cell_of key bit = lookup (bytes_eq key) (reverse ((codes "k", Int (pos bit)) ∷ []))

-- so many lines were made and entered, and counted are the intervals that were announced and withdrawn
pub record HasDrilled (plan : Plan) (full : Bool) (lines : ℕ) (content : Content) (maker : Maker)
    (counts : Counts) : Type 0 where
  pub content_is : content ≡ content_after plan full (drill_events lines)
  pub stands : StandsAt lines maker
  pub additions_are : counts.additions ≡ counted (announced plan full (drill_events lines))
  pub withdrawals_are : counts.withdrawals ≡ counted (withdrawn plan full (drill_events lines))
