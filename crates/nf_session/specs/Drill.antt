-- The made trace of `drill`, and what is counted over it.
use Rattle.std.specs.Prelude.{◌≡◌, ℕ, pos, zero, suc, ◌+◌, ◌*◌, ◌-◌, ◌/◌, ◌%◌, ◌^◌, min, Bool, List, [], ◌∷◌, map, sum_by, take, length, codes}
use Rattle.std.specs.List.{range_with_len}
use Rattle.nf_core.specs.Plan.{Plan}
use Rattle.nf_core.specs.declared.intervals.Change.{Change}
use Rattle.nf_core.specs.declared.values.Value.TheVariants.{Int}
use Rattle.nf_line.specs.Trace.{Event}
use Rattle.nf_model.specs.Changes.{Content, change, heads, pool_of}
use Rattle.nf_session.specs.Follow.{content_after}
use Rattle.nf_session.specs.declared.drilling.Summary.{Summary}

-- the number of a made line, counted from 1, below 2^64: each is the one before it times 6364136223846793005 and plus 1442695040888963407, without what is beyond 64 bits, and the one before the first is 1
unfoldable pub drill_number : ℕ → ℕ
drill_number zero = 1
drill_number (suc i) = (drill_number i * 6364136223846793005 + 1442695040888963407) % 2 ^ 64

-- the upper four bits of the number of a made line
abbrev pub drill_bits : ℕ → ℕ
drill_bits i = drill_number i / 2 ^ 60

-- the time of a made line: that of the one before it, plus 1 where the bits are 8 or more; before the first line it is 0
unfoldable pub drill_time : ℕ → ℕ
drill_time zero = 0
drill_time (suc i) = drill_time i + drill_bits (suc i) / 8

-- the name by the upper four bits: `a`, `b`, `c` or `d` (97 to 100), by the middle two of them
abbrev pub drill_name_of : ℕ → List ℕ
drill_name_of bits = (97 + (bits / 2) % 4) ∷ []

-- a made line: it has its number, its name, and its time as begin and end, and under the key `k` the lowest of its bits
abbrev pub drill_event : ℕ → Event
drill_event i = record {
  number = i;
  name = drill_name_of (drill_bits i);
  start = pos (drill_time i);
  stop = pos (drill_time i);
  pairs = (codes "k", Int (pos (drill_bits i % 2))) ∷ [];
}

-- the first so many made lines, counted from 1
abbrev pub drill_events : ℕ → List Event
drill_events lines = map drill_event (range_with_len 1 lines)

-- the change that the event at a place among some events makes, counted from 0
abbrev pub change_at : Plan → Bool → List Event → ℕ → Change
change_at plan full events place =
    change (content_after plan full (take place events)) (content_after plan full (take (place + 1) events))

-- how many intervals are announced over some events: those that come in the change of each
abbrev pub announced : Plan → Bool → List Event → ℕ
announced plan full events =
    sum_by (λ place. length (change_at plan full events place).come) (range_with_len 0 (length events))

-- how many are withdrawn over some events: those that go in the change of each
abbrev pub withdrawn : Plan → Bool → List Event → ℕ
withdrawn plan full events =
    sum_by (λ place. length (change_at plan full events place).gone) (range_with_len 0 (length events))

-- how many intervals of heads a content holds
abbrev pub held_in : Content → ℕ
held_in content = sum_by (λ n. length (pool_of content n)) (heads content.plan)

-- a count that stands still at 2^64 - 1
abbrev pub counted : ℕ → ℕ
counted n = min n (2 ^ 64 - 1)

-- what is counted over the first so many made lines: they themselves, what is announced and what is withdrawn over them, and what heads hold after them
pub record IsSummary (plan : Plan) (full : Bool) (lines : ℕ) (summary : Summary) : Type 0 where
  pub lines_are : summary.lines ≡ lines
  pub additions_are : summary.additions ≡ counted (announced plan full (drill_events lines))
  pub withdrawals_are : summary.withdrawals ≡ counted (withdrawn plan full (drill_events lines))
  pub held_are : summary.held ≡ counted (held_in (content_after plan full (drill_events lines)))
