-- Causes of failures: counts of faults that rise.
use Rattle.std.specs.Prelude.{◌≡◌, ℕ, ◌+◌, ◌-◌, ◌^◌, ◌<◌, ◌⊎◌, Result, OnErr, is_ok, min, if◌then◌else◌}

-- the greatest count that a counter holds; a counter that stands there stays there
abbrev pub count_limit : ℕ
count_limit = 2 ^ 64 - 1

-- a count rose: it is greater than before, or stands at its limit
abbrev pub Rose : ℕ → ℕ → Type 0
Rose before now = (before < now) ⊎ (now ≡ count_limit)

-- a failure is answered only where the count of faults rose
abbrev pub HasCause : {T E : Type 0} → ℕ → ℕ → Result T E → Type 0
HasCause before now result = OnErr result (Rose before now)

-- a count after one more: greater by one, or at its limit
abbrev pub risen : ℕ → ℕ
risen count = min (count + 1) count_limit

-- the count of faults after an answer: after a failure one more
abbrev pub faults_after : {T E : Type 0} → ℕ → Result T E → ℕ
faults_after faults result = if is_ok result then faults else risen faults
