-- What the limit leaves for the sources from a place on.
use Rattle.std.proofs.Common.{◌≡◌, ℕ, ◌+◌, ◌-◌, ◌<◌, ◌≤◌, List, [], length, get_or, take, ap, arith}
use Rattle.std.proofs.lemmas.List.{take_all}
use Rattle.nf_spec.specs.Sources.{specification_limit, total}
use Rattle.nf_spec.proofs.Public.TotalLemmas.{total_next, total_first}

-- the source at a place takes what is left
pub next_room : (sources : List (List ℕ)) (place room : ℕ) (source : List ℕ) → place < length sources → source ≡ get_or sources place [] → room + total (take place sources) ≡ specification_limit → length source ≤ room
    → (room - length source) + total (take (place + 1) sources) ≡ specification_limit
next_room sources place room source low at before fits = omega (arith, before, total_next sources place source low at)

-- the source at a place has more than what is left
pub no_room : (sources : List (List ℕ)) (place room : ℕ) (source : List ℕ) → place < length sources → source ≡ get_or sources place [] → room + total (take place sources) ≡ specification_limit → room < length source → specification_limit < total sources
no_room sources place room source low at before over = omega (arith, before, total_next sources place source low at, total_first sources (place + 1))

-- all sources had room
pub all_room : (sources : List (List ℕ)) (place room : ℕ) → length sources ≤ place → room + total (take place sources) ≡ specification_limit → total sources ≤ specification_limit
all_room sources place room end before = omega (arith, before, ap total (take_all place sources end))
