-- The entries of a map that are evaluated for a place.
use Rattle.std.specs.Prelude.{ℕ, ◌==◌, List, Option, None, Some, find}
use Rattle.nf_core.specs.declared.terms.PlanEntry.{PlanEntry}

-- 1 where there is an entry, else 0
abbrev pub one_entry : Option PlanEntry → ℕ
one_entry None = 0
one_entry (Some entry) = 1

-- 1 where a map has an entry with a place, else 0
abbrev pub mapped_at : List PlanEntry → ℕ → ℕ
mapped_at entries place = one_entry (find (λ (entry : PlanEntry). entry.place == place) entries)
