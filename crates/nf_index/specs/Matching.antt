-- Which of a list's intervals stand in a relation to given times.
use Rattle.std.specs.Prelude.{ℤ, Bool, ◌&&◌, not, int_le}
use Rattle.std.specs.Ordering.{int_eq}
use Rattle.nf_core.specs.Intervals.{Interval}
use Rattle.nf_core.specs.Relations.{holds, blocks}
use Rattle.nf_index.specs.declared.relations.Rel.{Rel}
use Rattle.nf_index.specs.declared.relations.Rel.TheVariants.{Pair, Unless, Inside}
use Rattle.nf_index.specs.declared.relations.Which.{Which}
use Rattle.nf_index.specs.declared.relations.Which.TheVariants.{First, Second}

-- whether a first interval from s1 to e1 stands in a relation to a second one from s2 to e2: the condition of an inclusive operator
-- holds, or by an exclusive one the second blocks the first, or the first lies within the second and has other times
abbrev pub stands : Rel → (s1 e1 s2 e2 : ℤ) → Bool
stands (Pair op) s1 e1 s2 e2 = holds s1 e1 s2 e2 op
stands (Unless xop) s1 e1 s2 e2 = blocks s1 e1 s2 e2 xop
stands Inside s1 e1 s2 e2 = int_le s2 s1 && int_le e1 e2 && not (int_eq s1 s2 && int_eq e1 e2)

-- whether an interval stands in a relation, as its first or its second member, to given times as the other member
abbrev pub matches : Rel → Which → (start stop : ℤ) → Interval → Bool
matches rel First start stop i = stands rel i.start i.stop start stop
matches rel Second start stop i = stands rel start stop i.start i.stop
