-- Where a reader stands in a trace after some of its bytes, and what it reads from there on.
use Rattle.std.specs.Prelude.{ℕ, ◌+◌, ℤ, List, Option, None}
use Rattle.nf_line.specs.Lines.{ended_lines, unended}
use Rattle.nf_line.specs.Trace.{Ending, Trace, last_end, trace_from, trace_so_far}

-- how many lines ended, what stands behind the last LF, and the end of the last accepted line
pub record Standing : Type 0 where
  pub ended : ℕ
  pub rest : List ℕ
  pub last : Option ℤ

-- where a reader stands after some bytes of a trace
abbrev pub standing : List ℕ → Standing
standing bytes = record {
  ended = ended_lines bytes;
  rest = unended bytes;
  last = last_end None (trace_so_far bytes).events;
}

-- the trace of the pieces that follow, read on from there; it ends so where none of them is refused
abbrev pub read_on : Standing → Ending → List (List ℕ) → Trace
read_on standing ending pieces = trace_from (standing.ended + 1) standing.last ending pieces
