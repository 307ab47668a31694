-- How many expressions a call may evaluate for what is asked.
use Rattle.std.specs.Prelude.{◌≡◌, ℕ, ◌+◌, ◌≤◌, false, List, Option, Some, None, Ok, Err}
use Rattle.nf_core.specs.Plan.{Plan}
use Rattle.nf_drill.specs.Rules.{IsDrillPlan}
use Rattle.nf_io.specs.Files.{Files, bytes_of}
use Rattle.nf_line.specs.Trace.{trace}
use Rattle.nf_session.specs.Costs.{work_of}
use Rattle.nf_session.specs.Drill.{drill_events}
use Rattle.nf_spec.specs.Specification.{Specifies}
use Rattle.nf_spec.specs.declared.compiling.Compiled.{Compiled}
use Rattle.nf_spec.specs.declared.fault.SpecFault.{SpecFault}
use Rattle.nfer_cli.specs.Sources.{sources_of}
use Rattle.nfer_cli.specs.Words.{Asked, Check, Drill, Follow, Infer, Options, standard_input}

-- a session over a trace of these bytes, under what the files of a specification are compiled to, raises a counter by
-- at most the work of all accepted lines; where the files are refused nothing is evaluated
pub record KeepsToTrace (options : Options) (names : List (List ℕ)) (bytes : List ℕ) (files : Files)
    (before now : ℕ) : Type 0 where
  pub accepted : (made : Compiled) → Specifies (sources_of files names) options.root (Ok made)
      → now ≤ before + work_of made.plan options.full (trace bytes).events
  pub refused : (why : SpecFault) → Specifies (sources_of files names) options.root (Err why)
      → now ≡ before

-- a call raises a counter by no more than this: by the work of the trace's lines, or of the made ones, and by nothing
-- where there is no trace
abbrev pub EvaluatesWithin : Option Asked → Files → (before now : ℕ) → Type 0
EvaluatesWithin None files before now = now ≡ before
EvaluatesWithin (Some (Check options names)) files before now = now ≡ before
EvaluatesWithin (Some (Follow options names)) files before now =
    KeepsToTrace options names (bytes_of files standard_input) files before now
EvaluatesWithin (Some (Infer options names name)) files before now =
    KeepsToTrace options names (bytes_of files name) files before now
EvaluatesWithin (Some (Drill lines)) files before now = (plan : Plan) → IsDrillPlan plan
    → now ≤ before + work_of plan false (drill_events lines)
