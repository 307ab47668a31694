-- Every question has a defined answer.
use Rattle.std.proofs.Common.{◌≡◌, ℕ, suc, ◌+◌, ◌<◌, ◌≤◌, false, List, length, take, refl, arith, inl, inr, Option, Some, None, Result, Ok, Err}
use Rattle.nf_core.specs.Plan.{Plan}
use Rattle.nf_drill.specs.Rules.{IsDrillPlan}
use Rattle.nf_io.specs.Files.{Files, bytes_of}
use Rattle.nf_spec.specs.Sources.{specification_limit, total}
use Rattle.nf_spec.proofs.Public.PassedLimitLemmas.{not_passed_before, passed_or_within}
use Rattle.nf_spec.specs.Specification.{Specifies}
use Rattle.nf_spec.specs.declared.compiling.Compiled.{Compiled}
use Rattle.nf_spec.specs.declared.fault.SpecFault.{SpecFault}
use Rattle.nf_spec.specs.declared.fault.SpecFault.TheVariants as fault
use Rattle.nf_session.specs.Drill.{IsSummary, announced, counted, drill_events, held_in, withdrawn}
use Rattle.nf_session.specs.Follow.{content_after}
use Rattle.nf_session.specs.Sessions.{at_end, followed, inferred}
use Rattle.nf_session.specs.declared.drilling.Summary.{Summary}
use Rattle.nfer_cli.specs.Words.{Asked, Check, Drill, Follow, Infer, standard_input}
use Rattle.nfer_cli.specs.Sources.{sources_of}
use Rattle.nfer_cli.specs.Answers.{Answer, refusal, over_trace, checked, too_long, defines_none, Over, refused, accepted, Defines, Drills, summary_text}
use Rattle.nfer_cli.specs.declared.status.Status.TheVariants as status

-- every specification has an answer
abbrev pub AreSpecified : Type 0
AreSpecified = (sources : List (List ℕ)) (root : Option (List ℕ)) → (answer : Result Compiled SpecFault) × Specifies sources root answer

-- sources within the limit have an answer, which isn't known before all of them are read
within_over : AreSpecified → (sources : List (List ℕ)) (root : Option (List ℕ)) (more : ℕ) (answer_of : Compiled → Answer) → total sources ≤ specification_limit
    → (reads : ℕ) × (answer : Answer) × Over sources root more answer_of reads answer × (length sources ≤ reads)
within_over specified sources root more answer_of fits = by (specified sources root).0 (specified sources root).1
  where
    by : (found : Result Compiled SpecFault) → Specifies sources root found → (reads : ℕ) × (answer : Answer) × Over sources root more answer_of reads answer × (length sources ≤ reads)
    by (Ok made) defined = (more + length sources, answer_of made, accepted fits defined, omega arith)
    by (Err why) defined = (length sources, refusal (status.Specification why), refused (defines_none fits defined), omega arith)

-- there is an answer
pub some_over : AreSpecified → (sources : List (List ℕ)) (root : Option (List ℕ)) (more : ℕ) (answer_of : Compiled → Answer) → (reads : ℕ) × (answer : Answer) × Over sources root more answer_of reads answer
some_over specified sources root more answer_of = elim (passed_or_within specification_limit sources) [
  | inl at ↦ (suc at.0, refusal (status.Specification fault.TooLong), refused (too_long at.1))
  | inr fits ↦ let some = within_over specified sources root more answer_of fits in (some.0, some.1, some.2)
]

-- where the sources before a place are within the limit, there is an answer that isn't known before the one at the place is read
pub later_over : AreSpecified → (sources : List (List ℕ)) (root : Option (List ℕ)) (more : ℕ) (answer_of : Compiled → Answer) (place : ℕ) → place < length sources → total (take place sources) ≤ specification_limit
    → (reads : ℕ) × (answer : Answer) × Over sources root more answer_of reads answer × (place < reads)
later_over specified sources root more answer_of place low before = elim (passed_or_within specification_limit sources) [
  | inl at ↦ (suc at.0, refusal (status.Specification fault.TooLong), refused (too_long at.1), omega (arith, not_passed_before specification_limit sources place at.0 before at.1))
  | inr fits ↦ let some = within_over specified sources root more answer_of fits in (some.0, some.1, some.2, omega (arith, some.3))
]

-- there is a plan of `drill`
abbrev pub IsPlanned : Type 0
IsPlanned = (plan : Plan) × IsDrillPlan plan

-- what is counted over made lines
some_summary : (plan : Plan) (lines : ℕ) → (summary : Summary) × IsSummary plan false lines summary
some_summary plan lines =
    let events = drill_events lines in
    let summary : Summary = record {
      lines = lines;
      additions = counted (announced plan false events);
      withdrawals = counted (withdrawn plan false events);
      held = counted (held_in (content_after plan false events));
    } in
    (summary, record { lines_are = refl; additions_are = refl; withdrawals_are = refl; held_are = refl })

-- the answer by what was counted
pub drill_answer : (lines : ℕ) (plan : Plan) (summary : Summary) → IsDrillPlan plan → IsSummary plan false lines summary → (answer : Answer) × Drills lines answer × (answer.output.text ≡ summary_text summary)
drill_answer lines plan summary planned counts =
    (record { output = at_end (summary_text summary); status = status.Done }, record { plan = plan; planned = planned; summary = summary; counts = counts; answer_is = refl }, refl)

-- `drill` has an answer
pub some_drill : IsPlanned → (lines : ℕ) → (answer : Answer) × Drills lines answer
some_drill planned lines =
    let counts = some_summary planned.0 lines in
    let found = drill_answer lines planned.0 counts.0 planned.1 counts.1 in
    (found.0, found.1)

-- every question has a defined answer
pub some_answer : AreSpecified → IsPlanned → (asked : Option Asked) (files : Files) → (reads : ℕ) × (answer : Answer) × Defines asked files reads answer
some_answer specified planned None files = (0, refusal status.Usage, (refl, refl))
some_answer specified planned (Some (Check options names)) files = some_over specified (sources_of files names) options.root 0 checked
some_answer specified planned (Some (Follow options names)) files = some_over specified (sources_of files names) options.root 1 (over_trace followed options (bytes_of files standard_input))
some_answer specified planned (Some (Infer options names trace)) files = some_over specified (sources_of files names) options.root 1 (over_trace inferred options (bytes_of files trace))
some_answer specified planned (Some (Drill lines)) files = let found = some_drill planned lines in (0, found.0, (refl, found.1))
