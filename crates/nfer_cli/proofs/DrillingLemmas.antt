-- How counting over a made trace ends, as the end of a command.
use Rattle.std.proofs.Common.{◌≡◌, ℕ, ◌+◌, ◌≤◌, Bool, false, List, [], refl, sym, ◌∙◌, ap, subst, inl, arith, Some, IfSome, Result, Ok, Err}
use Rattle.nf_core.specs.Plan.{Plan}
use Rattle.nf_drill.specs.Rules.{IsDrillPlan}
use Rattle.nf_io.specs.Files.{Files}
use Rattle.nf_io.specs.Causes.{Rose}
use Rattle.nf_io.specs.Tells.{ShelfTells, SinkTells}
use Rattle.nf_io.proofs.Public.{Took-none}
use Rattle.nf_session.specs.Costs.{work_of}
use Rattle.nf_session.specs.Drill.{IsSummary, drill_events}
use Rattle.nf_session.specs.declared.drilling.Summary.{Summary}
use Rattle.nfer_cli.specs.Answers.{Answer, Answers, CannotReadAt, Drills, EndsFor, IfReadFault, summary_text}
use Rattle.nfer_cli.specs.Calls.{CarriesOut}
use Rattle.nfer_cli.specs.Words.{Drill}
use Rattle.nfer_cli.specs.inner.Ended.{Prints}
use Rattle.nfer_cli.specs.inner.Failures.{concluded}
use Rattle.nfer_cli.specs.declared.fault.Failure.{Failure}
use Rattle.nfer_cli.specs.declared.fault.Failure.TheVariants as failure
use Rattle.nfer_cli.specs.declared.status.Status.{Status}
use Rattle.nfer_cli.specs.declared.status.Status.TheVariants as status
use Rattle.nfer_cli.proofs.AnswerLemmas.{printed_ends, printed_writes}
use Rattle.nfer_cli.proofs.CallLemmas.{completes, never_usage}
use Rattle.nfer_cli.proofs.ExistenceLemmas.{IsPlanned, drill_answer, some_drill}
use Rattle.nfer_cli.proofs.RunningLemmas.{always}
use Rattle.nfer_cli.proofs.UniquenessLemmas.{IsOnePlan}

-- printing is no usage, its faults are none of reading, and one of writing has its cause
never_used : (result : Result (Unit {0}) Failure) → concluded result ≡ status.Usage → ⊥
never_used (Ok done) is = cc
never_used (Err why) is = never_usage why is

never_unread : (text : List ℕ) (result : Result (Unit {0}) Failure) (out out_now : SinkTells) (P : ℕ → Type 0) → Prints text result out out_now → IfReadFault (concluded result) P
never_unread text (Ok done) out out_now P prints = tt
never_unread text (Err failure.Write) out out_now P prints = tt
never_unread text (Err failure.NoMemory) out out_now P prints = tt
never_unread text (Err other) out out_now P prints = absurd prints

printed_cause : (text : List ℕ) (result : Result (Unit {0}) Failure) (out out_now : SinkTells) → Prints text result out out_now → concluded result ≡ status.WriteFault → Rose out.faults out_now.faults
printed_cause text (Ok done) out out_now prints is = absurd cc
printed_cause text (Err failure.Write) out out_now prints is = prints.1
printed_cause text (Err failure.NoMemory) out out_now prints is = absurd cc
printed_cause text (Err other) out out_now prints is = absurd prints

answers_drilled : (lines : ℕ) (answer : Answer) (files : Files) (result : Result (Unit {0}) Failure) (shelf : ShelfTells) (out out_now : SinkTells) → Drills lines answer → Prints answer.output.text result out out_now
    → Answers (Some (Drill lines)) files (concluded result) shelf.rest out.taken out_now.taken
answers_drilled lines answer files result shelf out out_now drills prints = record {
  reads = 0;
  answer = answer;
  defined = (refl, drills);
  ends = subst (λ (s : Status). EndsFor 0 (concluded result) s) (sym (ap (λ (a : Answer). a.status) drills.answer_is)) (printed_ends answer.output.text result 0 out out_now prints);
  writes = printed_writes answer.output.text result out out_now prints;
}

-- what was counted was printed, or writing it failed
pub drill_printed : (lines : ℕ) (answer : Answer) (result : Result (Unit {0}) Failure) (shelf : ShelfTells) (out out_now : SinkTells) → Drills lines answer → Prints answer.output.text result out out_now
    → CarriesOut (Some (Drill lines)) (concluded result) shelf shelf out out_now
drill_printed lines answer result shelf out out_now drills prints =
    let text = answer.output.text in
    let answered : IfSome shelf.files (λ files. Answers (Some (Drill lines)) files (concluded result) shelf.rest out.taken out_now.taken) = always shelf.files _ (λ files. answers_drilled lines answer files result shelf out out_now drills prints) in
    let unread = never_unread text result out out_now (λ place. CannotReadAt [] place shelf shelf) prints in
    record {
      usage = (λ is. absurd (never_used result is), λ none. cc);
      answer = answered;
      reads = always shelf.files _ (λ files. (refl, refl));
      asks = always shelf.files _ (λ files. inl refl);
      read_fault = unread;
      failed = λ some. absurd (omega arith);
      write_fault = printed_cause text result out out_now prints;
      written_last = always shelf.files _ (λ files. tt);
      replayed = always shelf.files _ (λ files. tt);
      unread = never_unread text result out out_now _ prints;
      completes = completes (Some (Drill lines)) (concluded result) [] shelf shelf out out_now answered unread (printed_cause text result out out_now prints);
      untouched = λ none. refl;
    }

-- memory was wanted before anything was written
pub drill_wanted : IsPlanned → (lines : ℕ) (shelf : ShelfTells) (out : SinkTells) → CarriesOut (Some (Drill lines)) status.NoMemory shelf shelf out out
drill_wanted planned lines shelf out =
    let found = some_drill planned lines in
    drill_printed lines found.0 (Err failure.NoMemory) shelf out out found.1 (Took-none out.taken)

-- what was counted under the plan, by minimality, was printed, or writing it failed
pub drill_counted : (lines : ℕ) (plan : Plan) (was : Bool) → was ≡ false → (summary : Summary) (text : List ℕ) (result : Result (Unit {0}) Failure) (shelf : ShelfTells) (out out_now : SinkTells) → IsDrillPlan plan → IsSummary plan was lines summary
    → text ≡ summary_text summary → Prints text result out out_now → CarriesOut (Some (Drill lines)) (concluded result) shelf shelf out out_now
drill_counted lines plan was least summary text result shelf out out_now planned counts is prints =
    let found = drill_answer lines plan summary planned (subst (λ (f : Bool). IsSummary plan f lines summary) least counts) in
    drill_printed lines found.0 result shelf out out_now found.1 (subst (λ (t : List ℕ). Prints t result out out_now) (is ∙ sym found.2) prints)

-- what was evaluated under the plan is what may be evaluated under any plan of `drill`
pub drill_evaluates : IsOnePlan → (lines : ℕ) (plan : Plan) (was : Bool) → was ≡ false → (before now : ℕ) → IsDrillPlan plan → now ≤ before + work_of plan was (drill_events lines)
    → (other : Plan) → IsDrillPlan other → now ≤ before + work_of other false (drill_events lines)
drill_evaluates one lines plan was least before now planned work other is =
    subst (λ (p : Plan). now ≤ before + work_of p false (drill_events lines)) (one plan other planned is)
    (subst (λ (f : Bool). now ≤ before + work_of plan f (drill_events lines)) least work)
