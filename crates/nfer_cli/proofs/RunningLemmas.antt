-- How a session that a command names ran, from picking its trace and from how the session ended.
use Rattle.std.proofs.Common.{◌≡◌, ℕ, ◌≤◌, Bool, true, false, List, [], Option, Some, None, Result, Ok, Err, refl, sym, ap, subst, ◌∙◌, inl, inr}
use Rattle.std.specs.Prelude.{IfSome}
use Rattle.std.proofs.lemmas.Option.{IfSome_then}
use Rattle.nf_core.specs.Plan.{Plan}
use Rattle.nf_io.specs.Causes.{Rose}
use Rattle.nf_io.specs.Files.{Files, asked_of, bytes_of}
use Rattle.nf_io.specs.Tells.{ShelfTells, SinkTells}
use Rattle.nf_io.proofs.Public.{later-then_Rose}
use Rattle.nf_line.specs.Trace.{Done, trace}
use Rattle.nf_session.specs.Sessions.{Ends, HasCauses}
use Rattle.nf_session.specs.declared.fault.SessionEnd.{SessionEnd}
use Rattle.nf_session.specs.declared.fault.SessionEnd.TheVariants as end
use Rattle.nfer_cli.specs.inner.Running.{Runs, WritesLast, output_by, trace_by}
use Rattle.nfer_cli.specs.declared.running.Session.{Session}
use Rattle.nfer_cli.specs.declared.running.Session.TheVariants as session
use Rattle.nfer_cli.proofs.AnswerLemmas.{runs_unbegun, runs_unpicked, session_ends}

-- what holds whatever the files are
pub always : (told : Option Files) (P : Files → Type 0) → ((files : Files) → P files) → IfSome told P
always None P h = tt
always (Some files) P h = h files

-- a session whose write didn't fail, or that follows, has nothing to say of a last write
last_calm : (s : Session) (result : Result (Unit {0}) SessionEnd) (files : Files) (rest : Option (List ℕ)) → (result ≡ Err end.WriteFault → ⊥) → WritesLast s result files rest
last_calm session.Follow result files rest calm = λ options names place. tt
last_calm (session.Infer trace) (Ok done) files rest calm = λ options names place. tt
last_calm (session.Infer trace) (Err (end.Trace fault)) files rest calm = λ options names place. tt
last_calm (session.Infer trace) (Err end.ReadFault) files rest calm = λ options names place. tt
last_calm (session.Infer trace) (Err end.WriteFault) files rest calm = absurd (calm refl)
last_calm (session.Infer trace) (Err end.NoMemory) files rest calm = λ options names place. tt

-- a trace that follows has nothing to say of a last write
pub follow_last : (result : Result (Unit {0}) SessionEnd) (files : Files) (rest : Option (List ℕ)) → WritesLast session.Follow result files rest
follow_last result files rest = λ options names place. tt

-- one that infers wrote once its trace was accepted and read to its end
pub infer_last : (s : Session) (result : Result (Unit {0}) SessionEnd) (files : Files) (rest : Option (List ℕ)) → (result ≡ Err end.WriteFault → ((trace (bytes_of files (trace_by s))).ending ≡ Done) × (rest ≡ Some [])) → WritesLast s result files rest
infer_last session.Follow result files rest last = λ options names place. tt
infer_last (session.Infer trace) (Err end.WriteFault) files rest last = λ options names place. last refl
infer_last (session.Infer trace) (Ok done) files rest last = last_calm (session.Infer trace) (Ok done) files rest (λ is. cc)
infer_last (session.Infer trace) (Err (end.Trace fault)) files rest last = last_calm (session.Infer trace) (Err (end.Trace fault)) files rest (λ is. cc)
infer_last (session.Infer trace) (Err end.ReadFault) files rest last = last_calm (session.Infer trace) (Err end.ReadFault) files rest (λ is. cc)
infer_last (session.Infer trace) (Err end.NoMemory) files rest last = last_calm (session.Infer trace) (Err end.NoMemory) files rest (λ is. cc)

-- memory was wanted before the trace was picked
pub unbegun : (s : Session) (plan : Plan) (full : Bool) (shelf : ShelfTells) (out : SinkTells) → Runs s plan full (Err end.NoMemory) shelf shelf out out
unbegun s plan full shelf out = record {
  over = always shelf.files _ (λ files. runs_unbegun s plan full (bytes_of files (trace_by s)) shelf.rest out.taken);
  last = always shelf.files _ (λ files. last_calm s (Err end.NoMemory) files shelf.rest (λ is. cc));
  asks = always shelf.files _ (λ files. inr (refl, refl));
  read_fault = λ is. absurd cc;
  failed = λ calm. calm;
  write_fault = λ is. absurd cc;
  files = refl;
}

-- the trace couldn't be picked
pub unpicked : (s : Session) (plan : Plan) (full : Bool) (shelf now : ShelfTells) (out : SinkTells) → now.files ≡ shelf.files → IfSome shelf.files (λ files. now.asked ≡ Some (asked_of files (trace_by s)))
    → now.rest ≡ None → now.failed ≡ true → Rose shelf.faults now.faults → Runs s plan full (Err end.ReadFault) shelf now out out
unpicked s plan full shelf now out same asked none failed rose = record {
  over = always shelf.files _ (λ files. runs_unpicked s plan full (bytes_of files (trace_by s)) now.rest out.taken none);
  last = always shelf.files _ (λ files. last_calm s (Err end.ReadFault) files now.rest (λ is. cc));
  asks = IfSome_then shelf.files asked (λ files is. inl is);
  read_fault = λ is. record { rose = rose; has_failed = failed; asked_is = asked };
  failed = λ calm. failed;
  write_fault = λ is. absurd cc;
  files = same;
}

-- the session ran over the trace that was picked
pub picked_runs : (s : Session) (plan : Plan) (full : Bool) (result : Result (Unit {0}) SessionEnd) (shelf picked now : ShelfTells) (out out_now : SinkTells) → picked.files ≡ shelf.files → picked.failed ≡ false → shelf.faults ≤ picked.faults
    → IfSome shelf.files (λ files. picked.asked ≡ Some (asked_of files (trace_by s))) → IfSome shelf.files (λ files. picked.rest ≡ Some (bytes_of files (trace_by s)))
    → ((bytes : List ℕ) → picked.rest ≡ Some bytes → Ends (output_by s plan full bytes) bytes result now.rest out.taken out_now.taken)
    → ((files : Files) → picked.rest ≡ Some (bytes_of files (trace_by s)) → WritesLast s result files now.rest)
    → HasCauses result picked now out out_now → Runs s plan full result shelf now out out_now
picked_runs s plan full result shelf picked now out out_now same calm later asked whole ends last causes = record {
  over = IfSome_then shelf.files whole (λ files told place. session_ends (output_by s plan full (bytes_of files (trace_by s))) (bytes_of files (trace_by s)) place result now.rest out.taken out_now.taken (ends (bytes_of files (trace_by s)) told));
  last = IfSome_then shelf.files whole last;
  asks = IfSome_then shelf.files asked (λ files is. inl (causes.asked ∙ is));
  read_fault = λ is. record { rose = later-then_Rose shelf.faults picked.faults now.faults later (causes.read_fault is); has_failed = causes.failed is; asked_is = IfSome_then shelf.files asked (λ files is. causes.asked ∙ is) };
  failed = λ before. causes.only_failed calm;
  write_fault = causes.write_fault;
  files = causes.files ∙ same;
}

-- the same, as the code has the session, its trace's word and the flag
pub picked_as : (s q : Session) → q ≡ s → (plan : Plan) (full was : Bool) → was ≡ full → (name : List ℕ) → name ≡ trace_by q → (result : Result (Unit {0}) SessionEnd) (shelf picked now : ShelfTells) (out out_now : SinkTells)
    → picked.files ≡ shelf.files → picked.failed ≡ false → shelf.faults ≤ picked.faults
    → IfSome shelf.files (λ files. picked.asked ≡ Some (asked_of files name)) → IfSome shelf.files (λ files. picked.rest ≡ Some (bytes_of files name))
    → ((bytes : List ℕ) → picked.rest ≡ Some bytes → Ends (output_by s plan was bytes) bytes result now.rest out.taken out_now.taken)
    → ((files : Files) → picked.rest ≡ Some (bytes_of files (trace_by s)) → WritesLast s result files now.rest)
    → HasCauses result picked now out out_now → Runs q plan full result shelf now out out_now
picked_as s q is plan full was same name named result shelf picked now out out_now files calm later asked whole ends last causes =
    let word : name ≡ trace_by s = named ∙ ap trace_by is in
    let runs = picked_runs s plan was result shelf picked now out out_now files calm later (subst (λ w. IfSome shelf.files (λ files. picked.asked ≡ Some (asked_of files w))) word asked)
    (subst (λ w. IfSome shelf.files (λ files. picked.rest ≡ Some (bytes_of files w))) word whole) ends last causes in
    subst (λ (t : Session). Runs t plan full result shelf now out out_now) (sym is) (subst (λ (f : Bool). Runs s plan f result shelf now out out_now) same runs)
