-- How many expressions a session evaluated, as a command.
use Rattle.std.proofs.Common.{◌≡◌, ℕ, ◌+◌, ◌≤◌, Bool, List, Option, Some, None, Ok, Err, IfSome, refl, subst, arith}
use Rattle.std.proofs.lemmas.Option.{IfSome_then}
use Rattle.nf_core.specs.Plan.{Plan}
use Rattle.nf_io.specs.Files.{Files, bytes_of}
use Rattle.nf_io.specs.Tells.{ShelfTells}
use Rattle.nf_line.specs.Trace.{trace}
use Rattle.nf_session.specs.Costs.{work_of}
use Rattle.nf_spec.specs.declared.compiling.Compiled.{Compiled}
use Rattle.nfer_cli.specs.Evaluating.{EvaluatesWithin, KeepsToTrace}
use Rattle.nfer_cli.specs.Sources.{sources_of}
use Rattle.nfer_cli.specs.Words.{Options}
use Rattle.nfer_cli.specs.inner.Running.{KeepsToLines, session_asks, trace_by}
use Rattle.nfer_cli.specs.inner.Specified.{Accepts, IsAccepted}
use Rattle.nfer_cli.specs.declared.running.Session.{Session}
use Rattle.nfer_cli.specs.declared.running.Session.TheVariants as session
use Rattle.nfer_cli.proofs.RunningLemmas.{always}
use Rattle.nfer_cli.proofs.UniquenessLemmas.{AreOne}

-- nothing was evaluated
pub none_evaluated : (s : Session) (plan : Plan) (full : Bool) (count : ℕ) (told : Option Files) → IfSome told (KeepsToLines s plan full count count)
none_evaluated s plan full count told = always told (KeepsToLines s plan full count count) (λ files. omega arith)

-- what was evaluated over the trace that was picked, as the code has its word and the flag
pub lines_evaluated : (s : Session) (plan : Plan) (full was : Bool) → was ≡ full → (name : List ℕ) → name ≡ trace_by s → (before now : ℕ) (shelf picked : ShelfTells)
    → IfSome shelf.files (λ files. picked.rest ≡ Some (bytes_of files name)) → ((bytes : List ℕ) → picked.rest ≡ Some bytes → now ≤ before + work_of plan was (trace bytes).events)
    → IfSome shelf.files (KeepsToLines s plan full before now)
lines_evaluated s plan full was same name named before now shelf picked whole work =
    IfSome_then shelf.files whole (λ files told.
    subst (λ (n : List ℕ). now ≤ before + work_of plan full (trace (bytes_of files n)).events) named
    (subst (λ (f : Bool). now ≤ before + work_of plan f (trace (bytes_of files name)).events) same (work (bytes_of files name) told)))

-- what was evaluated over its trace is what may be evaluated for what is asked
keeps_to : (s : Session) (options : Options) (names : List (List ℕ)) (files : Files) (before now : ℕ) → KeepsToTrace options names (bytes_of files (trace_by s)) files before now → EvaluatesWithin (Some (session_asks s options names)) files before now
keeps_to session.Follow options names files before now keeps = keeps
keeps_to (session.Infer trace) options names files before now keeps = keeps

-- where a specification isn't compiled nothing is evaluated
pub unrun_evaluates : (s : Session) (options : Options) (names : List (List ℕ)) (count : ℕ) (told : Option Files) → IfSome told (λ files. EvaluatesWithin (Some (session_asks s options names)) files count count)
unrun_evaluates s options names count told =
    always told (λ files. EvaluatesWithin (Some (session_asks s options names)) files count count) (λ files. keeps_to s options names files count count (record { accepted = λ made is. omega arith; refused = λ why is. refl }))

-- a session ran under what a specification is compiled to
pub ran_evaluates : AreOne → (s : Session) (options : Options) (names : List (List ℕ)) (made : Compiled) (before now : ℕ) (shelf middle : ShelfTells) → middle.files ≡ shelf.files → Accepts shelf names options.root made
    → IfSome middle.files (KeepsToLines s made.plan options.full before now) → IfSome shelf.files (λ files. EvaluatesWithin (Some (session_asks s options names)) files before now)
ran_evaluates one s options names made before now shelf middle same accepts keeps =
    by shelf.files accepts (subst (λ (t : Option Files). IfSome t (KeepsToLines s made.plan options.full before now)) same keeps)
  where
    by : (told : Option Files) → IfSome told (λ files. IsAccepted (sources_of files names) options.root made) → IfSome told (KeepsToLines s made.plan options.full before now)
        → IfSome told (λ files. EvaluatesWithin (Some (session_asks s options names)) files before now)
    by None accepted keeps = tt
    by (Some files) accepted keeps = keeps_to s options names files before now (record {
      accepted = λ other is.
          let found = one (sources_of files names) options.root (Ok made) (Ok other) accepted.defined is in
          let same : made ≡ other = cc in
          subst (λ (m : Compiled). now ≤ before + work_of m.plan options.full (trace (bytes_of files (trace_by s))).events) same keeps;
      refused = λ why is. let found = one (sources_of files names) options.root (Ok made) (Err why) accepted.defined is in absurd cc;
    })
