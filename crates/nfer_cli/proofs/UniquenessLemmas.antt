-- No question has two defined answers.
use Rattle.std.proofs.Common.{◌≡◌, ℕ, suc, false, List, arith, refl, ap, sym, ◌∙◌, subst, Option, Some, None, Result, Ok, Err}
use Rattle.nf_core.specs.Plan.{Plan}
use Rattle.nf_drill.specs.Rules.{IsDrillPlan}
use Rattle.nf_io.specs.Files.{Files, bytes_of}
use Rattle.nf_spec.specs.Sources.{specification_limit}
use Rattle.nf_spec.proofs.Public.PassedLimitLemmas.{one_place, passed_over}
use Rattle.nf_spec.specs.Specification.{Specifies}
use Rattle.nf_spec.specs.declared.compiling.Compiled.{Compiled}
use Rattle.nf_spec.specs.declared.fault.SpecFault.{SpecFault}
use Rattle.nf_session.specs.Drill.{IsSummary}
use Rattle.nf_session.specs.Sessions.{at_end, followed, inferred}
use Rattle.nf_session.specs.declared.drilling.Summary.{Summary}
use Rattle.nfer_cli.specs.Words.{Asked, Check, Drill, Follow, Infer, standard_input}
use Rattle.nfer_cli.specs.Sources.{sources_of}
use Rattle.nfer_cli.specs.Answers.{Answer, refusal, over_trace, checked, Refuses, too_long, defines_none, Over, refused, accepted, Defines, Drills, summary_text}
use Rattle.nfer_cli.specs.declared.status.Status.TheVariants as status

-- two answers to a specification are the same
abbrev pub AreOne : Type 0
AreOne = (sources : List (List ℕ)) (root : Option (List ℕ)) (a b : Result Compiled SpecFault) → Specifies sources root a → Specifies sources root b → a ≡ b

-- sources are refused after as many files, for the same
one_refusal : AreOne → (sources : List (List ℕ)) (root : Option (List ℕ)) (m n : ℕ) (why other : SpecFault) → Refuses sources root m why → Refuses sources root n other → (m ≡ n) × (why ≡ other)
one_refusal one sources root m n why other (too_long {place} e) (too_long {place = at} f) = (ap suc (one_place specification_limit sources place at e f), refl)
one_refusal one sources root m n why other (too_long {place} e) (defines_none f q) = absurd (omega (arith, passed_over specification_limit sources place e, f))
one_refusal one sources root m n why other (defines_none e p) (too_long {place} f) = absurd (omega (arith, passed_over specification_limit sources place f, e))
one_refusal one sources root m n why other (defines_none e p) (defines_none f q) = let found = one sources root (Err why) (Err other) p q in (refl, cc)

-- the answer over sources is one, known after as many files
one_over : AreOne → (sources : List (List ℕ)) (root : Option (List ℕ)) (more : ℕ) (answer_of : Compiled → Answer) (m n : ℕ) (a b : Answer) → Over sources root more answer_of m a → Over sources root more answer_of n b → (m ≡ n) × (a ≡ b)
one_over one sources root more answer_of m n a b (refused {why} r) (refused {why = other} s) =
    let same = one_refusal one sources root m n why other r s in
    (same.0, ap (λ (w : SpecFault). refusal (status.Specification w)) same.1)
one_over one sources root more answer_of m n a b (refused (too_long {place} e)) (accepted f q) = absurd (omega (arith, passed_over specification_limit sources place e, f))
one_over one sources root more answer_of m n a b (refused (defines_none {why} e p)) (accepted {made} f q) = let found = one sources root (Err why) (Ok made) p q in absurd cc
one_over one sources root more answer_of m n a b (accepted e p) (refused (too_long {place} f)) = absurd (omega (arith, passed_over specification_limit sources place f, e))
one_over one sources root more answer_of m n a b (accepted {made} e p) (refused (defines_none {why} f q)) = let found = one sources root (Ok made) (Err why) p q in absurd cc
one_over one sources root more answer_of m n a b (accepted {made} e p) (accepted {made = other} f q) =
    let found = one sources root (Ok made) (Ok other) p q in
    let same : made ≡ other = cc in
    (refl, ap answer_of same)

-- there is one plan of `drill` at most
abbrev pub IsOnePlan : Type 0
IsOnePlan = (a b : Plan) → IsDrillPlan a → IsDrillPlan b → a ≡ b

-- what is counted over made lines is one
one_summary : (plan : Plan) (lines : ℕ) (a b : Summary) → IsSummary plan false lines a → IsSummary plan false lines b → a ≡ b
one_summary plan lines a b is_a is_b =
    let same_lines : a.lines ≡ b.lines = is_a.lines_are ∙ sym is_b.lines_are in
    let same_additions : a.additions ≡ b.additions = is_a.additions_are ∙ sym is_b.additions_are in
    let same_withdrawals : a.withdrawals ≡ b.withdrawals = is_a.withdrawals_are ∙ sym is_b.withdrawals_are in
    let same_held : a.held ≡ b.held = is_a.held_are ∙ sym is_b.held_are in
    λ i. record { lines = same_lines i; additions = same_additions i; withdrawals = same_withdrawals i; held = same_held i }

-- the answer of `drill` is one
one_drill : IsOnePlan → (lines : ℕ) (a b : Answer) → Drills lines a → Drills lines b → a ≡ b
one_drill plan lines a b is_a is_b =
    let counts : IsSummary is_b.plan false lines is_a.summary = subst (λ (p : Plan). IsSummary p false lines is_a.summary) (plan is_a.plan is_b.plan is_a.planned is_b.planned) is_a.counts in
    is_a.answer_is ∙ ap (λ (s : Summary). record { output = at_end (summary_text s); status = status.Done }) (one_summary is_b.plan lines is_a.summary is_b.summary counts is_b.counts) ∙ sym is_b.answer_is

-- no question has two defined answers
pub one_answer : AreOne → IsOnePlan → (asked : Option Asked) (files : Files) (m n : ℕ) (a b : Answer) → Defines asked files m a → Defines asked files n b → (m ≡ n) × (a ≡ b)
one_answer one plan None files m n a b is_a is_b = (is_a.0 ∙ sym is_b.0, is_a.1 ∙ sym is_b.1)
one_answer one plan (Some (Check options names)) files m n a b is_a is_b = one_over one (sources_of files names) options.root 0 checked m n a b is_a is_b
one_answer one plan (Some (Follow options names)) files m n a b is_a is_b = one_over one (sources_of files names) options.root 1 (over_trace followed options (bytes_of files standard_input)) m n a b is_a is_b
one_answer one plan (Some (Infer options names trace)) files m n a b is_a is_b = one_over one (sources_of files names) options.root 1 (over_trace inferred options (bytes_of files trace)) m n a b is_a is_b
one_answer one plan (Some (Drill lines)) files m n a b is_a is_b = (is_a.0 ∙ sym is_b.0, one_drill plan lines a b is_a.1 is_b.1)
