use Rattle.std.proofs.Common.{◌≡◌, ◌+◌, ℤ, [], Some, None, ap, subst, sym, ◌∙◌, rules, arith}
use Rattle.std.specs.Prelude.{IsSome, IfSome}
use Rattle.std.proofs.lemmas.Grind.{common_steps}
use Rattle.nf_line.specs.Line.{line_within}
use Rattle.nf_line.specs.Readings.{trace_fault_of}
use Rattle.nf_line.specs.Trace.{fallen, Refused}
use Rattle.nf_session.specs.inner.Progress.{IsRefused}
use Rattle.nf_session.proofs.ReadLineLemmas.{empty_leads, accepted_leads, falls_refused, faulty_refused}
use Rattle.nf_session.proofs.reading.read_line.Goals as goal

pub returns-then-is_empty-clause-leads : goal.returns-then-is_empty-clause-leads
returns-then-is_empty-clause-leads c =
    let none : c.args.line.now ≡ [] = grind (arith, common_steps) in
    empty_leads _ _ c.args.line.now none

pub returns-in_err-check_order-in-Ok-clause-refused : goal.returns-in_err-check_order-in-Ok-clause-refused
returns-in_err-check_order-in-Ok-clause-refused c =
    let number = c.args.place.lines + 1 in
    let last = c.args.place.last in
    let fault = c.in_err-check_order-in-Ok.field-0.0 in
    let some : IsSome (fallen last c.time-time.result) = search rules in
    let named : IfSome (fallen last c.time-time.result) (λ why. trace_fault_of (Refused number why) ≡ Some fault) = search rules in
    let refused : IsRefused number last (line_within c.args.line.now) fault =
    falls_refused number last _ c.in-Ok.raw c.in-Ok.ensures.line fault (subst (λ (t : ℤ). IsSome (fallen last t)) c.time-time.ensures some)
    (subst (λ (t : ℤ). IfSome (fallen last t) (λ why. trace_fault_of (Refused number why) ≡ Some fault)) c.time-time.ensures named) in
    search (rules, refused)

pub returns-in_ok-check_order-in-Ok-clause-leads : goal.returns-in_ok-check_order-in-Ok-clause-leads
returns-in_ok-check_order-in-Ok-clause-leads c =
    let last = c.args.place.last in
    let stays : fallen last c.time-time.result ≡ None = search rules in
    accepted_leads _ last _ c.in-Ok.raw c.in-Ok.ensures.line (ap (fallen last) (sym c.time-time.ensures) ∙ stays)

pub returns-in-Err-clause-refused : goal.returns-in-Err-clause-refused
returns-in-Err-clause-refused c = faulty_refused _ _ _ c.in-Err.fault c.in-Err.ensures.line
