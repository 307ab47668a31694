use Rattle.std.proofs.Common.{◌≡◌, ◌+◌, ◌/◌, ◌^◌, ℕ, Some, None, sym, ◌∙◌, ap, position, bytes_eq, arith, subst, false}
use Rattle.nf_core.specs.Plan.{Plan, is_wide}
use Rattle.nf_session.specs.Drill.{drill_bits, drill_name_of}
use Rattle.nf_session.proofs.DrillLemmas.{drilled_none, drilled_some, no_bar, work_grows, work_some}
use Rattle.nf_session.proofs.EnteringLemmas.{narrow_name}
use Rattle.nf_session.proofs.drilling.Drilled.enter_next.Goals as goal

pub returns-in_err-interval-in-Some-clause-work : goal.returns-in_err-interval-in-Some-clause-work
returns-in_err-interval-in-Some-clause-work g c = λ full i was thrifty. omega (arith, work_grows c.args.plan.now full i)

pub step-requires-clause-narrow : goal.step-requires-clause-narrow
step-requires-clause-narrow g c =
    let found : Some c.in-Some.name ≡ position (bytes_eq (drill_name_of c.bits-bits.result)) c.args.plan.now.names = sym c.in-Some.is ∙ c.by_bits.ensures c.args.plan.now c.requires.names in
    subst (λ (p : Plan). is_wide p c.in-Some.name ≡ false) (sym c.requires.plan) (narrow_name c.args.plan.now (drill_name_of c.bits-bits.result) c.in-Some.name found (no_bar c.bits-bits.result))

pub returns-in_err-inferer-in-Some-clause-work : goal.returns-in_err-inferer-in-Some-clause-work
returns-in_err-inferer-in-Some-clause-work g c = λ full i was thrifty.
    let stands = c.next-maker.ensures i was.stands in
    let bits : c.bits-bits.result ≡ drill_bits (i + 1) = c.bits-bits.ensures ∙ ap (λ n. n / 2 ^ 60) stands.number_is in
    let found : position (bytes_eq (drill_name_of (drill_bits (i + 1)))) c.args.plan.now.names ≡ Some c.in-Some.name =
    ap (λ b. position (bytes_eq (drill_name_of b)) c.args.plan.now.names) (sym bits) ∙ sym (c.by_bits.ensures c.args.plan.now c.requires.names) ∙ c.in-Some.is in
    work_some c.args.plan.now full i (g.I.Inferer.content c.args.self.inferer) c.args.self.maker c.next-maker.result c.args.self.counts was stands c.requires.plan
    c.in-Some.name found c.in_ok-interval-in-Some.interval (c.in_ok-interval-in-Some.ensures.made (i + 1) stands) c.args.steps.now c.step.new.steps (c.step.ensures.work thrifty)

pub returns-in-None-clause-drilled : goal.returns-in-None-clause-drilled
returns-in-None-clause-drilled g c = λ full i was.
    let stands = c.next-maker.ensures i was.stands in
    let bits : c.bits-bits.result ≡ drill_bits (i + 1) = c.bits-bits.ensures ∙ ap (λ n. n / 2 ^ 60) stands.number_is in
    let found : position (bytes_eq (drill_name_of (drill_bits (i + 1)))) c.args.plan.now.names ≡ None =
    ap (λ b. position (bytes_eq (drill_name_of b)) c.args.plan.now.names) (sym bits) ∙ sym (c.by_bits.ensures c.args.plan.now c.requires.names) ∙ c.in-None.is in
    drilled_none c.args.plan.now full i (g.I.Inferer.content c.args.self.inferer) c.args.self.maker c.next-maker.result c.args.self.counts was stands c.requires.plan found

pub returns-in-None-clause-work : goal.returns-in-None-clause-work
returns-in-None-clause-work g c = λ full i was thrifty. omega (arith, work_grows c.args.plan.now full i)

pub returns-in_ok-inferer-in-Some-clause-drilled :
    goal.returns-in_ok-inferer-in-Some-clause-drilled
returns-in_ok-inferer-in-Some-clause-drilled g c = λ full i was.
    let stands = c.next-maker.ensures i was.stands in
    let bits : c.bits-bits.result ≡ drill_bits (i + 1) = c.bits-bits.ensures ∙ ap (λ n. n / 2 ^ 60) stands.number_is in
    let found : position (bytes_eq (drill_name_of (drill_bits (i + 1)))) c.args.plan.now.names ≡ Some c.in-Some.name =
    ap (λ b. position (bytes_eq (drill_name_of b)) c.args.plan.now.names) (sym bits) ∙ sym (c.by_bits.ensures c.args.plan.now c.requires.names) ∙ c.in-Some.is in
    drilled_some c.args.plan.now full i (g.I.Inferer.content c.args.self.inferer) c.args.self.maker c.next-maker.result c.args.self.counts was stands c.requires.plan
    c.in-Some.name found c.in_ok-interval-in-Some.interval (c.in_ok-interval-in-Some.ensures.made (i + 1) stands)
    (g.I.Inferer.content c.in_ok-inferer-in-Some.inferer) c.in_ok-inferer-in-Some.change c.with.result c.in_ok-inferer-in-Some.ensures.content c.in_ok-inferer-in-Some.ensures.change
    c.with.ensures.additions c.with.ensures.withdrawals

pub returns-in_ok-inferer-in-Some-clause-work : goal.returns-in_ok-inferer-in-Some-clause-work
returns-in_ok-inferer-in-Some-clause-work g c = λ full i was thrifty.
    let stands = c.next-maker.ensures i was.stands in
    let bits : c.bits-bits.result ≡ drill_bits (i + 1) = c.bits-bits.ensures ∙ ap (λ n. n / 2 ^ 60) stands.number_is in
    let found : position (bytes_eq (drill_name_of (drill_bits (i + 1)))) c.args.plan.now.names ≡ Some c.in-Some.name =
    ap (λ b. position (bytes_eq (drill_name_of b)) c.args.plan.now.names) (sym bits) ∙ sym (c.by_bits.ensures c.args.plan.now c.requires.names) ∙ c.in-Some.is in
    work_some c.args.plan.now full i (g.I.Inferer.content c.args.self.inferer) c.args.self.maker c.next-maker.result c.args.self.counts was stands c.requires.plan
    c.in-Some.name found c.in_ok-interval-in-Some.interval (c.in_ok-interval-in-Some.ensures.made (i + 1) stands) c.args.steps.now c.step.new.steps (c.step.ensures.work thrifty)
