use Rattle.std.proofs.Common.{◌≡◌, ◌+◌, ◌≤◌, ◌++◌, List, sym, ap, ◌∙◌, subst, arith}
use Rattle.nf_core.specs.Intervals.{Interval}
use Rattle.nf_model.specs.Members.{HaveAllPlaces}
use Rattle.nf_model.specs.Results.{results}
use Rattle.nf_model.specs.Work.{rule_work}
use Rattle.nf_pairs.specs.Deltas.{before}
use Rattle.nf_tally.specs.Numbers.{number, often}
use Rattle.nf_exclude.specs.Exclusions.{Exclude, StandsFor, sides}
use Rattle.nf_exclude.proofs.NetLemmas.{delta_is}
use Rattle.nf_exclude.proofs.exclusions.Exclude.delta.Goals as goal

pub follow-requires-clause-places : goal.follow-requires-clause-places
follow-requires-clause-places g c =
    subst (λ (e : Exclude). HaveAllPlaces e.rule e.rule.link (c.args.first.now ++ c.args.d1.now.gone) (c.args.second.now ++ c.args.d2.now.gone)) (sym c.self.view_is) c.requires.places

pub follow-requires-clause-blockers : goal.follow-requires-clause-blockers
follow-requires-clause-blockers g c =
    let stands : StandsFor (record { rule = c.self.inside.rule; blockers = c.self.inside.blockers; counts = c.self.inside.counts }) (before c.args.d1.now c.args.first.now) (before c.args.d2.now c.args.second.now) =
    subst (λ (e : Exclude). StandsFor e (before c.args.d1.now c.args.first.now) (before c.args.d2.now c.args.second.now)) (sym c.self.view_is) c.requires.stands in
    stands.blockers

pub settle-requires : goal.settle-requires
settle-requires g c =
    let stands : StandsFor (record { rule = c.self.inside.rule; blockers = c.self.inside.blockers; counts = c.self.inside.counts }) (before c.args.d1.now c.args.first.now) (before c.args.d2.now c.args.second.now) =
    subst (λ (e : Exclude). StandsFor e (before c.args.d1.now c.args.first.now) (before c.args.d2.now c.args.second.now)) (sym c.self.view_is) c.requires.stands in
    λ q. (let e : often c.as_slice.result.now q ≡ often c.in_ok-blockers.field-0.lost q = ap (λ (is : List Interval). often is q) c.as_slice.ensures in
    omega (arith, e, stands.counts q, c.in_ok-blockers.ensures.results q))

pub returns-clause-rule : goal.returns-clause-rule
returns-clause-rule g c =
    ap (λ (e : Exclude). e.rule) c.self.view_is

pub returns-clause-stands : goal.returns-clause-stands
returns-clause-stands g c =
    let stands : StandsFor (record { rule = c.self.inside.rule; blockers = c.self.inside.blockers; counts = c.self.inside.counts }) (before c.args.d1.now c.args.first.now) (before c.args.d2.now c.args.second.now) =
    subst (λ (e : Exclude). StandsFor e (before c.args.d1.now c.args.first.now) (before c.args.d2.now c.args.second.now)) (sym c.self.view_is) c.requires.stands in
    let now : (q : Interval) → number c.in_ok-counts.counts q ≡ often (results c.self.inside.rule c.args.first.now c.args.second.now) q =
    λ q. (let e : often c.as_slice.result.now q ≡ often c.in_ok-blockers.field-0.lost q = ap (λ (is : List Interval). often is q) c.as_slice.ensures in
    omega (arith, e, stands.counts q, c.in_ok-blockers.ensures.results q, c.in_ok-counts.ensures.numbers q)) in
    record { blockers = c.in_ok-blockers.ensures.blockers; counts = now }

pub returns-clause-delta : goal.returns-clause-delta
returns-clause-delta g c =
    let stands : StandsFor (record { rule = c.self.inside.rule; blockers = c.self.inside.blockers; counts = c.self.inside.counts }) (before c.args.d1.now c.args.first.now) (before c.args.d2.now c.args.second.now) =
    subst (λ (e : Exclude). StandsFor e (before c.args.d1.now c.args.first.now) (before c.args.d2.now c.args.second.now)) (sym c.self.view_is) c.requires.stands in
    let now : (q : Interval) → number c.in_ok-counts.counts q ≡ often (results c.self.inside.rule c.args.first.now c.args.second.now) q =
    λ q. (let e : often c.as_slice.result.now q ≡ often c.in_ok-blockers.field-0.lost q = ap (λ (is : List Interval). often is q) c.as_slice.ensures in
    omega (arith, e, stands.counts q, c.in_ok-blockers.ensures.results q, c.in_ok-counts.ensures.numbers q)) in
    delta_is (results c.args.self.rule (before c.args.d1.now c.args.first.now) (before c.args.d2.now c.args.second.now)) (results c.args.self.rule c.args.first.now c.args.second.now) (number c.self.inside.counts) (number c.in_ok-counts.counts) c.in_ok-counts.delta
    c.in_ok-counts.ensures.delta (λ q. ap (λ (e : Exclude). number e.counts q) c.self.view_is ∙ c.requires.stands.counts q)
    (λ q. now q ∙ ap (λ (e : Exclude). often (results e.rule c.args.first.now c.args.second.now) q) c.self.view_is)

pub returns-in_err-blockers-clause-cost : goal.returns-in_err-blockers-clause-cost
returns-in_err-blockers-clause-cost g c =
    subst (λ (e : Exclude). c.follow.new.steps ≤ c.args.steps.now + rule_work e.rule (sides (before c.args.d1.now c.args.first.now) (before c.args.d2.now c.args.second.now)) (sides c.args.first.now c.args.second.now)) c.self.view_is c.follow.ensures.cost

pub returns-in_err-counts-clause-cost : goal.returns-in_err-counts-clause-cost
returns-in_err-counts-clause-cost g c =
    subst (λ (e : Exclude). c.follow.new.steps ≤ c.args.steps.now + rule_work e.rule (sides (before c.args.d1.now c.args.first.now) (before c.args.d2.now c.args.second.now)) (sides c.args.first.now c.args.second.now)) c.self.view_is c.follow.ensures.cost

pub returns-clause-cost : goal.returns-clause-cost
returns-clause-cost g c =
    subst (λ (e : Exclude). c.follow.new.steps ≤ c.args.steps.now + rule_work e.rule (sides (before c.args.d1.now c.args.first.now) (before c.args.d2.now c.args.second.now)) (sides c.args.first.now c.args.second.now)) c.self.view_is c.follow.ensures.cost
