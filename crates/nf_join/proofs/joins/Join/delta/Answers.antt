use Rattle.std.proofs.Common.{◌≡◌, ◌+◌, List, ap, sym, subst, ◌∙◌, arith}
use Rattle.nf_core.specs.Intervals.{Interval}
use Rattle.nf_core.specs.Sets.{once}
use Rattle.nf_model.specs.Results.{results}
use Rattle.nf_model.specs.Changes.{delta_of}
use Rattle.nf_pairs.specs.Deltas.{before}
use Rattle.nf_tally.specs.Numbers.{number, often}
use Rattle.nf_join.specs.Joins.{Join, StandsFor}
use Rattle.nf_join.proofs.JoinLemmas.{enough, delta_is}
use Rattle.nf_join.proofs.joins.Join.delta.Goals as goal

pub settle-requires : goal.settle-requires
settle-requires g c =
    let stood = subst (λ (j : Join). StandsFor j (before c.args.d1.now c.args.first.now) (before c.args.d2.now c.args.second.now)) (sym c.self.view_is) c.requires.stands in
    let lost : c.as_slice.result.now ≡ c.in_ok-lost.field-0.lost = cc in
    λ q.
    let there = enough c.self.inside.rule c.args.first.now c.args.second.now c.args.d1.now c.args.d2.now c.in_ok-lost.field-0.lost c.in_ok-lost.field-0.found
    c.in_ok-lost.ensures.exchanged c.self.inside.counts stood q in
    let same = ap (λ (is : List Interval). often is q) lost in
    omega arith

pub returns-clause-delta : goal.returns-clause-delta
returns-clause-delta g c =
    let stood = subst (λ (j : Join). StandsFor j (before c.args.d1.now c.args.first.now) (before c.args.d2.now c.args.second.now)) (sym c.self.view_is) c.requires.stands in
    let lost : c.as_slice.result.now ≡ c.in_ok-lost.field-0.lost = cc in
    let is = delta_is c.self.inside.rule c.args.first.now c.args.second.now c.args.d1.now c.args.d2.now c.in_ok-lost.field-0.lost c.in_ok-lost.field-0.found
    c.in_ok-lost.ensures.exchanged c.self.inside.counts stood c.in_ok-counts.counts
    (λ q. ap (λ (is : List Interval). number c.in_ok-counts.counts q + often is q) (sym lost) ∙ c.in_ok-counts.ensures.numbers q) c.in_ok-counts.delta c.in_ok-counts.ensures.delta in
    subst (λ (j : Join). c.in_ok-counts.delta ≡ delta_of (once (results j.rule (before c.args.d1.now c.args.first.now) (before c.args.d2.now c.args.second.now))) (once (results j.rule c.args.first.now c.args.second.now)))
    c.self.view_is is
