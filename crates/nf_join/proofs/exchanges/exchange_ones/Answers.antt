use Rattle.std.proofs.Common.{arith}
use Rattle.nf_join.proofs.PlaceLemmas.{ones_gone, ones_come}
use Rattle.nf_join.proofs.OneLemmas.{exchanged_ones, work_of_ones}
use Rattle.nf_join.proofs.exchanges.exchange_ones.Goals as goal

pub ones_of-requires-clause-places : goal.ones_of-requires-clause-places
ones_of-requires-clause-places g c = ones_gone c.args.rule.now c.args.first.now c.args.d1.now c.requires.places c.as_slice-gone.result.now c.as_slice-gone.ensures

pub ones_of-requires-2-clause-places : goal.ones_of-requires-2-clause-places
ones_of-requires-2-clause-places g c = ones_come c.args.rule.now c.args.first.now c.args.d1.now c.requires.places c.requires.first c.as_slice-come.result.now c.as_slice-come.ensures

pub returns-in_err-lost-clause-cost : goal.returns-in_err-lost-clause-cost
returns-in_err-lost-clause-cost g c = λ seconds d2.
    let work = work_of_ones c.args.rule.now c.requires.one c.args.first.now c.args.d1.now c.ascends.ensures c.requires.first c.as_slice-gone.result.now c.as_slice-come.result.now
    c.as_slice-gone.ensures c.as_slice-come.ensures seconds d2 in
    omega arith

pub returns-in_err-found-clause-cost : goal.returns-in_err-found-clause-cost
returns-in_err-found-clause-cost g c = λ seconds d2.
    let work = work_of_ones c.args.rule.now c.requires.one c.args.first.now c.args.d1.now c.ascends.ensures c.requires.first c.as_slice-gone.result.now c.as_slice-come.result.now
    c.as_slice-gone.ensures c.as_slice-come.ensures seconds d2 in
    omega arith

pub returns-clause-exchanged : goal.returns-clause-exchanged
returns-clause-exchanged g c =
    exchanged_ones c.args.rule.now c.requires.one c.args.first.now c.args.d1.now c.ascends.ensures c.requires.first c.in_ok-lost.lost c.in_ok-found.found
    c.as_slice-gone.result.now c.as_slice-come.result.now c.as_slice-gone.ensures c.as_slice-come.ensures c.in_ok-lost.ensures.often c.in_ok-found.ensures.often

pub returns-clause-cost : goal.returns-clause-cost
returns-clause-cost g c = λ seconds d2.
    let work = work_of_ones c.args.rule.now c.requires.one c.args.first.now c.args.d1.now c.ascends.ensures c.requires.first c.as_slice-gone.result.now c.as_slice-come.result.now
    c.as_slice-gone.ensures c.as_slice-come.ensures seconds d2 in
    omega arith
