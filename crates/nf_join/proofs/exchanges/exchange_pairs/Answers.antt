use Rattle.std.proofs.Common.{arith}
use Rattle.nf_join.proofs.ExchangeLemmas.{exchanged_pairs, work_of_pairs}
use Rattle.nf_join.proofs.exchanges.exchange_pairs.Goals as goal

pub returns-in_err-lost-clause-cost : goal.returns-in_err-lost-clause-cost
returns-in_err-lost-clause-cost g c =
    let work = work_of_pairs c.args.rule.now c.requires.two c.requires.rule.inclusive c.args.first.now c.args.second.now c.args.d1.now c.args.d2.now
    c.ascends.ensures c.ascends-2.ensures c.requires.first c.requires.second in
    omega arith

pub returns-in_err-found-clause-cost : goal.returns-in_err-found-clause-cost
returns-in_err-found-clause-cost g c =
    let work = work_of_pairs c.args.rule.now c.requires.two c.requires.rule.inclusive c.args.first.now c.args.second.now c.args.d1.now c.args.d2.now
    c.ascends.ensures c.ascends-2.ensures c.requires.first c.requires.second in
    omega arith

pub returns-clause-exchanged : goal.returns-clause-exchanged
returns-clause-exchanged g c =
    exchanged_pairs c.args.rule.now c.requires.two c.requires.rule.inclusive c.args.first.now c.args.second.now c.args.d1.now c.args.d2.now
    c.ascends.ensures c.ascends-2.ensures c.requires.first c.requires.second c.in_ok-lost.lost c.in_ok-found.found c.in_ok-lost.ensures.often c.in_ok-found.ensures.often

pub returns-clause-cost : goal.returns-clause-cost
returns-clause-cost g c =
    let work = work_of_pairs c.args.rule.now c.requires.two c.requires.rule.inclusive c.args.first.now c.args.second.now c.args.d1.now c.args.d2.now
    c.ascends.ensures c.ascends-2.ensures c.requires.first c.requires.second in
    omega arith
