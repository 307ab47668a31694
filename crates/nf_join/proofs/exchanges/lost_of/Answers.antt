use Rattle.std.proofs.Common.{◌≡◌, List, ap, arith}
use Rattle.nf_core.specs.Intervals.{Interval}
use Rattle.nf_join.specs.inner.Made.{makes, costs}
use Rattle.nf_tally.specs.Numbers.{often}
use Rattle.nf_join.proofs.PlaceLemmas.{gone_stored, gone_gone, stored_gone}
use Rattle.nf_join.proofs.ExchangeLemmas.{lost_total}
use Rattle.nf_join.proofs.exchanges.lost_of.Goals as goal

pub push_stored-requires-clause-places : goal.push_stored-requires-clause-places
push_stored-requires-clause-places g c = gone_stored c.args.rule.now c.args.first.now c.args.second.now c.args.d1.now c.args.d2.now c.requires.places c.as_slice-gone1.result.now c.as_slice-gone1.ensures

pub push_listed-requires-clause-places : goal.push_listed-requires-clause-places
push_listed-requires-clause-places g c =
    gone_gone c.args.rule.now c.args.first.now c.args.second.now c.args.d1.now c.args.d2.now c.requires.places c.as_slice-gone1.result.now c.as_slice-gone2.result.now
    c.as_slice-gone1.ensures c.as_slice-gone2.ensures

pub push_stored-requires-2-clause-places : goal.push_stored-requires-2-clause-places
push_stored-requires-2-clause-places g c = stored_gone c.args.rule.now c.args.first.now c.args.second.now c.args.d1.now c.args.d2.now c.requires.places c.as_slice-gone2.result.now c.as_slice-gone2.ensures

pub returns-in_err-push_stored-clause-cost : goal.returns-in_err-push_stored-clause-cost
returns-in_err-push_stored-clause-cost g c =
    let total = lost_total (costs c.args.rule.now) c.args.first.now c.args.second.now c.args.d1.now c.args.d2.now c.as_slice-gone1.result.now c.as_slice-gone2.result.now c.as_slice-come1.result.now c.as_slice-come2.result.now
    c.as_slice-gone1.ensures c.as_slice-gone2.ensures c.as_slice-come1.ensures c.as_slice-come2.ensures in
    omega arith

pub returns-in_err-push_listed-clause-cost : goal.returns-in_err-push_listed-clause-cost
returns-in_err-push_listed-clause-cost g c =
    let total = lost_total (costs c.args.rule.now) c.args.first.now c.args.second.now c.args.d1.now c.args.d2.now c.as_slice-gone1.result.now c.as_slice-gone2.result.now c.as_slice-come1.result.now c.as_slice-come2.result.now
    c.as_slice-gone1.ensures c.as_slice-gone2.ensures c.as_slice-come1.ensures c.as_slice-come2.ensures in
    omega arith

pub returns-in_err-push_stored-2-clause-cost : goal.returns-in_err-push_stored-2-clause-cost
returns-in_err-push_stored-2-clause-cost g c =
    let total = lost_total (costs c.args.rule.now) c.args.first.now c.args.second.now c.args.d1.now c.args.d2.now c.as_slice-gone1.result.now c.as_slice-gone2.result.now c.as_slice-come1.result.now c.as_slice-come2.result.now
    c.as_slice-gone1.ensures c.as_slice-gone2.ensures c.as_slice-come1.ensures c.as_slice-come2.ensures in
    omega arith

pub returns-clause-often : goal.returns-clause-often
returns-clause-often g c = λ q.
    let total = lost_total (makes c.args.rule.now q) c.args.first.now c.args.second.now c.args.d1.now c.args.d2.now c.as_slice-gone1.result.now c.as_slice-gone2.result.now c.as_slice-come1.result.now c.as_slice-come2.result.now
    c.as_slice-gone1.ensures c.as_slice-gone2.ensures c.as_slice-come1.ensures c.as_slice-come2.ensures in
    let none : often c.new-lost.result q ≡ 0 = ap (λ (is : List Interval). often is q) c.new-lost.ensures in
    omega (arith, c.in_ok-push_stored.ensures.often q, c.in_ok-push_listed.ensures.often q, c.in_ok-push_stored-2.ensures.often q)

pub returns-clause-cost : goal.returns-clause-cost
returns-clause-cost g c =
    let total = lost_total (costs c.args.rule.now) c.args.first.now c.args.second.now c.args.d1.now c.args.d2.now c.as_slice-gone1.result.now c.as_slice-gone2.result.now c.as_slice-come1.result.now c.as_slice-come2.result.now
    c.as_slice-gone1.ensures c.as_slice-gone2.ensures c.as_slice-come1.ensures c.as_slice-come2.ensures in
    omega arith
