use Rattle.std.proofs.Common.{◌≡◌, List, [], ap, sym, subst, arith}
use Rattle.nf_core.specs.Intervals.{Interval}
use Rattle.nf_core.specs.Sets.{IsSet}
use Rattle.nf_core.proofs.Public.SetLemmas.{IsSet-empty}
use Rattle.nf_tally.specs.Numbers.{often}
use Rattle.nf_join.specs.inner.Made.{makes, costs}
use Rattle.nf_join.proofs.PlaceLemmas.{come_stored, stored_come}
use Rattle.nf_join.proofs.ExchangeLemmas.{found_total}
use Rattle.nf_join.proofs.exchanges.found_of.Goals as goal

pub push_stored-requires-clause-skip : goal.push_stored-requires-clause-skip
push_stored-requires-clause-skip g c =
    let empty : c.as_slice.result.now ≡ [] = cc in
    subst IsSet (sym empty) IsSet-empty

pub push_stored-requires-clause-places : goal.push_stored-requires-clause-places
push_stored-requires-clause-places g c =
    come_stored c.args.rule.now c.args.first.now c.args.second.now c.args.d1.now c.args.d2.now c.requires.places c.requires.first c.as_slice-come1.result.now c.as_slice-come1.ensures

pub push_stored-requires-2-clause-places : goal.push_stored-requires-2-clause-places
push_stored-requires-2-clause-places g c =
    stored_come c.args.rule.now c.args.first.now c.args.second.now c.args.d1.now c.args.d2.now c.requires.places c.requires.second c.as_slice-come2.result.now c.as_slice-come2.ensures

pub returns-in_err-push_stored-clause-cost : goal.returns-in_err-push_stored-clause-cost
returns-in_err-push_stored-clause-cost g c =
    let empty : c.as_slice.result.now ≡ [] = cc in
    let total = found_total (costs c.args.rule.now) c.args.first.now c.args.second.now c.args.d1.now c.args.d2.now c.as_slice.result.now c.as_slice-come1.result.now c.as_slice-come2.result.now
    empty c.as_slice-come1.ensures c.as_slice-come2.ensures in
    omega arith

pub returns-in_err-push_stored-2-clause-cost : goal.returns-in_err-push_stored-2-clause-cost
returns-in_err-push_stored-2-clause-cost g c =
    let empty : c.as_slice.result.now ≡ [] = cc in
    let total = found_total (costs c.args.rule.now) c.args.first.now c.args.second.now c.args.d1.now c.args.d2.now c.as_slice.result.now c.as_slice-come1.result.now c.as_slice-come2.result.now
    empty c.as_slice-come1.ensures c.as_slice-come2.ensures in
    omega arith

pub returns-clause-often : goal.returns-clause-often
returns-clause-often g c = λ q.
    let empty : c.as_slice.result.now ≡ [] = cc in
    let total = found_total (makes c.args.rule.now q) c.args.first.now c.args.second.now c.args.d1.now c.args.d2.now c.as_slice.result.now c.as_slice-come1.result.now c.as_slice-come2.result.now
    empty c.as_slice-come1.ensures c.as_slice-come2.ensures in
    let none : often c.new-found.result q ≡ 0 = ap (λ (is : List Interval). often is q) c.new-found.ensures in
    omega (arith, c.in_ok-push_stored.ensures.often q, c.in_ok-push_stored-2.ensures.often q)

pub returns-clause-cost : goal.returns-clause-cost
returns-clause-cost g c =
    let empty : c.as_slice.result.now ≡ [] = cc in
    let total = found_total (costs c.args.rule.now) c.args.first.now c.args.second.now c.args.d1.now c.args.d2.now c.as_slice.result.now c.as_slice-come1.result.now c.as_slice-come2.result.now
    empty c.as_slice-come1.ensures c.as_slice-come2.ensures in
    omega arith
