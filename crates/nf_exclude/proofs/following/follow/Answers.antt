use Rattle.std.proofs.Common.{◌≡◌, List, ap, arith}
use Rattle.nf_core.specs.Intervals.{Interval}
use Rattle.nf_pairs.specs.Deltas.{before}
use Rattle.nf_tally.specs.Numbers.{number, often}
use Rattle.nf_model.specs.Changes.{lacking}
use Rattle.nf_exclude.proofs.BalanceLemmas.{Course, enough, fresh, ends, balance}
use Rattle.nf_exclude.proofs.FollowLemmas.{Slices, move1, move2, within, now_places, gone_places, come_places, gone_pairs, come_pairs, new_pairs}
use Rattle.nf_exclude.proofs.following.follow.Goals as goal

pub push_all-requires-clause-places : goal.push_all-requires-clause-places
push_all-requires-clause-places g c =
    let s : Slices c.args.first.now c.args.second.now c.args.d1.now c.args.d2.now c.as_slice-gone.result.now c.as_slice-come.result.now c.as_slice-ends.result.now c.as_slice-begins.result.now =
    record { set1 = c.ascend.ensures; set2 = c.ascend-2.ensures; is1 = c.requires.first; is2 = c.requires.second; g1 = c.as_slice-gone.ensures; c1 = c.as_slice-come.ensures; g2 = c.as_slice-ends.ensures; c2 = c.as_slice-begins.ensures } in
    gone_places s c.args.rule.now c.requires.exclusive c.requires.places

pub turn_all-requires-clause-pairs : goal.turn_all-requires-clause-pairs
turn_all-requires-clause-pairs g c =
    let s : Slices c.args.first.now c.args.second.now c.args.d1.now c.args.d2.now c.as_slice-gone.result.now c.as_slice-come.result.now c.as_slice-ends.result.now c.as_slice-begins.result.now =
    record { set1 = c.ascend.ensures; set2 = c.ascend-2.ensures; is1 = c.requires.first; is2 = c.requires.second; g1 = c.as_slice-gone.ensures; c1 = c.as_slice-come.ensures; g2 = c.as_slice-ends.ensures; c2 = c.as_slice-begins.ensures } in
    gone_pairs s c.args.rule.now c.requires.exclusive c.requires.places

pub turn_all-requires-clause-places : goal.turn_all-requires-clause-places
turn_all-requires-clause-places g c =
    let s : Slices c.args.first.now c.args.second.now c.args.d1.now c.args.d2.now c.as_slice-gone.result.now c.as_slice-come.result.now c.as_slice-ends.result.now c.as_slice-begins.result.now =
    record { set1 = c.ascend.ensures; set2 = c.ascend-2.ensures; is1 = c.requires.first; is2 = c.requires.second; g1 = c.as_slice-gone.ensures; c1 = c.as_slice-come.ensures; g2 = c.as_slice-ends.ensures; c2 = c.as_slice-begins.ensures } in
    now_places s c.args.rule.now c.requires.exclusive c.requires.places

pub turn_all-requires-2-clause-pairs : goal.turn_all-requires-2-clause-pairs
turn_all-requires-2-clause-pairs g c =
    let s : Slices c.args.first.now c.args.second.now c.args.d1.now c.args.d2.now c.as_slice-gone.result.now c.as_slice-come.result.now c.as_slice-ends.result.now c.as_slice-begins.result.now =
    record { set1 = c.ascend.ensures; set2 = c.ascend-2.ensures; is1 = c.requires.first; is2 = c.requires.second; g1 = c.as_slice-gone.ensures; c1 = c.as_slice-come.ensures; g2 = c.as_slice-ends.ensures; c2 = c.as_slice-begins.ensures } in
    come_pairs s c.args.rule.now c.requires.exclusive c.requires.places

pub turn_all-requires-2-clause-places : goal.turn_all-requires-2-clause-places
turn_all-requires-2-clause-places g c =
    let s : Slices c.args.first.now c.args.second.now c.args.d1.now c.args.d2.now c.as_slice-gone.result.now c.as_slice-come.result.now c.as_slice-ends.result.now c.as_slice-begins.result.now =
    record { set1 = c.ascend.ensures; set2 = c.ascend-2.ensures; is1 = c.requires.first; is2 = c.requires.second; g1 = c.as_slice-gone.ensures; c1 = c.as_slice-come.ensures; g2 = c.as_slice-ends.ensures; c2 = c.as_slice-begins.ensures } in
    now_places s c.args.rule.now c.requires.exclusive c.requires.places

pub count_all-requires-clause-pairs : goal.count_all-requires-clause-pairs
count_all-requires-clause-pairs g c =
    let s : Slices c.args.first.now c.args.second.now c.args.d1.now c.args.d2.now c.as_slice-gone.result.now c.as_slice-come.result.now c.as_slice-ends.result.now c.as_slice-begins.result.now =
    record { set1 = c.ascend.ensures; set2 = c.ascend-2.ensures; is1 = c.requires.first; is2 = c.requires.second; g1 = c.as_slice-gone.ensures; c1 = c.as_slice-come.ensures; g2 = c.as_slice-ends.ensures; c2 = c.as_slice-begins.ensures } in
    new_pairs s c.args.rule.now c.requires.exclusive c.requires.places

pub push_all-requires-2-clause-places : goal.push_all-requires-2-clause-places
push_all-requires-2-clause-places g c =
    let s : Slices c.args.first.now c.args.second.now c.args.d1.now c.args.d2.now c.as_slice-gone.result.now c.as_slice-come.result.now c.as_slice-ends.result.now c.as_slice-begins.result.now =
    record { set1 = c.ascend.ensures; set2 = c.ascend-2.ensures; is1 = c.requires.first; is2 = c.requires.second; g1 = c.as_slice-gone.ensures; c1 = c.as_slice-come.ensures; g2 = c.as_slice-ends.ensures; c2 = c.as_slice-begins.ensures } in
    come_places s c.args.rule.now c.requires.exclusive c.requires.places

pub returns-in_err-push_all-clause-cost : goal.returns-in_err-push_all-clause-cost
returns-in_err-push_all-clause-cost g c =
    let s : Slices c.args.first.now c.args.second.now c.args.d1.now c.args.d2.now c.as_slice-gone.result.now c.as_slice-come.result.now c.as_slice-ends.result.now c.as_slice-begins.result.now =
    record { set1 = c.ascend.ensures; set2 = c.ascend-2.ensures; is1 = c.requires.first; is2 = c.requires.second; g1 = c.as_slice-gone.ensures; c1 = c.as_slice-come.ensures; g2 = c.as_slice-ends.ensures; c2 = c.as_slice-begins.ensures } in
    let most = within s c.args.rule.now c.requires.exclusive in omega (arith, most, c.push_all.ensures.cost)

pub returns-in_err-turn_all-clause-cost : goal.returns-in_err-turn_all-clause-cost
returns-in_err-turn_all-clause-cost g c =
    let s : Slices c.args.first.now c.args.second.now c.args.d1.now c.args.d2.now c.as_slice-gone.result.now c.as_slice-come.result.now c.as_slice-ends.result.now c.as_slice-begins.result.now =
    record { set1 = c.ascend.ensures; set2 = c.ascend-2.ensures; is1 = c.requires.first; is2 = c.requires.second; g1 = c.as_slice-gone.ensures; c1 = c.as_slice-come.ensures; g2 = c.as_slice-ends.ensures; c2 = c.as_slice-begins.ensures } in
    let most = within s c.args.rule.now c.requires.exclusive in omega (arith, most, c.push_all.ensures.cost, c.turn_all.ensures.cost)

pub returns-in_err-turn_all-2-clause-cost : goal.returns-in_err-turn_all-2-clause-cost
returns-in_err-turn_all-2-clause-cost g c =
    let s : Slices c.args.first.now c.args.second.now c.args.d1.now c.args.d2.now c.as_slice-gone.result.now c.as_slice-come.result.now c.as_slice-ends.result.now c.as_slice-begins.result.now =
    record { set1 = c.ascend.ensures; set2 = c.ascend-2.ensures; is1 = c.requires.first; is2 = c.requires.second; g1 = c.as_slice-gone.ensures; c1 = c.as_slice-come.ensures; g2 = c.as_slice-ends.ensures; c2 = c.as_slice-begins.ensures } in
    let most = within s c.args.rule.now c.requires.exclusive in omega (arith, most, c.push_all.ensures.cost, c.turn_all.ensures.cost, c.turn_all-2.ensures.cost)

pub returns-in_err-count_all-clause-cost : goal.returns-in_err-count_all-clause-cost
returns-in_err-count_all-clause-cost g c =
    let s : Slices c.args.first.now c.args.second.now c.args.d1.now c.args.d2.now c.as_slice-gone.result.now c.as_slice-come.result.now c.as_slice-ends.result.now c.as_slice-begins.result.now =
    record { set1 = c.ascend.ensures; set2 = c.ascend-2.ensures; is1 = c.requires.first; is2 = c.requires.second; g1 = c.as_slice-gone.ensures; c1 = c.as_slice-come.ensures; g2 = c.as_slice-ends.ensures; c2 = c.as_slice-begins.ensures } in
    let most = within s c.args.rule.now c.requires.exclusive in omega (arith, most, c.push_all.ensures.cost, c.turn_all.ensures.cost, c.turn_all-2.ensures.cost, c.count_all.ensures.cost)

pub returns-in_err-push_all-2-clause-cost : goal.returns-in_err-push_all-2-clause-cost
returns-in_err-push_all-2-clause-cost g c =
    let s : Slices c.args.first.now c.args.second.now c.args.d1.now c.args.d2.now c.as_slice-gone.result.now c.as_slice-come.result.now c.as_slice-ends.result.now c.as_slice-begins.result.now =
    record { set1 = c.ascend.ensures; set2 = c.ascend-2.ensures; is1 = c.requires.first; is2 = c.requires.second; g1 = c.as_slice-gone.ensures; c1 = c.as_slice-come.ensures; g2 = c.as_slice-ends.ensures; c2 = c.as_slice-begins.ensures } in
    let most = within s c.args.rule.now c.requires.exclusive in omega (arith, most, c.push_all.ensures.cost, c.turn_all.ensures.cost, c.turn_all-2.ensures.cost, c.count_all.ensures.cost, c.push_all-2.ensures.cost)

pub returns-clause-cost : goal.returns-clause-cost
returns-clause-cost g c =
    let s : Slices c.args.first.now c.args.second.now c.args.d1.now c.args.d2.now c.as_slice-gone.result.now c.as_slice-come.result.now c.as_slice-ends.result.now c.as_slice-begins.result.now =
    record { set1 = c.ascend.ensures; set2 = c.ascend-2.ensures; is1 = c.requires.first; is2 = c.requires.second; g1 = c.as_slice-gone.ensures; c1 = c.as_slice-come.ensures; g2 = c.as_slice-ends.ensures; c2 = c.as_slice-begins.ensures } in
    let most = within s c.args.rule.now c.requires.exclusive in omega (arith, most, c.push_all.ensures.cost, c.turn_all.ensures.cost, c.turn_all-2.ensures.cost, c.count_all.ensures.cost, c.push_all-2.ensures.cost)

pub turn_all-requires-clause-enough : goal.turn_all-requires-clause-enough
turn_all-requires-clause-enough g c =
    let s : Slices c.args.first.now c.args.second.now c.args.d1.now c.args.d2.now c.as_slice-gone.result.now c.as_slice-come.result.now c.as_slice-ends.result.now c.as_slice-begins.result.now =
    record { set1 = c.ascend.ensures; set2 = c.ascend-2.ensures; is1 = c.requires.first; is2 = c.requires.second; g1 = c.as_slice-gone.ensures; c1 = c.as_slice-come.ensures; g2 = c.as_slice-ends.ensures; c2 = c.as_slice-begins.ensures } in
    enough c.args.rule.now (move1 s) (move2 s) (number c.args.blockers) (number c.clear_all.new.blockers) c.requires.blockers c.clear_all.ensures

pub count_all-requires-clause-fresh : goal.count_all-requires-clause-fresh
count_all-requires-clause-fresh g c =
    let s : Slices c.args.first.now c.args.second.now c.args.d1.now c.args.d2.now c.as_slice-gone.result.now c.as_slice-come.result.now c.as_slice-ends.result.now c.as_slice-begins.result.now =
    record { set1 = c.ascend.ensures; set2 = c.ascend-2.ensures; is1 = c.requires.first; is2 = c.requires.second; g1 = c.as_slice-gone.ensures; c1 = c.as_slice-come.ensures; g2 = c.as_slice-ends.ensures; c2 = c.as_slice-begins.ensures } in
    fresh c.args.rule.now (move1 s) (move2 s) (number c.args.blockers) (number c.clear_all.new.blockers) (number c.turn_all.new.blockers) (number c.turn_all-2.new.blockers)
    c.requires.blockers c.clear_all.ensures (λ q. c.in_ok-turn_all.ensures.turned.numbers q) (λ q. c.in_ok-turn_all-2.ensures.turned.numbers q)

pub returns-clause-blockers : goal.returns-clause-blockers
returns-clause-blockers g c =
    let s : Slices c.args.first.now c.args.second.now c.args.d1.now c.args.d2.now c.as_slice-gone.result.now c.as_slice-come.result.now c.as_slice-ends.result.now c.as_slice-begins.result.now =
    record { set1 = c.ascend.ensures; set2 = c.ascend-2.ensures; is1 = c.requires.first; is2 = c.requires.second; g1 = c.as_slice-gone.ensures; c1 = c.as_slice-come.ensures; g2 = c.as_slice-ends.ensures; c2 = c.as_slice-begins.ensures } in
    let course : Course c.args.rule.now (before c.args.d1.now c.args.first.now) c.args.first.now (before c.args.d2.now c.args.second.now) c.args.second.now c.as_slice-gone.result.now c.as_slice-come.result.now (lacking c.args.first.now c.as_slice-come.result.now) c.as_slice-ends.result.now c.as_slice-begins.result.now =
    record {
      n0 = number c.args.blockers;
      n1 = number c.clear_all.new.blockers;
      n2 = number c.turn_all.new.blockers;
      n3 = number c.turn_all-2.new.blockers;
      n4 = number c.count_all.new.blockers;
      lost1 = c.push_all.new.out;
      lost = c.turn_all-2.new.out;
      found2 = c.turn_all.new.out;
      found = c.push_all-2.new.out;
      begins = c.requires.blockers;
      lost_gone = λ q. (let e : often c.new-lost.result q ≡ 0 = ap (λ (is : List Interval). often is q) c.new-lost.ensures in omega (arith, e, c.in_ok-push_all.ensures.out q));
      cleared = c.clear_all.ensures;
      fell = λ q. c.in_ok-turn_all.ensures.turned.numbers q;
      found_kept = λ q. (let e : often c.new-found.result q ≡ 0 = ap (λ (is : List Interval). often is q) c.new-found.ensures in omega (arith, e, c.in_ok-turn_all.ensures.turned.out q));
      rose = λ q. c.in_ok-turn_all-2.ensures.turned.numbers q;
      lost_kept = λ q. c.in_ok-turn_all-2.ensures.turned.out q;
      counted = c.in_ok-count_all.ensures.numbers;
      found_come = c.in_ok-push_all-2.ensures.out;
    } in
    λ q. ends c.args.rule.now (move1 s) (move2 s) course q

pub returns-clause-results : goal.returns-clause-results
returns-clause-results g c =
    let s : Slices c.args.first.now c.args.second.now c.args.d1.now c.args.d2.now c.as_slice-gone.result.now c.as_slice-come.result.now c.as_slice-ends.result.now c.as_slice-begins.result.now =
    record { set1 = c.ascend.ensures; set2 = c.ascend-2.ensures; is1 = c.requires.first; is2 = c.requires.second; g1 = c.as_slice-gone.ensures; c1 = c.as_slice-come.ensures; g2 = c.as_slice-ends.ensures; c2 = c.as_slice-begins.ensures } in
    let course : Course c.args.rule.now (before c.args.d1.now c.args.first.now) c.args.first.now (before c.args.d2.now c.args.second.now) c.args.second.now c.as_slice-gone.result.now c.as_slice-come.result.now (lacking c.args.first.now c.as_slice-come.result.now) c.as_slice-ends.result.now c.as_slice-begins.result.now =
    record {
      n0 = number c.args.blockers;
      n1 = number c.clear_all.new.blockers;
      n2 = number c.turn_all.new.blockers;
      n3 = number c.turn_all-2.new.blockers;
      n4 = number c.count_all.new.blockers;
      lost1 = c.push_all.new.out;
      lost = c.turn_all-2.new.out;
      found2 = c.turn_all.new.out;
      found = c.push_all-2.new.out;
      begins = c.requires.blockers;
      lost_gone = λ q. (let e : often c.new-lost.result q ≡ 0 = ap (λ (is : List Interval). often is q) c.new-lost.ensures in omega (arith, e, c.in_ok-push_all.ensures.out q));
      cleared = c.clear_all.ensures;
      fell = λ q. c.in_ok-turn_all.ensures.turned.numbers q;
      found_kept = λ q. (let e : often c.new-found.result q ≡ 0 = ap (λ (is : List Interval). often is q) c.new-found.ensures in omega (arith, e, c.in_ok-turn_all.ensures.turned.out q));
      rose = λ q. c.in_ok-turn_all-2.ensures.turned.numbers q;
      lost_kept = λ q. c.in_ok-turn_all-2.ensures.turned.out q;
      counted = c.in_ok-count_all.ensures.numbers;
      found_come = c.in_ok-push_all-2.ensures.out;
    } in
    λ q. balance c.args.rule.now (move1 s) (move2 s) course c.requires.exclusive q
