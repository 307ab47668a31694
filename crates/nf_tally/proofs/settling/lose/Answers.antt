-- A number above 1 is lowered and the delta stays; the last one is taken away, and the interval leaves.
use Rattle.std.proofs.Common.{◌≡◌, cond, refl, sym, ap, subst, ◌∙◌}
use Rattle.std.proofs.lemmas.Result.{on_ok_weaker}
use Rattle.nf_core.specs.Intervals.{Interval, same}
use Rattle.nf_tally.specs.Numbers.{Numbers, number, is_on}
use Rattle.nf_tally.specs.Deltas.{Leaves, Follows}
use Rattle.nf_tally.specs.inner.Carried.{on}
use Rattle.nf_tally.proofs.NumberLemmas.{one_less, last_is}
use Rattle.nf_tally.proofs.CarriedLemmas.{stays_lowered, leaves_last, taken_one}
use Rattle.nf_tally.proofs.settling.lose.Goals as goal
use Rattle.nf_tally.proofs.settling.lose.Goals.{After-leave}

pub returns-then-lower_many-clause-net : goal.returns-then-lower_many-clause-net
returns-then-lower_many-clause-net c = λ was.
    stays_lowered c.args.interval.now c.args.tally.now c.lower_many.new.self was c.args.net.now (c.if-lower_many.ensures.lowered refl) (sym c.if-lower_many.ensures.many)

cleared : (c : After-leave) (q : Interval) → number c.take.new.self q ≡ cond (same c.args.interval.now q) 0 (number c.args.tally.now q)
cleared c q =
    let kept : c.lower_many.new.self ≡ c.args.tally.now = c.if-lower_many.ensures.few refl in
    c.in-Some.ensures.rest q ∙ ap (λ (numbers : Numbers). cond (same c.args.interval.now q) 0 (number numbers q)) kept

pub returns-clause-numbers : goal.returns-clause-numbers
returns-clause-numbers c =
    let i = c.args.interval.now in
    let one = last_is (number c.args.tally.now i) c.requires (sym c.if-lower_many.ensures.many) in
    on_ok_weaker c.leave.result
    (λ _ q. one_less i q 0 c.args.tally.now c.take.new.self (cleared c q) (sym one)) c.leave.ensures.ok

pub returns-clause-net : goal.returns-clause-net
returns-clause-net c =
    let i = c.args.interval.now in
    let it = taken_one c.in-Some.last i (is_on (number c.lower_many.new.self i)) c.in-Some.ensures.taken in
    on_ok_weaker c.leave.result
    (λ (follows : Follows (Leaves c.in-Some.last) c.args.net.now c.leave.new.self) was lead.
    follows was (on c.args.tally.now) (on c.take.new.self)
    (subst (λ (j : Interval). Leaves j (on c.args.tally.now) (on c.take.new.self)) (sym it) (leaves_last i c.args.tally.now c.take.new.self (cleared c) c.requires)) lead)
    c.leave.ensures.ok
