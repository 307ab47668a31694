-- A number that isn't 0 is raised and the delta stays; a new interval has 1 and enters.
use Rattle.std.proofs.Common.{◌≡◌, ◌+◌, cond, sym, ap, ◌∙◌}
use Rattle.std.proofs.lemmas.Result.{on_ok_weaker}
use Rattle.nf_core.specs.Intervals.{Interval, same}
use Rattle.nf_tally.specs.Numbers.{Numbers, number, one_at}
use Rattle.nf_tally.specs.inner.Carried.{on}
use Rattle.nf_tally.proofs.NumberLemmas.{one_more, off_is}
use Rattle.nf_tally.proofs.CarriedLemmas.{stays_raised, enters_first}
use Rattle.nf_tally.proofs.settling.gain.Goals as goal
use Rattle.nf_tally.proofs.settling.gain.Goals.{After-put}

pub returns-then-branch-clause-net : goal.returns-then-branch-clause-net
returns-then-branch-clause-net c = λ was.
    stays_raised c.args.interval c.args.tally.now c.raise_known.new.self was c.args.net.now (c.in_ok-raise_known.ensures.raised c.if-branch.true)
    (sym c.in_ok-raise_known.ensures.known ∙ c.if-branch.true)

raised : (c : After-put) → ((q : Interval) → number c.put.new.self q ≡ cond (same c.args.interval q) 1 (number c.raise_known.new.self q))
    → (q : Interval) → number c.put.new.self q ≡ number c.args.tally.now q + one_at c.args.interval q
raised c put q =
    let none = off_is (number c.args.tally.now c.args.interval) (sym c.in_ok-raise_known.ensures.known ∙ c.if-branch.false) in
    let kept : c.raise_known.new.self ≡ c.args.tally.now = c.in_ok-raise_known.ensures.unknown c.if-branch.false in
    one_more c.args.interval q 1 c.args.tally.now c.put.new.self
    (put q ∙ ap (λ (numbers : Numbers). cond (same c.args.interval q) 1 (number numbers q)) kept) (ap (λ n. n + 1) none)

pub returns-clause-numbers : goal.returns-clause-numbers
returns-clause-numbers c = on_ok_weaker c.put.result (λ (put : (q : Interval) → number c.put.new.self q ≡ cond (same c.args.interval q) 1 (number c.raise_known.new.self q)). raised c put) c.put.ensures.ok

pub returns-clause-net : goal.returns-clause-net
returns-clause-net c =
    on_ok_weaker c.put.result
    (λ (put : (q : Interval) → number c.put.new.self q ≡ cond (same c.args.interval q) 1 (number c.raise_known.new.self q)) was lead.
    c.in_ok-enter.ensures.ok was (on c.args.tally.now) (on c.put.new.self)
    (enters_first c.args.interval c.args.tally.now c.put.new.self (raised c put) (sym c.in_ok-raise_known.ensures.known ∙ c.if-branch.false)) lead)
    c.put.ensures.ok
