use Rattle.std.proofs.Common.{◌+◌, drop, sym, ◌∙◌, refl}
use Rattle.nf_tally.specs.Numbers.{number}
use Rattle.nf_exclude.proofs.ArrivalLemmas.{item_left, clear_next, set_done}
use Rattle.nf_exclude.proofs.arrivals.clear_all.Goals as goal

pub loop-one-init : goal.loop-one-init
loop-one-init c = λ q. refl

pub loop-one-preserved : goal.loop-one-preserved
loop-one-preserved c = λ q.
    clear_next (λ p. 0) (number c.loop-one.blockers) (number c.clear.new.self) (drop c.loop-one.one-index c.args.ones.now) (drop (c.loop-one.one-index + 1) c.args.ones.now) c.one-item.result
    (item_left c.args.ones.now c.loop-one.one-index c.one-item.result c.loop-one-test.true c.one-item.is) c.clear.ensures q
    ∙ c.loop-one.invariant q

pub returns : goal.returns
returns c = λ q. sym (set_done (λ p. 0) (number c.loop-one.blockers) c.args.ones.now c.loop-one.one-index c.loop-one-test.false q) ∙ c.loop-one.invariant q
