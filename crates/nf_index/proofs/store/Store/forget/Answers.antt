use Rattle.std.proofs.Common.{◌≡◌, ◌∷◌, sym, subst, ◌∙◌}
use Rattle.nf_core.specs.Sets.{IsSet}
use Rattle.nf_index.specs.inner.Orders.{IsIndex}
use Rattle.nf_index.proofs.ForgetLemmas.{front_inserted, front_absent}
use Rattle.nf_index.proofs.store.Store.forget.Goals as goal

pub taken-self-inside-requires-clause-index : goal.taken-self-inside-requires-clause-index
taken-self-inside-requires-clause-index c =
    let whole : c.loop-interval.self-inside.begins ≡ c.in-Some.interval ∷ c.pop_before.new.begins = c.in-Some.ensures.rest in
    subst (λ is. IsIndex is c.loop-interval.self-inside.ends c.loop-interval.self-inside.falls)
    (whole ∙ sym (front_inserted c.in-Some.interval c.pop_before.new.begins (subst IsSet whole c.pop_before.ensures.sorted))) c.loop-interval.invariant.index

pub taken-self-inside-requires-clause-absent : goal.taken-self-inside-requires-clause-absent
taken-self-inside-requires-clause-absent c = front_absent c.in-Some.interval c.pop_before.new.begins (subst IsSet c.in-Some.ensures.rest c.pop_before.ensures.sorted)
