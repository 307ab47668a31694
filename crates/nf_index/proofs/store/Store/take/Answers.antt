use Rattle.std.proofs.Common.{◌≡◌, sym, ap, ◌∙◌}
use Rattle.nf_core.specs.Sets.{has, inserted}
use Rattle.nf_index.proofs.IndexLemmas.{removed_absent, restored, gone}
use Rattle.nf_index.proofs.store.Store.take.Goals as goal

pub invariant_of-self : goal.invariant_of-self
invariant_of-self c =
    let same : c.take.new.self ≡ c.self.inside.begins = c.take.ensures.rest ∙ removed_absent c.args.interval.now c.self.inside.begins (sym c.in_default.ensures.found) in
    rw same c.self.invariant

pub taken-self-inside-requires-clause-index : goal.taken-self-inside-requires-clause-index
taken-self-inside-requires-clause-index c =
    let back : c.self.inside.begins ≡ inserted c.args.interval.now c.take.new.self = restored c.args.interval.now c.self.inside.begins c.self.invariant.sorted (sym c.in-Some.ensures.found) ∙ ap (inserted c.args.interval.now) (sym c.take.ensures.rest) in
    rw (← back) c.self.invariant

pub taken-self-inside-requires-clause-absent : goal.taken-self-inside-requires-clause-absent
taken-self-inside-requires-clause-absent c = ap (λ is. has is c.args.interval.now) c.take.ensures.rest ∙ gone c.args.interval.now c.self.inside.begins c.self.invariant.sorted
