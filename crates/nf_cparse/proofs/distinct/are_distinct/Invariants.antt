use Rattle.nf_cparse.specs.inner.Distinct.{texts_in, AreSeen}
use Rattle.nf_cparse.proofs.distinct.are_distinct.Given as goal

abbrev pub invariant-loop-text : goal.invariant-loop-text
invariant-loop-text l = AreSeen (texts_in l.seen) l.texts l.text-index
