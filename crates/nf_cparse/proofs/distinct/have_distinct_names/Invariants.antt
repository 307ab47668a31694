use Rattle.std.proofs.Common.{map}
use Rattle.nf_cast.specs.declared.manifests.CName.{CName}
use Rattle.nf_cparse.specs.inner.Distinct.{texts_in, AreSeen}
use Rattle.nf_cparse.proofs.distinct.have_distinct_names.Given as goal

abbrev pub invariant-loop-name : goal.invariant-loop-name
invariant-loop-name l = AreSeen (texts_in l.seen) (map (λ (n : CName). n.name) l.names) l.name-index
