use Rattle.std.proofs.Common.{◌≡◌, ℕ, List, Some, arith, subst}
use Rattle.nf_modules.specs.inner.Places.{number_in}
use Rattle.nf_modules.specs.inner.Search.{Marks}
use Rattle.nf_modules.proofs.MarkLemmas.{marks_more}
use Rattle.nf_modules.proofs.search.mark_all.Goals as goal

pub loop-name-preserved : goal.loop-name-preserved
loop-name-preserved c =
    let one : Marks c.loop-name.search c.mark.new.search (λ i. number_in c.args.places.now c.name-item.result ≡ Some i) = subst (λ (n : List ℕ). Marks c.loop-name.search c.mark.new.search (λ i. number_in c.args.places.now n ≡ Some i)) c.as_str.ensures c.in_ok-mark.ensures in
    marks_more (number_in c.args.places.now) c.args.names.now c.loop-name.name-index c.name-item.result c.args.search.now c.loop-name.search c.mark.new.search (omega arith) c.name-item.is c.loop-name.invariant one
