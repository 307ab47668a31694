use Rattle.std.proofs.Common.{length, is_some}
use Rattle.nf_cparse.specs.inner.ItemReading as spec
use Rattle.nf_cparse.proofs.PartListLemmas.{IsListAt}
use Rattle.nf_cparse.proofs.items.items.Given as goal

abbrev pub invariant-items : goal.invariant-items
invariant-items l = IsListAt is_some (spec.item l.depth) (spec.items l.depth l.fn.reader) l.items l.reader

abbrev pub decreases-items : goal.decreases-items
decreases-items l = length l.reader.words
