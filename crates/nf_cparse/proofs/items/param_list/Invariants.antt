use Rattle.std.proofs.Common.{length}
use Rattle.nf_cparse.specs.declared.symbol.Sym.TheVariants as sym
use Rattle.nf_cparse.specs.inner.Parsers.{IsWithin, is_kind}
use Rattle.nf_cparse.specs.inner.ItemReading as spec
use Rattle.nf_cparse.proofs.PartListLemmas.{IsListAt}
use Rattle.nf_cparse.proofs.items.param_list.Given as goal

abbrev pub invariant-params : goal.invariant-params
invariant-params l =
    IsListAt (is_kind sym.Comma) (spec.next_param)
    (spec.param_list l.fn.reader) l.params l.reader
    × IsWithin l.fn.reader l.reader

abbrev pub decreases-params : goal.decreases-params
decreases-params l = length l.reader.words
