-- The last element decides.
use Rattle.std.proofs.Common.{◌-◌, ◌<◌, length, ap, sym, ◌∙◌, arith}
use Rattle.std.proofs.lemmas.Option.{slice_get_within, get_or_from_slice_get}
use Rattle.nf_blocks.specs.inner.Cuts.{is_left}
use Rattle.nf_blocks.proofs.SearchLemmas.{last_of}
use Rattle.nf_blocks.proofs.cuts.ends_left.Goals as goal

pub returns-in-Some : goal.returns-in-Some
returns-in-Some g c =
    let xs = c.args.block.now in
    let x = c.in-Some.last.now in
    let test = is_left g.T.Ord.cmp c.args.cut.now in
    let some : 0 < length xs = omega (arith, slice_get_within xs (length xs - 1) x (sym c.in-Some.ensures.value)) in
    c.is_left.ensures
    ∙ sym (last_of test xs x some ∙ ap test (get_or_from_slice_get xs (length xs - 1) x x (sym c.in-Some.ensures.value)))
