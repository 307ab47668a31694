-- The last element decides.
use Rattle.std.proofs.Common.{◌-◌, ◌<◌, length, ap, sym, ◌∙◌, arith}
use Rattle.std.specs.Ordering.{is_lt}
use Rattle.std.proofs.lemmas.Option.{slice_get_within, get_or_from_slice_get}
use Rattle.nf_blocks.proofs.SearchLemmas.{last_of}
use Rattle.nf_blocks.proofs.search.ends_before.Goals as goal

pub returns-in-Some : goal.returns-in-Some
returns-in-Some g c =
    let xs = c.args.block.now in
    let x = c.in-Some.last.now in
    let test = λ (y : g.row.T.Denot). is_lt (g.T.Ord.cmp y c.args.value.now) in
    let some : 0 < length xs = omega (arith, slice_get_within xs (length xs - 1) x (sym c.in-Some.ensures.value)) in
    c.is_lt.ensures ∙ ap is_lt c.cmp.ensures
    ∙ sym (last_of test xs x some ∙ ap test (get_or_from_slice_get xs (length xs - 1) x x (sym c.in-Some.ensures.value)))
