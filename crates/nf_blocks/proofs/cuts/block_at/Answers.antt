-- The block is there, or no element is.
use Rattle.std.proofs.Common.{◌≤◌, ◌<◌, length, sym, ◌∙◌, arith}
use Rattle.std.proofs.lemmas.Bool.Decides.{nat_tests}
use Rattle.nf_blocks.proofs.BlockLemmas.{items_is}
use Rattle.nf_blocks.proofs.CutLemmas.{no_items}
use Rattle.nf_blocks.proofs.cuts.block_at.Goals as goal

pub returns-in-Some : goal.returns-in-Some
returns-in-Some g c =
    let bs = c.args.blocks.now in
    let at = c.args.block in
    let there : at < length bs = grind (arith, nat_tests, c.in-Some.ensures.lookup.0) in
    c.deref.ensures.value ∙ sym (items_is bs at c.in-Some.items.now there c.in-Some.ensures.lookup.1)

pub returns-in-None : goal.returns-in-None
returns-in-None g c =
    let bs = c.args.blocks.now in
    let at = c.args.block in
    let none : length bs ≤ at = grind (arith, nat_tests, c.in-None.ensures.lookup.0) in
    sym (no_items bs at none)
