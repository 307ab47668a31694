-- What is before the cut is smaller, and the first element behind it decides.
use Rattle.std.proofs.Common.{◌≡◌, ◌≤◌, ◌<◌, length, get_or, sym, ap, subst, ◌∙◌, arith}
use Rattle.std.specs.Ordering.{is_gt, is_eq}
use Rattle.std.proofs.lemmas.Bool.Decides.{nat_tests}
use Rattle.nf_blocks.specs.Blocks.{has}
use Rattle.nf_blocks.specs.inner.Flat.{AreBlocks}
use Rattle.nf_blocks.specs.inner.Places.{items_at}
use Rattle.nf_blocks.specs.inner.Cuts.{IsPlace}
use Rattle.nf_blocks.proofs.CutLemmas.{has_by, has_nothing}
use Rattle.nf_blocks.proofs.block_set.BlockSet.contains.Goals as goal

pub returns-in-Some : goal.returns-in-Some
returns-in-Some g c =
    let bs = c.self.inside.blocks.items in
    let R = g.T.Ord.cmp in
    let v = c.args.value.now in
    let at = c.place_of-at.result in
    let x = c.in-Some.found.now in
    let block = c.block_at.ensures ∙ ap (λ cs. items_at cs at.block) c.deref-2.ensures.value in
    let there : at.within < length (items_at bs at.block) = grind (arith, nat_tests, c.in-Some.ensures.lookup.0, ap length block) in
    let is : x ≡ get_or (items_at bs at.block) at.within x = c.in-Some.ensures.lookup.1 ∙ ap (λ ys. get_or ys at.within x) block in
    let place = subst (λ cs. AreBlocks R cs c.self.inside.len → IsPlace (λ y. is_gt (R v y)) cs at) c.deref.ensures.value
    (c.place_of-at.ensures.place c.self.inside.len) c.self.invariant in
    c.is_eq.ensures ∙ ap is_eq c.cmp.ensures
    ∙ sym (has_by g.met.T.Ord.total bs v at c.self.invariant.sorted place x there is) ∙ ap (λ ys. has R ys v) c.self.view_is

pub returns-in-None : goal.returns-in-None
returns-in-None g c =
    let bs = c.self.inside.blocks.items in
    let R = g.T.Ord.cmp in
    let v = c.args.value.now in
    let at = c.place_of-at.result in
    let block = c.block_at.ensures ∙ ap (λ cs. items_at cs at.block) c.deref-2.ensures.value in
    let none : length (items_at bs at.block) ≤ at.within = grind (arith, nat_tests, c.in-None.ensures.lookup.0, ap length block) in
    let place = subst (λ cs. AreBlocks R cs c.self.inside.len → IsPlace (λ y. is_gt (R v y)) cs at) c.deref.ensures.value
    (c.place_of-at.ensures.place c.self.inside.len) c.self.invariant in
    sym (has_nothing g.met.T.Ord.total bs v at c.self.invariant.sorted place none) ∙ ap (λ ys. has R ys v) c.self.view_is
