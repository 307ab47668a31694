-- The binary search in the block says whether the element is in the list.
use Rattle.std.proofs.Common.{◌≡◌, ◌<◌, length, get_or, ap, sym, subst, ◌∙◌, arith}
use Rattle.std.proofs.lemmas.Cmp.{tied_back}
use Rattle.nf_blocks.specs.inner.Flat.{flat}
use Rattle.nf_blocks.specs.inner.Places.{items_at}
use Rattle.nf_blocks.specs.inner.Gaps.{IsBlockOf}
use Rattle.nf_blocks.proofs.BlockLemmas.{items_is, item_at}
use Rattle.nf_blocks.proofs.ChangeLemmas.{removed_none}
use Rattle.nf_blocks.proofs.PlaceLemmas.{free_at, taken_at}
use Rattle.nf_blocks.proofs.removing.take.Goals as goal

pub take_at-requires-clause-in_block : goal.take_at-requires-clause-in_block
take_at-requires-clause-in_block g c =
    let bs = c.args.blocks.now in
    let b = c.index.result.now in
    let at = c.block_of-at.result in
    let h : at < length bs.items = omega (arith, bs.ok.0) in
    omega (arith, ap length (items_is bs.items at b h c.index.ensures), ap length c.deref-2.ensures.value, c.in-Ok.ensures.bound)

pub returns-in-Ok-clause-found : goal.returns-in-Ok-clause-found
returns-in-Ok-clause-found g c =
    let bs = c.args.blocks.now in
    let b = c.index.result.now in
    let at = c.block_of-at.result in
    let h : at < length bs.items = omega (arith, bs.ok.0) in
    let e = c.deref-2.ensures.value ∙ sym (items_is bs.items at b h c.index.ensures) in
    let found = taken_at g.met.T.Ord.total bs.items at c.in-Ok.place c.args.value.now c.requires.sorted c.deref-2.result.now e c.in-Ok.ensures.bound c.in-Ok.ensures.ok in
    sym found.there

pub returns-in-Ok-clause-itself : goal.returns-in-Ok-clause-itself
returns-in-Ok-clause-itself g c =
    let bs = c.args.blocks.now in
    let b = c.index.result.now in
    let at = c.block_of-at.result in
    let x = c.take_at.result in
    let h : at < length bs.items = omega (arith, bs.ok.0) in
    let e : c.deref-2.result.now ≡ items_at bs.items at = c.deref-2.ensures.value ∙ sym (items_is bs.items at b h c.index.ensures) in
    let inside : c.in-Ok.place < length (items_at bs.items at) = omega (arith, ap length e, c.in-Ok.ensures.bound) in
    let is : x ≡ get_or c.deref-2.result.now c.in-Ok.place x = c.take_at.ensures.itself ∙ item_at bs.items at c.in-Ok.place x inside ∙ ap (λ xs. get_or xs c.in-Ok.place x) (sym e) in
    tied_back g.met.T.Ord.total x c.args.value.now (ap (λ y. g.T.Ord.cmp y c.args.value.now) is ∙ c.in-Ok.ensures.ok x)

pub returns-in-Ok-clause-rest : goal.returns-in-Ok-clause-rest
returns-in-Ok-clause-rest g c =
    let bs = c.args.blocks.now in
    let b = c.index.result.now in
    let at = c.block_of-at.result in
    let h : at < length bs.items = omega (arith, bs.ok.0) in
    let e = c.deref-2.ensures.value ∙ sym (items_is bs.items at b h c.index.ensures) in
    let found = taken_at g.met.T.Ord.total bs.items at c.in-Ok.place c.args.value.now c.requires.sorted c.deref-2.result.now e c.in-Ok.ensures.bound c.in-Ok.ensures.ok in
    c.take_at.ensures.rest ∙ sym found.gone

pub returns-in-Err-clause-found : goal.returns-in-Err-clause-found
returns-in-Err-clause-found g c =
    let bs = c.args.blocks.now in
    let b = c.index.result.now in
    let at = c.block_of-at.result in
    let h : at < length bs.items = omega (arith, bs.ok.0) in
    let e = c.deref-2.ensures.value ∙ sym (items_is bs.items at b h c.index.ensures) in
    let place = subst (λ bs. IsBlockOf g.T.Ord.cmp bs c.args.value.now at) c.deref.ensures.value c.block_of-at.ensures.place in
    let free = free_at g.met.T.Ord.total bs.items at c.in-Err.field-0 c.args.value.now c.requires.sorted c.deref-2.result.now e place c.in-Err.ensures.bound c.in-Err.ensures.position in
    sym free.none

pub returns-in-Err-clause-rest : goal.returns-in-Err-clause-rest
returns-in-Err-clause-rest g c =
    let bs = c.args.blocks.now in
    let b = c.index.result.now in
    let at = c.block_of-at.result in
    let h : at < length bs.items = omega (arith, bs.ok.0) in
    let e = c.deref-2.ensures.value ∙ sym (items_is bs.items at b h c.index.ensures) in
    let place = subst (λ bs. IsBlockOf g.T.Ord.cmp bs c.args.value.now at) c.deref.ensures.value c.block_of-at.ensures.place in
    let free = free_at g.met.T.Ord.total bs.items at c.in-Err.field-0 c.args.value.now c.requires.sorted c.deref-2.result.now e place c.in-Err.ensures.bound c.in-Err.ensures.position in
    sym (removed_none g.met.T.Ord.total (flat bs.items) c.args.value.now free.none)
