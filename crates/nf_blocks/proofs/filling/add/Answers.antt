-- The binary search in the block says whether the element is in the list, and where it goes.
use Rattle.std.proofs.Common.{◌+◌, ◌<◌, length, not, ap, sym, subst, ◌∙◌, arith}
use Rattle.std.proofs.lemmas.List.Edits.{length-insert}
use Rattle.nf_blocks.specs.inner.Flat.{flat}
use Rattle.nf_blocks.specs.inner.Places.{start_of}
use Rattle.nf_blocks.specs.inner.Gaps.{IsBlockOf}
use Rattle.nf_blocks.proofs.BlockLemmas.{items_is}
use Rattle.nf_blocks.proofs.PlaceLemmas.{free_at, taken_at}
use Rattle.nf_blocks.proofs.filling.add.Goals as goal

pub put-requires-clause-in_block : goal.put-requires-clause-in_block
put-requires-clause-in_block g c =
    let bs = c.args.blocks.now in
    let b = c.index.result.now in
    let at = c.block_of-at.result in
    let h : at < length bs.items = omega (arith, bs.ok.0) in
    omega (arith, ap length (items_is bs.items at b h c.index.ensures), ap length c.deref-2.ensures.value, c.in-Err.ensures.bound)

pub returns-in-Ok-clause-added : goal.returns-in-Ok-clause-added
returns-in-Ok-clause-added g c =
    let bs = c.args.blocks.now in
    let b = c.index.result.now in
    let at = c.block_of-at.result in
    let h : at < length bs.items = omega (arith, bs.ok.0) in
    let e = c.deref-2.ensures.value ∙ sym (items_is bs.items at b h c.index.ensures) in
    let found = taken_at g.met.T.Ord.total bs.items at c.in-Ok.field-0 c.args.value c.requires.sorted c.deref-2.result.now e c.in-Ok.ensures.bound c.in-Ok.ensures.ok in
    ap not (sym found.there)

pub returns-in-Ok-clause-ok : goal.returns-in-Ok-clause-ok
returns-in-Ok-clause-ok g c =
    let bs = c.args.blocks.now in
    let b = c.index.result.now in
    let at = c.block_of-at.result in
    let h : at < length bs.items = omega (arith, bs.ok.0) in
    let e = c.deref-2.ensures.value ∙ sym (items_is bs.items at b h c.index.ensures) in
    let found = taken_at g.met.T.Ord.total bs.items at c.in-Ok.field-0 c.args.value c.requires.sorted c.deref-2.result.now e c.in-Ok.ensures.bound c.in-Ok.ensures.ok in
    sym found.kept

pub returns-in_ok-put-in-Err-clause-added : goal.returns-in_ok-put-in-Err-clause-added
returns-in_ok-put-in-Err-clause-added g c =
    let bs = c.args.blocks.now in
    let b = c.index.result.now in
    let at = c.block_of-at.result in
    let h : at < length bs.items = omega (arith, bs.ok.0) in
    let e = c.deref-2.ensures.value ∙ sym (items_is bs.items at b h c.index.ensures) in
    let place = subst (λ bs. IsBlockOf g.T.Ord.cmp bs c.args.value at) c.deref.ensures.value c.block_of-at.ensures.place in
    let free = free_at g.met.T.Ord.total bs.items at c.in-Err.place c.args.value c.requires.sorted c.deref-2.result.now e place c.in-Err.ensures.bound c.in-Err.ensures.position in
    ap not (sym free.none)

pub returns-in_ok-put-in-Err-clause-ok : goal.returns-in_ok-put-in-Err-clause-ok
returns-in_ok-put-in-Err-clause-ok g c =
    let bs = c.args.blocks.now in
    let b = c.index.result.now in
    let at = c.block_of-at.result in
    let h : at < length bs.items = omega (arith, bs.ok.0) in
    let e = c.deref-2.ensures.value ∙ sym (items_is bs.items at b h c.index.ensures) in
    let place = subst (λ bs. IsBlockOf g.T.Ord.cmp bs c.args.value at) c.deref.ensures.value c.block_of-at.ensures.place in
    let free = free_at g.met.T.Ord.total bs.items at c.in-Err.place c.args.value c.requires.sorted c.deref-2.result.now e place c.in-Err.ensures.bound c.in-Err.ensures.position in
    c.in_ok-put-in-Err.ensures.ok ∙ sym free.placed

pub returns-in_ok-put-in-Err-clause-grown : goal.returns-in_ok-put-in-Err-clause-grown
returns-in_ok-put-in-Err-clause-grown g c =
    let bs = c.args.blocks.now in
    let b = c.index.result.now in
    let at = c.block_of-at.result in
    let h : at < length bs.items = omega (arith, bs.ok.0) in
    let e = c.deref-2.ensures.value ∙ sym (items_is bs.items at b h c.index.ensures) in
    let place = subst (λ bs. IsBlockOf g.T.Ord.cmp bs c.args.value at) c.deref.ensures.value c.block_of-at.ensures.place in
    let free = free_at g.met.T.Ord.total bs.items at c.in-Err.place c.args.value c.requires.sorted c.deref-2.result.now e place c.in-Err.ensures.bound c.in-Err.ensures.position in
    ap length c.in_ok-put-in-Err.ensures.ok ∙ length-insert (flat bs.items) (start_of bs.items at + c.in-Err.place) c.args.value free.bound
