-- The end of the last block is the end of the list, and a full block has two elements.
use Rattle.std.proofs.Common.{◌≡◌, ◌+◌, ◌<◌, length, ap, sym, subst, ◌∙◌, arith}
use Rattle.std.specs.Result.{OnOk}
use Rattle.std.specs.List.{insert}
use Rattle.std.proofs.lemmas.List.Edits.{insert_end}
use Rattle.nf_blocks.specs.inner.Flat.{flat}
use Rattle.nf_blocks.specs.inner.Places.{items_at, start_of}
use Rattle.nf_blocks.proofs.BlockLemmas.{items_is, last_end}
use Rattle.nf_blocks.proofs.filling.put.Goals as goal

pub returns-then-place-count-clause-ok : goal.returns-then-place-count-clause-ok
returns-then-place-count-clause-ok g c =
    let bs = c.args.blocks.now in
    let b = c.index.result.now in
    let h : c.args.at < length bs.items = omega (arith, bs.ok.0) in
    let count : c.args.place ≡ length (items_at bs.items c.args.at) = omega (arith, ap length (items_is bs.items c.args.at b h c.index.ensures), b.ok.0) in
    let last : c.args.at + 1 ≡ length bs.items = omega (arith, bs.ok.0) in
    let end : length (flat bs.items) ≡ start_of bs.items c.args.at + c.args.place = omega (arith, last_end bs.items c.args.at last, count) in
    subst (λ xs. OnOk c.add_block.result (flat c.add_block.new.blocks.items ≡ xs)) (sym (insert_end (flat bs.items) c.args.value) ∙ ap (λ n. insert (flat bs.items) n c.args.value) end) c.add_block.ensures.ok

pub split-requires-clause-two : goal.split-requires-clause-two
split-requires-clause-two g c =
    let bs = c.args.blocks.now in
    let b = c.index.result.now in
    let h : c.args.at < length bs.items = omega (arith, bs.ok.0) in
    omega (arith, ap length (items_is bs.items c.args.at b h c.index.ensures), b.ok.0)
