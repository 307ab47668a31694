-- A place behind the end of a block is one in the next.
use Rattle.std.proofs.Common.{◌≡◌, ◌+◌, ◌-◌, ◌<◌, length, ap, subst, arith}
use Rattle.std.specs.Result.{OnOk}
use Rattle.std.specs.List.{insert}
use Rattle.nf_blocks.specs.inner.Flat.{flat}
use Rattle.nf_blocks.specs.inner.Places.{items_at, start_of}
use Rattle.nf_blocks.proofs.BlockLemmas.{items_is, start_next}
use Rattle.nf_blocks.proofs.filling.put_in_half.Goals as goal

pub put_in-requires-clause-in_block : goal.put_in-requires-clause-in_block
put_in-requires-clause-in_block g c =
    let bs = c.args.blocks.now in
    let b = c.index.result.now in
    let h : c.args.at < length bs.items = omega (arith, bs.ok.0) in
    omega (arith, ap length (items_is bs.items c.args.at b h c.index.ensures), b.ok.0)

pub put_in-requires-else-place-half-clause-in_block : goal.put_in-requires-else-place-half-clause-in_block
put_in-requires-else-place-half-clause-in_block g c =
    let bs = c.args.blocks.now in
    let b = c.index.result.now in
    let h : c.args.at < length bs.items = omega (arith, bs.ok.0) in
    omega (arith, ap length (items_is bs.items c.args.at b h c.index.ensures), b.ok.0)

pub returns-else-place-half-clause-ok : goal.returns-else-place-half-clause-ok
returns-else-place-half-clause-ok g c =
    let bs = c.args.blocks.now in
    let b = c.index.result.now in
    let h : c.args.at < length bs.items = omega (arith, bs.ok.0) in
    let half : c.len-half.result ≡ length (items_at bs.items c.args.at) = omega (arith, ap length (items_is bs.items c.args.at b h c.index.ensures), b.ok.0) in
    let there : start_of bs.items (c.args.at + 1) + (c.args.place - c.len-half.result) ≡ start_of bs.items c.args.at + c.args.place = omega (arith, start_next bs.items c.args.at, half) in
    subst (λ n. OnOk c.put_in-else-place-half.result (flat c.put_in-else-place-half.new.blocks.items ≡ insert (flat bs.items) n c.args.value)) there c.put_in-else-place-half.ensures.ok
