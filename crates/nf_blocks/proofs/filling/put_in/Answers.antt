-- An insertion into a block is one into the list.
use Rattle.std.proofs.Common.{◌<◌, length, ap, arith}
use Rattle.nf_blocks.proofs.BlockLemmas.{items_is, put_ok, put_err}
use Rattle.nf_blocks.proofs.filling.put_in.Goals as goal

pub insert-requires : goal.insert-requires
insert-requires g c =
    let bs = c.args.blocks.now in
    let b = c.index_mut.result.now in
    let h : c.args.at < length bs.items = omega (arith, bs.ok.0) in
    omega (arith, ap length (items_is bs.items c.args.at b h c.index_mut.ensures.value), b.ok.0)

pub returns-clause-ok : goal.returns-clause-ok
returns-clause-ok g c =
    let bs = c.args.blocks.now in
    let h : c.args.at < length bs.items = omega (arith, bs.ok.0) in
    put_ok c.insert.result bs.items c.args.at c.args.place c.args.value c.index_mut.result.now c.insert.new.self h c.index_mut.ensures.value c.requires.in_block c.insert.ensures.items

pub returns-clause-err : goal.returns-clause-err
returns-clause-err g c =
    let bs = c.args.blocks.now in
    let h : c.args.at < length bs.items = omega (arith, bs.ok.0) in
    put_err c.insert.result bs.items c.args.at c.args.place c.args.value c.index_mut.result.now c.insert.new.self h c.index_mut.ensures.value c.insert.ensures.items
