-- A removal from a block is one from the list.
use Rattle.std.proofs.Common.{◌≡◌, ◌<◌, length, get_or, ap, sym, ◌∙◌, arith}
use Rattle.std.specs.List.{remove}
use Rattle.std.proofs.lemmas.Bool.Decides.{nat_tests}
use Rattle.std.proofs.lemmas.List.{nil_from_length, get_or-set_same}
use Rattle.nf_blocks.specs.inner.Flat.{flat}
use Rattle.nf_blocks.specs.inner.Places.{items_at}
use Rattle.nf_blocks.proofs.BlockLemmas.{items_is, flat_remove, flat_without, item_at}
use Rattle.nf_blocks.proofs.removing.take_at.Goals as goal

pub remove-taken-requires : goal.remove-taken-requires
remove-taken-requires g c =
    let bs = c.args.blocks.now in
    let b = c.index_mut.result.now in
    let h : c.args.at < length bs.items = omega (arith, bs.ok.0) in
    omega (arith, ap length (items_is bs.items c.args.at b h c.index_mut.ensures.value), b.ok.0)

pub returns-then-is_empty-clause-itself : goal.returns-then-is_empty-clause-itself
returns-then-is_empty-clause-itself g c =
    let bs = c.args.blocks.now in
    let b = c.index_mut.result.now in
    let h : c.args.at < length bs.items = omega (arith, bs.ok.0) in
    let e : items_at bs.items c.args.at ≡ b.items = items_is bs.items c.args.at b h c.index_mut.ensures.value in
    c.remove-taken.ensures.value
    ∙ ap (λ xs. get_or xs c.args.place c.remove-taken.result) (sym e)
    ∙ sym (item_at bs.items c.args.at c.args.place c.remove-taken.result c.requires.in_block)

pub returns-else-is_empty-clause-itself : goal.returns-else-is_empty-clause-itself
returns-else-is_empty-clause-itself g c =
    let bs = c.args.blocks.now in
    let b = c.index_mut.result.now in
    let h : c.args.at < length bs.items = omega (arith, bs.ok.0) in
    let e : items_at bs.items c.args.at ≡ b.items = items_is bs.items c.args.at b h c.index_mut.ensures.value in
    c.remove-taken.ensures.value
    ∙ ap (λ xs. get_or xs c.args.place c.remove-taken.result) (sym e)
    ∙ sym (item_at bs.items c.args.at c.args.place c.remove-taken.result c.requires.in_block)

pub returns-else-is_empty-clause-rest : goal.returns-else-is_empty-clause-rest
returns-else-is_empty-clause-rest g c =
    let bs = c.args.blocks.now in
    let b = c.index_mut.result.now in
    let h : c.args.at < length bs.items = omega (arith, bs.ok.0) in
    let e : items_at bs.items c.args.at ≡ b.items = items_is bs.items c.args.at b h c.index_mut.ensures.value in
    flat_remove bs.items c.args.at c.args.place c.remove-taken.new.self h c.requires.in_block (c.remove-taken.ensures.items ∙ ap (λ xs. remove xs c.args.place) (sym e))

pub returns-then-is_empty-clause-rest : goal.returns-then-is_empty-clause-rest
returns-then-is_empty-clause-rest g c =
    let bs = c.args.blocks.now in
    let b = c.index_mut.result.now in
    let new = c.remove-taken.new.self in
    let h : c.args.at < length bs.items = omega (arith, bs.ok.0) in
    let e : items_at bs.items c.args.at ≡ b.items = items_is bs.items c.args.at b h c.index_mut.ensures.value in
    let same : c.index.result.now ≡ new = c.index.ensures ∙ get_or-set_same bs.items c.args.at new c.index.result.now h in
    let count : length new.items ≡ c.index.result.now.len = omega (arith, new.ok.0, ap (λ v. v.len) same) in
    let none : length new.items ≡ 0 = grind (arith, nat_tests, count, c.if-is_empty.ensures) in
    ap flat c.remove.ensures.items
    ∙ flat_without bs.items c.args.at new h (nil_from_length new.items none)
    ∙ flat_remove bs.items c.args.at c.args.place new h c.requires.in_block (c.remove-taken.ensures.items ∙ ap (λ xs. remove xs c.args.place) (sym e))
