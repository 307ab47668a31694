-- The block is the first that doesn't end before the element, or the last.
use Rattle.std.proofs.Common.{◌≡◌, ◌+◌, ◌-◌, ◌<◌, length, ap, sym, subst, ◌∙◌, arith}
use Rattle.nf_blocks.specs.inner.Gaps.{ends_before}
use Rattle.nf_blocks.specs.inner.Places.{items_at}
use Rattle.nf_blocks.proofs.BlockLemmas.{items_is}
use Rattle.nf_blocks.proofs.SearchLemmas.{last_block, part_within, searched_block}
use Rattle.nf_blocks.proofs.search.block_of.Goals as goal

pub returns-then-ends_before-clause-place : goal.returns-then-ends_before-clause-place
returns-then-ends_before-clause-place g c =
    let bs = c.args.blocks.now in
    let v = c.args.value.now in
    let b = c.index-blocks-last.result in
    let h : length bs - 1 < length bs = omega (arith, c.requires.some) in
    let end : length bs - 1 + 1 ≡ length bs = omega (arith, c.requires.some) in
    let e = items_is bs (length bs - 1) b h c.index-blocks-last.is in
    let some : 0 < length b.items = subst (λ w. 0 < length w.items) (sym c.index-blocks-last.is) (c.requires.sorted.filled (length bs - 1) b h) in
    let there : 0 < length (items_at bs (length bs - 1)) = omega (arith, ap length e, some) in
    last_block g.met.T.Ord.total v bs (length bs - 1) end c.requires.sorted.sorted there
    (ap (ends_before g.T.Ord.cmp v) (e ∙ sym c.deref.ensures.value) ∙ sym c.ends_before.ensures ∙ c.if-ends_before.true)

pub returns-clause-in_blocks : goal.returns-clause-in_blocks
returns-clause-in_blocks g c =
    let bs = c.args.blocks.now in
    let v = c.args.value.now in
    let h : length bs - 1 < length bs = omega (arith, c.requires.some) in
    let end : length bs - 1 + 1 ≡ length bs = omega (arith, c.requires.some) in
    part_within g.met.T.Ord.total v bs (length bs - 1) c.first_not_before.result c.index-blocks-last.result h c.first_not_before.ensures.bound end c.index-blocks-last.is
    (ap (ends_before g.T.Ord.cmp v) (sym c.deref.ensures.value) ∙ sym c.ends_before.ensures ∙ c.if-ends_before.false) c.first_not_before.ensures.parts.0

pub returns-clause-place : goal.returns-clause-place
returns-clause-place g c =
    let bs = c.args.blocks.now in
    let v = c.args.value.now in
    let h : length bs - 1 < length bs = omega (arith, c.requires.some) in
    let end : length bs - 1 + 1 ≡ length bs = omega (arith, c.requires.some) in
    let within = part_within g.met.T.Ord.total v bs (length bs - 1) c.first_not_before.result c.index-blocks-last.result h c.first_not_before.ensures.bound end c.index-blocks-last.is
    (ap (ends_before g.T.Ord.cmp v) (sym c.deref.ensures.value) ∙ sym c.ends_before.ensures ∙ c.if-ends_before.false) c.first_not_before.ensures.parts.0 in
    searched_block g.met.T.Ord.total v bs c.first_not_before.result within c.requires.sorted.sorted c.first_not_before.ensures.parts
