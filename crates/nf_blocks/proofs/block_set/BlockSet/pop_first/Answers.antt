-- The first element of the first block is the first of the list.
use Rattle.std.proofs.Common.{◌<◌, length, sym, ap, subst, ◌∙◌, arith}
use Rattle.std.proofs.lemmas.Bool.Decides.{nat_tests}
use Rattle.std.proofs.lemmas.Map.Keys.{sorted_tail}
use Rattle.std.specs.List.Sorted.{IsStrictlySortedBy}
use Rattle.nf_blocks.specs.inner.Flat.{flat}
use Rattle.nf_blocks.proofs.BlockLemmas.{first_filled, some_flat, uncons}
use Rattle.nf_blocks.proofs.block_set.BlockSet.pop_first.Goals as goal

pub overflow_sub-self : goal.overflow_sub-self
overflow_sub-self g c =
    let bs = c.self.inside.blocks in
    let some : 0 < length bs.items = grind (arith, nat_tests, bs.ok.0, c.if-is_empty.ensures) in
    omega (arith, some_flat bs.items some c.self.invariant.filled, c.self.invariant.counted)

pub take_at-requires-clause-in_block : goal.take_at-requires-clause-in_block
take_at-requires-clause-in_block g c =
    let bs = c.self.inside.blocks in
    let some : 0 < length bs.items = grind (arith, nat_tests, bs.ok.0, c.if-is_empty.ensures) in
    first_filled bs.items some c.self.invariant.filled

pub invariant_of-self : goal.invariant_of-self
invariant_of-self g c =
    let bs = c.self.inside.blocks in
    let some : 0 < length bs.items = grind (arith, nat_tests, bs.ok.0, c.if-is_empty.ensures) in
    let x = c.take_at.result in
    let new = flat c.take_at.new.blocks.items in
    let is = uncons (flat bs.items) x new (some_flat bs.items some c.self.invariant.filled) c.take_at.ensures.itself c.take_at.ensures.rest in
    record {
      sorted = sorted_tail g.T.Ord.cmp x new (subst (IsStrictlySortedBy g.T.Ord.cmp) is c.self.invariant.sorted);
      filled = c.take_at.ensures.filled;
      counted = omega (arith, ap length is, c.self.invariant.counted);
    }

pub returns-clause-first : goal.returns-clause-first
returns-clause-first g c =
    let bs = c.self.inside.blocks in
    let some : 0 < length bs.items = grind (arith, nat_tests, bs.ok.0, c.if-is_empty.ensures) in
    sym c.self.view_is ∙ uncons (flat bs.items) c.take_at.result (flat c.take_at.new.blocks.items) (some_flat bs.items some c.self.invariant.filled) c.take_at.ensures.itself c.take_at.ensures.rest

pub returns-clause-sorted : goal.returns-clause-sorted
returns-clause-sorted g c =
    let bs = c.self.inside.blocks in
    let some : 0 < length bs.items = grind (arith, nat_tests, bs.ok.0, c.if-is_empty.ensures) in
    let x = c.take_at.result in
    let new = flat c.take_at.new.blocks.items in
    let is = uncons (flat bs.items) x new (some_flat bs.items some c.self.invariant.filled) c.take_at.ensures.itself c.take_at.ensures.rest in
    sorted_tail g.T.Ord.cmp x new (subst (IsStrictlySortedBy g.T.Ord.cmp) is c.self.invariant.sorted)
