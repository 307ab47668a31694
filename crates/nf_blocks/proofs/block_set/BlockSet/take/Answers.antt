-- An element less, or the same list.
use Rattle.std.proofs.Common.{◌≡◌, true, false, length, sym, ap, subst, ◌∙◌, arith}
use Rattle.std.specs.List.Sorted.{IsStrictlySortedBy}
use Rattle.std.specs.BTreeMap.{is_at}
use Rattle.std.proofs.lemmas.Map.Made.{length-remove_key}
use Rattle.nf_blocks.specs.Blocks.{has}
use Rattle.nf_blocks.specs.inner.Flat.{flat}
use Rattle.nf_blocks.proofs.ChangeLemmas.{sorted_removed, removed_none}
use Rattle.nf_blocks.proofs.block_set.BlockSet.take.Goals as goal

pub invariant_of-self : goal.invariant_of-self
invariant_of-self g c =
    let old = flat c.self.inside.blocks.items in
    let there : has g.T.Ord.cmp old c.args.value.now ≡ true = sym c.take-taken.ensures.found ∙ sym c.if-is_some.ensures in
    let less = length-remove_key (is_at (g.T.Ord.cmp c.args.value.now)) old there in
    record {
      sorted = subst (IsStrictlySortedBy g.T.Ord.cmp) (sym c.take-taken.ensures.rest) (sorted_removed g.met.T.Ord.total old c.args.value.now c.self.invariant.sorted);
      filled = c.take-taken.ensures.filled;
      counted = omega (arith, less, ap length c.take-taken.ensures.rest, c.self.invariant.counted);
    }

pub invariant_of-self-else-is_some : goal.invariant_of-self-else-is_some
invariant_of-self-else-is_some g c =
    let old = flat c.self.inside.blocks.items in
    let none : has g.T.Ord.cmp old c.args.value.now ≡ false = sym c.take-taken.ensures.found ∙ sym c.if-is_some.ensures in
    let same = ap length (removed_none g.met.T.Ord.total old c.args.value.now none) in
    record {
      sorted = subst (IsStrictlySortedBy g.T.Ord.cmp) (sym c.take-taken.ensures.rest) (sorted_removed g.met.T.Ord.total old c.args.value.now c.self.invariant.sorted);
      filled = c.take-taken.ensures.filled;
      counted = omega (arith, same, ap length c.take-taken.ensures.rest, c.self.invariant.counted);
    }

pub returns-then-is_some-clause-sorted : goal.returns-then-is_some-clause-sorted
returns-then-is_some-clause-sorted g c =
    let old = flat c.self.inside.blocks.items in
    subst (IsStrictlySortedBy g.T.Ord.cmp) (sym c.take-taken.ensures.rest) (sorted_removed g.met.T.Ord.total old c.args.value.now c.self.invariant.sorted)

pub returns-else-is_some-clause-sorted : goal.returns-else-is_some-clause-sorted
returns-else-is_some-clause-sorted g c =
    let old = flat c.self.inside.blocks.items in
    subst (IsStrictlySortedBy g.T.Ord.cmp) (sym c.take-taken.ensures.rest) (sorted_removed g.met.T.Ord.total old c.args.value.now c.self.invariant.sorted)
