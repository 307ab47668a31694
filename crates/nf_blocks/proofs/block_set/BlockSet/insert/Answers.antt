-- An element more, in its order.
use Rattle.std.proofs.Common.{◌+◌, length, sym, ap, subst, ◌∙◌, arith, if◌then◌else◌}
use Rattle.std.specs.List.Sorted.{IsStrictlySortedBy}
use Rattle.nf_blocks.specs.inner.Flat.{flat}
use Rattle.nf_blocks.proofs.ChangeLemmas.{sorted_insert_key}
use Rattle.nf_blocks.proofs.block_set.BlockSet.insert.Goals as goal
use Rattle.nf_blocks.proofs.block_set.BlockSet.insert.Goals.{then-added, else-added}

pub invariant_of-self-then-added : goal.invariant_of-self-then-added
invariant_of-self-then-added g c =
    let old = flat c.self.inside.blocks.items in
    let grown = c.in_ok-added.ensures.grown ∙ ap (λ b. length old + (if b then 1 else 0)) c.if-added.true in
    record {
      sorted = subst (IsStrictlySortedBy g.T.Ord.cmp) (sym c.in_ok-added.ensures.ok) (sorted_insert_key g.met.T.Ord.total old c.args.value c.self.invariant.sorted);
      filled = c.add.ensures.filled;
      counted = omega (arith, grown, c.self.invariant.counted);
    }

pub invariant_of-self-else-added : goal.invariant_of-self-else-added
invariant_of-self-else-added g c =
    let old = flat c.self.inside.blocks.items in
    let grown = c.in_ok-added.ensures.grown ∙ ap (λ b. length old + (if b then 1 else 0)) c.if-added.false in
    record {
      sorted = subst (IsStrictlySortedBy g.T.Ord.cmp) (sym c.in_ok-added.ensures.ok) (sorted_insert_key g.met.T.Ord.total old c.args.value c.self.invariant.sorted);
      filled = c.add.ensures.filled;
      counted = omega (arith, grown, c.self.invariant.counted);
    }

pub returns-clause-sorted : goal.returns-clause-sorted
returns-clause-sorted g c =
    let old = flat c.self.inside.blocks.items in
    let sorted = subst (IsStrictlySortedBy g.T.Ord.cmp) (sym c.in_ok-added.ensures.ok) (sorted_insert_key g.met.T.Ord.total old c.args.value c.self.invariant.sorted) in
    elim c.if-added.branch [ then-added w ↦ rw w.self-is sorted | else-added w ↦ rw w.self-is sorted ]
