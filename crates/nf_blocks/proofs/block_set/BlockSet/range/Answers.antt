-- What is between two cuts is what is between the bounds.
use Rattle.std.proofs.Common.{not, filter, take, drop, ap, subst, ◌∙◌}
use Rattle.std.specs.BTreeMap.Range.{range_contains, is_from_start, is_past_end}
use Rattle.nf_blocks.specs.inner.Flat.{flat, AreBlocks}
use Rattle.nf_blocks.specs.inner.Cuts.{is_left, index_of, IsPlace}
use Rattle.nf_blocks.proofs.CutLemmas.{between_cuts, is_between}
use Rattle.nf_blocks.proofs.block_set.BlockSet.range.Goals as goal

pub returns-clause-between : goal.returns-clause-between
returns-clause-between g c bounds =
    let bs = c.self.inside.blocks.items in
    let R = g.T.Ord.cmp in
    let lo = g.R.RangeBounds.start_bound c.args.range in
    let hi = g.R.RangeBounds.end_bound c.args.range in
    let start = c.place_of-start.result in
    let end' = c.place_of-end.result in
    let p = is_left R c.at_start.result in
    let q = is_left R c.at_end.result in
    let first = subst (λ cs. AreBlocks R cs c.self.inside.len → IsPlace p cs start) c.deref.ensures.value
    (c.place_of-start.ensures.place c.self.inside.len) c.self.invariant in
    let last = subst (λ cs. AreBlocks R cs c.self.inside.len → IsPlace q cs end') c.deref-2.ensures.value
    (c.place_of-end.ensures.place c.self.inside.len) c.self.invariant in
    let is = λ (x : g.row.T.Denot). is_between (is_from_start R lo x) (is_past_end R hi x) (p x) (q x)
    (c.at_start.ensures R x ∙ ap (λ b. not (is_from_start R b x)) (c.start_bound.ensures bounds))
    (c.at_end.ensures R x ∙ ap (λ b. not (is_past_end R b x)) (c.end_bound.ensures bounds)) in
    c.between.ensures
    ∙ ap (λ cs. drop (index_of cs start) (take (index_of cs end') (flat cs))) c.deref-3.ensures.value
    ∙ between_cuts p q (range_contains R lo hi) (flat bs) (index_of bs start) (index_of bs end') is first.cut last.cut
    ∙ ap (λ xs. filter (range_contains R lo hi) xs) c.self.view_is
