-- The last two blocks decide where the one ends before the cut, else a search does.
use Rattle.std.proofs.Common.{◌≡◌, ◌-◌, true, false, Bool, not, length, ap, sym, refl, ◌∙◌, arith, true≢false}
use Rattle.std.proofs.lemmas.Bool.Decides.{nat_tests}
use Rattle.std.specs.Global.{Vec}
use Rattle.nf_blocks.specs.inner.Places.{last_passes}
use Rattle.nf_blocks.specs.inner.Cuts.{is_left}
use Rattle.nf_blocks.proofs.CutLemmas.{at_index, parted_at, cut_falls, blocks_parted}
use Rattle.nf_blocks.proofs.cuts.block_behind.Goals as goal
use Rattle.nf_blocks.proofs.cuts.block_behind.Goals.{then-count-lt2, else-count-lt2}

pub returns-then-ends_left-clause-parts : goal.returns-then-ends_left-clause-parts
returns-then-ends_left-clause-parts g c count blocks =
    let bs = c.args.blocks.now in
    let p = is_left g.T.Ord.cmp c.args.cut.now in
    let f = λ (b : Vec g.row.T.Denot). last_passes p b.items in
    let parted = blocks_parted g.met.T.Ord.total (cut_falls g.met.T.Ord.total c.args.cut.now) bs blocks.sorted blocks.filled in
    let last = c.index-blocks-count-else-not-ends_left in
    let passes = ap (last_passes p) (sym c.deref-else-not-ends_left.ensures.value) ∙ sym c.ends_left-else-not-ends_left.ensures ∙ c.if-ends_left.true in
    elim c.if-count-lt2.branch [
      | then-count-lt2 w ↦ grind (arith, nat_tests, w.if-count-lt2, sym w.value-is ∙ c.if-not-ends_left.false)
      | else-count-lt2 w ↦
          parted_at f bs (length bs - 1) (length bs) (omega (arith, w.if-count-lt2)) parted (omega (arith, w.if-count-lt2))
          (at_index f bs (length bs - 1) last.result true last.is (omega (arith, w.if-count-lt2)) passes) (λ d h. absurd (omega arith))
    ]

pub returns-else-ends_left-clause-parts : goal.returns-else-ends_left-clause-parts
returns-else-ends_left-clause-parts g c count blocks =
    let bs = c.args.blocks.now in
    let p = is_left g.T.Ord.cmp c.args.cut.now in
    let f = λ (b : Vec g.row.T.Denot). last_passes p b.items in
    let parted = blocks_parted g.met.T.Ord.total (cut_falls g.met.T.Ord.total c.args.cut.now) bs blocks.sorted blocks.filled in
    let last = c.index-blocks-count-else-not-ends_left in
    let fails = ap (last_passes p) (sym c.deref-else-not-ends_left.ensures.value) ∙ sym c.ends_left-else-not-ends_left.ensures ∙ c.if-ends_left.false in
    elim c.if-count-lt2.branch [
      | then-count-lt2 w ↦ grind (arith, nat_tests, w.if-count-lt2, sym w.value-is ∙ c.if-not-ends_left.false)
      | else-count-lt2 w ↦
          let before = w.index-blocks-count in
          let passes = ap (last_passes p) (sym w.deref.ensures.value) ∙ sym w.ends_left.ensures ∙ not_false w.ends_left.result (sym w.value-is ∙ c.if-not-ends_left.false) in
          parted_at f bs (length bs - 2) (length bs - 1) (omega (arith, w.if-count-lt2)) parted (omega (arith, w.if-count-lt2))
          (at_index f bs (length bs - 2) before.result true before.is (omega (arith, w.if-count-lt2)) passes)
          (λ d h. at_index f bs (length bs - 1) last.result false last.is h fails d)
    ]
  where
    not_false : (b : Bool) → not b ≡ false → b ≡ true
    not_false true e = refl
    not_false false e = absurd (true≢false e)
