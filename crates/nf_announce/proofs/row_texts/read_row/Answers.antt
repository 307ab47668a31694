use Rattle.std.proofs.Common.{◌≡◌, [], length, Ok, ap, subst, add-one, arith}
use Rattle.std.specs.Cmp.Lexicographic.{nat_list_cmp_total}
use Rattle.nf_core.specs.Texts.{text_cmp}
use Rattle.nf_announce.proofs.Public.DistinctItemLemmas.{apart_sorted, apart_drop}
use Rattle.nf_announce.proofs.RowTextLemmas.{AreRead, none_prints, read_more, all_read}
use Rattle.nf_announce.proofs.row_texts.read_row.Goals as goal

pub returns-then-not-branch-clause-none : goal.returns-then-not-branch-clause-none
returns-then-not-branch-clause-none g c e other h =
    let keys = g.K.Keys.keys c.args.keys.now in
    none_prints keys c.args.pairs (λ place. apart_drop place keys (apart_sorted text_cmp nat_list_cmp_total keys c.requires)) c.loop-place.place c.loop-place.row c.loop-place.pairs c.loop-place.invariant _ c.at.ensures _ _ c.take-text.ensures
    (c.in_ok-push_cell.ensures.none (ap Ok c.if-not-branch.true)) other h

pub loop-place-preserved : goal.loop-place-preserved
loop-place-preserved g c =
    let keys = g.K.Keys.keys c.args.keys.now in
    rw add-one (read_more keys c.args.pairs (λ place. apart_drop place keys (apart_sorted text_cmp nat_list_cmp_total keys c.requires)) c.loop-place.place c.loop-place.row c.loop-place.pairs c.loop-place.invariant _ c.at.ensures _ _ c.take-text.ensures
    _ (c.in_ok-push_cell.ensures.done (ap Ok c.if-not-branch.false)))

pub returns-then-is_done-clause-some : goal.returns-then-is_done-clause-some
returns-then-is_done-clause-some g c =
    let keys = g.K.Keys.keys c.args.keys.now in
    let place : c.loop-place.place ≡ length keys = omega arith in
    let left = c.is_done.ensures.0 c.if-is_done.true in
    all_read keys c.args.pairs c.loop-place.row (subst (λ n. AreRead keys c.args.pairs n c.loop-place.row []) place (subst (AreRead keys c.args.pairs c.loop-place.place c.loop-place.row) left c.loop-place.invariant))
