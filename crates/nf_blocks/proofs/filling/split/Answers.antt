-- The two halves of a block follow one another.
use Rattle.std.proofs.Common.{◌≡◌, ◌+◌, ◌/◌, ◌<◌, ◌++◌, length, set, drop, ap, sym, subst, ◌∙◌, arith, length-append}
use Rattle.std.specs.List.{insert}
use Rattle.std.specs.Global.{Vec}
use Rattle.std.proofs.lemmas.List.{take-append-drop}
use Rattle.std.proofs.lemmas.List.Elements.{All-set}
use Rattle.nf_blocks.specs.inner.Flat.{flat}
use Rattle.nf_blocks.specs.inner.Places.{items_at, AreFilled}
use Rattle.nf_blocks.proofs.BlockLemmas.{items_is, flat_split, split_first, split_second, filled_insert, if_ok, on_ok}
use Rattle.nf_blocks.proofs.filling.split.Goals as goal

pub returns-clause-flat : goal.returns-clause-flat
returns-clause-flat g c =
    let bs = c.args.blocks.now in
    let rs = c.reserve.new.self in
    let at = c.args.at in
    let b = c.split_off.new.self in
    let back = c.in_ok-back.back in
    let h : at < length rs.items = omega (arith, rs.ok.0, c.reserve.ensures.len) in
    let room : rs.len < rs.cap = omega (arith, c.in_ok-reserve.ensures.ok) in
    let done : c.insert.new.self.items ≡ insert (set rs.items at b) (at + 1) back = c.insert.ensures.items ∙ if_ok c.insert.result _ _ (c.insert.ensures.succeeds room) in
    let whole : items_at rs.items at ≡ b.items ++ back.items =
    items_is rs.items at c.index_mut.result.now h c.index_mut.ensures.value
    ∙ sym (take-append-drop (c.len-half.result / 2) c.index_mut.result.now.items)
    ∙ ap (λ xs. xs ++ drop (c.len-half.result / 2) c.index_mut.result.now.items) (sym c.in_ok-back.ensures.items)
    ∙ ap (λ xs. b.items ++ xs) (sym c.in_ok-back.ensures.tail) in
    ap flat done ∙ flat_split rs.items at b back h whole ∙ ap flat c.reserve.ensures.items

pub returns-clause-parts : goal.returns-clause-parts
returns-clause-parts g c =
    let bs = c.args.blocks.now in
    let rs = c.reserve.new.self in
    let at = c.args.at in
    let b = c.split_off.new.self in
    let back = c.in_ok-back.back in
    let h : at < length rs.items = omega (arith, rs.ok.0, c.reserve.ensures.len) in
    let room : rs.len < rs.cap = omega (arith, c.in_ok-reserve.ensures.ok) in
    let done : c.insert.new.self.items ≡ insert (set rs.items at b) (at + 1) back = c.insert.ensures.items ∙ if_ok c.insert.result _ _ (c.insert.ensures.succeeds room) in
    let whole : items_at rs.items at ≡ b.items ++ back.items =
    items_is rs.items at c.index_mut.result.now h c.index_mut.ensures.value
    ∙ sym (take-append-drop (c.len-half.result / 2) c.index_mut.result.now.items)
    ∙ ap (λ xs. xs ++ drop (c.len-half.result / 2) c.index_mut.result.now.items) (sym c.in_ok-back.ensures.items)
    ∙ ap (λ xs. b.items ++ xs) (sym c.in_ok-back.ensures.tail) in
    let first = ap (λ xs. length (items_at xs at)) done ∙ ap length (split_first rs.items at b back h) in
    let second = ap (λ xs. length (items_at xs (at + 1))) done ∙ ap length (split_second rs.items at b back h) in
    let old = ap (λ xs. length (items_at xs at)) c.reserve.ensures.items in
    on_ok c.match-insert.result (omega (arith, first, second, old, ap length whole, length-append b.items back.items))

pub returns-clause-filled : goal.returns-clause-filled
returns-clause-filled g c =
    let bs = c.args.blocks.now in
    let rs = c.reserve.new.self in
    let at = c.args.at in
    let b = c.split_off.new.self in
    let back = c.in_ok-back.back in
    let h : at < length rs.items = omega (arith, rs.ok.0, c.reserve.ensures.len) in
    let room : rs.len < rs.cap = omega (arith, c.in_ok-reserve.ensures.ok) in
    let done : c.insert.new.self.items ≡ insert (set rs.items at b) (at + 1) back = c.insert.ensures.items ∙ if_ok c.insert.result _ _ (c.insert.ensures.succeeds room) in
    let P = λ (w : Vec g.row.T.Denot). 0 < length w.items in
    let old = ap (λ xs. length (items_at xs at)) c.reserve.ensures.items in
    let one = ap length (items_is rs.items at c.index.result.now h c.index.ensures) in
    let same = ap length (items_is rs.items at c.index_mut.result.now h c.index_mut.ensures.value) in
    let count : 1 < c.len-half.result = omega (arith, c.requires.two, old, one, c.index.result.now.ok.0, c.len-half.ensures) in
    let left : 0 < length b.items = omega (arith, count, b.ok.0, c.in_ok-back.ensures.len) in
    let right : 0 < length back.items = omega (arith, count, back.ok.0, c.in_ok-back.ensures.tail_len, same, one, c.index.result.now.ok.0, c.index_mut.result.now.ok.0, c.len-half.ensures) in
    subst AreFilled (sym done) (filled_insert (set rs.items at b) (at + 1) back (All-set P rs.items at b left (subst AreFilled (sym c.reserve.ensures.items) c.requires.filled)) right)
