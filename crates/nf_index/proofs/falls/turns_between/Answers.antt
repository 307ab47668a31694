use Rattle.std.proofs.Common.{◌≡◌, Some, sym, ap, ◌∙◌, filter, arith}
use Rattle.std.specs.Option.{option_copied}
use Rattle.nf_index.specs.inner.Orders.{fall}
use Rattle.nf_index.proofs.FallLemmas.{before, after, last_of, first_of, last_given, first_given, falls_inserted, falls_without}
use Rattle.nf_index.proofs.falls.turns_between.Goals as goal

pub returns : goal.returns
returns c absent =
    let i = c.args.interval.now in
    let is = c.args.begins.now in
    let last : last_of (filter (before i) is) ≡ option_copied c.next_back-before.result = ap last_of (sym (c.range-part.ensures.between tt)) ∙ last_given _ _ _ c.next_back-before.ensures.steps in
    let first : first_of (filter (after i) is) ≡ option_copied c.next-after.result = ap first_of (sym (c.range-part-2.ensures.between tt)) ∙ first_given _ _ _ c.next-after.ensures.steps in
    let one : c.fall_of.result ≡ fall (last_of (filter (before i) is)) (Some i) = c.fall_of.ensures.is ∙ ap (λ o. fall o (Some i)) (sym last) in
    let two : c.fall_of-2.result ≡ fall (Some i) (first_of (filter (after i) is)) = c.fall_of-2.ensures.is ∙ ap (fall (Some i)) (sym first) in
    let three : c.fall_of-3.result ≡ fall (last_of (filter (before i) is)) (first_of (filter (after i) is)) = c.fall_of-3.ensures.is ∙ (λ k. fall (sym last k) (sym first k)) in
    record {
      changes = rw (one, two, three) (falls_inserted i is c.range-part.ensures.sorted absent);
      within = rw three (falls_without i is c.range-part.ensures.sorted absent);
      most = omega (arith, c.fall_of.ensures.most, c.fall_of-2.ensures.most);
    }
