use Rattle.std.proofs.Common.{◌≡◌, not, ◌&&◌, sym, ap, ◌∙◌}
use Rattle.std.specs.List.{list_any}
use Rattle.std.specs.Option.{is_some}
use Rattle.nf_index.specs.declared.times.Times.{Times}
use Rattle.nf_index.specs.inner.Orders.{has_end, has_times, times_of, is_same_end}
use Rattle.nf_index.proofs.FallLemmas.{first_of, first_in}
use Rattle.nf_index.proofs.PlaceLemmas.{first_passes, some_alike}
use Rattle.nf_index.proofs.IndexLemmas.{stored_besides, IsIndex-taken}
use Rattle.nf_index.proofs.store.taken.Goals as goal

pub with_times-others-requires-clause-stored : goal.with_times-others-requires-clause-stored
with_times-others-requires-clause-stored c = stored_besides c.args.interval.now c.args.begins.now c.requires.index.stored

pub returns : goal.returns
returns c =
    let i = c.args.interval.now in
    let is = c.args.begins.now in
    let others : c.is_some-others.result ≡ list_any (has_times (times_of i)) is =
    c.is_some-others.ensures ∙ some_alike c.next_in.result ∙ ap is_some (sym (first_in c.next_in.result c.with_times-others.result c.next_in.new.part c.next_in.ensures)) ∙ ap (λ js. is_some (first_of js)) c.with_times-others.ensures ∙ first_passes (has_times c.own_times-times.result) is ∙ ap (λ u. list_any (has_times u) is) c.own_times-times.ensures.is in
    let left : (t : Times) → has_end c.leave.new.ends t ≡ (has_end c.args.ends.now t && not (not (list_any (has_times (times_of i)) is) && is_same_end (times_of i) t)) =
    λ t. c.leave.ensures t ∙ (λ k. has_end c.args.ends.now t && not (not (others k) && is_same_end (c.own_times-times.ensures.is k) t)) in
    IsIndex-taken i is c.args.ends.now c.leave.new.ends c.args.falls c.counted.result c.requires.index c.turns_at-turns.ensures.sorted left c.counted.ensures
