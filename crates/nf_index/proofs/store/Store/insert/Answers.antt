use Rattle.std.proofs.Common.{◌≡◌, Bool, true, false, not, cond, refl, ap, subst, ◌∙◌, rules}
use Rattle.std.specs.Int.{w64}
use Rattle.std.specs.Int.RustNames.{FitsSigned}
use Rattle.nf_core.specs.Intervals.{interval_cmp, interval_cmp_total}
use Rattle.nf_core.specs.Sets.{has, inserted}
use Rattle.nf_core.proofs.Public.AscendingLemmas.{insert_key-present}
use Rattle.nf_core.proofs.Public.NumberLemmas.{i64_fits}
use Rattle.nf_index.specs.inner.Orders.{IsStored, has_end, is_same_end, times_of, falls}
use Rattle.nf_index.specs.declared.times.Times.{Times}
use Rattle.nf_index.proofs.IndexLemmas.{IsIndex-inserted, IsIndex-restored}
use Rattle.nf_index.proofs.EndLemmas.{end_entered}
use Rattle.nf_index.proofs.store.Store.insert.Goals as goal

pub returns-in_default-clause-ok : goal.returns-in_default-clause-ok
returns-in_default-clause-ok c = rw (← c.self.view_is) (insert_key-present interval_cmp interval_cmp_total c.self.inside.begins c.args.interval c.self.invariant.sorted (there (has c.self.inside.begins c.args.interval) c.in_default.ensures.absent))
  where
    there : (b : Bool) → false ≡ not b → b ≡ true
    there true e = refl
    there false e = e

pub invariant_of-self-in-Ok : goal.invariant_of-self-in-Ok
invariant_of-self-in-Ok c =
    let i = c.args.interval in
    let start : FitsSigned w64 c.interval.inside.start = search rules in
    let stop : FitsSigned w64 c.interval.inside.stop = search rules in
    let stored : IsStored i = subst IsStored c.interval.view_is (record { in_time = c.interval.invariant; least = (i64_fits _ start).low; most = (i64_fits _ stop).high }) in
    let new : c.insert-2.new.self ≡ inserted i c.self.inside.begins = c.in-Ok.ensures.ok in
    let entered : (t : Times) → has_end c.insert.new.self t ≡ cond (is_same_end (times_of i) t) true (has_end c.self.inside.ends t) = λ t. end_entered c.own_times-times.result c.self.inside.ends c.insert.new.self c.in_ok-entered.ensures.ok t ∙ ap (λ u. cond (is_same_end u t) true (has_end c.self.inside.ends t)) c.own_times-times.ensures.is in
    rw new (IsIndex-inserted i c.self.inside.begins c.self.inside.ends c.insert.new.self c.self.inside.falls c.counted-self-inside.result c.self.invariant stored entered (c.counted-self-inside.ensures ∙ ap falls new))

pub invariant_of-self-in-Err : goal.invariant_of-self-in-Err
invariant_of-self-in-Err c =
    let same : c.insert-2.new.self ≡ c.self.inside.begins = c.in-Err.ensures.err in
    rw same (IsIndex-restored c.own_times-times.result c.self.inside.begins c.self.inside.ends c.insert.new.self c.leave.new.ends c.self.inside.falls c.in_ok-entered.entered c.self.invariant c.in_ok-entered.ensures.added
    (end_entered c.own_times-times.result c.self.inside.ends c.insert.new.self c.in_ok-entered.ensures.ok) c.leave.ensures)
