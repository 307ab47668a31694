-- The interval is known, and what its number is above 1 is counted; or nothing has changed.
use Rattle.std.proofs.Common.{◌≡◌, ℕ, ◌+◌, ◌-◌, ◌<◌, ◌^◌, Bool, true, false, cond, refl, ap, sym, subst, ◌∙◌, rules, arith}
use Rattle.std.proofs.lemmas.Grind.{common_steps}
use Rattle.nf_core.specs.Intervals.{Interval, same}
use Rattle.nf_core.specs.Sets.{has, inserted}
use Rattle.nf_core.proofs.Public.SameIntervalLemmas.{same_is}
use Rattle.nf_tally.specs.Numbers.{Numbers, number}
use Rattle.nf_tally.specs.inner.Counted.{counted, AreCounted}
use Rattle.nf_tally.proofs.NumberLemmas.{zero_unset}
use Rattle.nf_tally.proofs.CountedLemmas.{none_known, put_number, put_counted, counted_alike}
use Rattle.nf_tally.proofs.tally.Tally.put.Goals as goal
use Rattle.nf_tally.proofs.tally.Tally.put.Goals.{In_ok-insert, After-insert-2}

pub invariant_of-self-then-count-eq1 : goal.invariant_of-self-then-count-eq1
invariant_of-self-then-count-eq1 c =
    let i = c.args.interval in
    let known = c.self.inside.known in
    let beyond = c.self.inside.beyond in
    let absent = none_known known beyond i (ap (λ (numbers : Numbers). number numbers i) c.self.view_is ∙ c.requires.none) in
    let none = c.self.invariant.only i absent in
    subst (λ is. AreCounted is beyond) (sym c.in_ok-insert.ensures.ok)
    (put_counted i known beyond c.self.invariant beyond 0 absent (λ q. zero_unset i q 0 beyond refl none) (search rules))

pub returns-then-count-eq1-clause-ok : goal.returns-then-count-eq1-clause-ok
returns-then-count-eq1-clause-ok c = λ q.
    let i = c.args.interval in
    let known = c.self.inside.known in
    let beyond = c.self.inside.beyond in
    let absent = none_known known beyond i (ap (λ (numbers : Numbers). number numbers i) c.self.view_is ∙ c.requires.none) in
    let none = c.self.invariant.only i absent in
    ap (λ is. number (counted is beyond) q) c.in_ok-insert.ensures.ok
    ∙ put_number i known beyond c.self.invariant beyond 0 absent (λ p. zero_unset i p 0 beyond refl none) q
    ∙ (λ k. cond (same i q) (sym c.if-count-eq1.true k) (number (c.self.view_is k) q))

pub invariant_of-self-in-Ok : goal.invariant_of-self-in-Ok
invariant_of-self-in-Ok c =
    let i = c.args.interval in
    let known = c.self.inside.known in
    let beyond = c.self.inside.beyond in
    let absent = none_known known beyond i (ap (λ (numbers : Numbers). number numbers i) c.self.view_is ∙ c.requires.none) in
    let room : c.args.count - 1 + 1 < 2 ^ 128 = omega arith in
    subst (λ is. AreCounted is c.put.new.self) (sym c.in-Ok.ensures.ok)
    (put_counted i known beyond c.self.invariant c.put.new.self (c.args.count - 1) absent
    (λ q. c.in_ok-put.ensures.ok q ∙ ap (λ (j : Interval). cond (same j q) (c.args.count - 1) (number beyond q)) c.in_ok-copy.ensures) room)

pub returns-in-Ok-clause-ok : goal.returns-in-Ok-clause-ok
returns-in-Ok-clause-ok c = λ q.
    let i = c.args.interval in
    let known = c.self.inside.known in
    let beyond = c.self.inside.beyond in
    let absent = none_known known beyond i (ap (λ (numbers : Numbers). number numbers i) c.self.view_is ∙ c.requires.none) in
    let whole : c.args.count - 1 + 1 ≡ c.args.count = omega arith in
    ap (λ is. number (counted is c.put.new.self) q) c.in-Ok.ensures.ok
    ∙ put_number i known beyond c.self.invariant c.put.new.self (c.args.count - 1) absent
    (λ p. c.in_ok-put.ensures.ok p ∙ ap (λ (j : Interval). cond (same j p) (c.args.count - 1) (number beyond p)) c.in_ok-copy.ensures) q
    ∙ (λ k. cond (same i q) (whole k) (number (c.self.view_is k) q))

-- a number that was written where there was none and is taken away again
undone : (i : Interval) (n : ℕ) (beyond put cleared : Numbers) → number beyond i ≡ 0 → ((q : Interval) → number put q ≡ cond (same i q) n (number beyond q))
    → ((q : Interval) → number cleared q ≡ cond (same i q) 0 (number put q)) → (q : Interval) → number cleared q ≡ number beyond q
undone i n beyond put cleared none written away q = away q ∙ by (same i q) refl
  where
    by : (b : Bool) → same i q ≡ b → cond b 0 (number put q) ≡ number beyond q
    by true e = sym none ∙ ap (number beyond) (same_is i q e)
    by false e = written q ∙ ap (λ b. cond b n (number beyond q)) e

pub returns-clause-err : goal.returns-clause-err
returns-clause-err c =
    let i = c.args.interval in
    let known = c.self.inside.known in
    let beyond = c.self.inside.beyond in
    let absent = none_known known beyond i (ap (λ (numbers : Numbers). number numbers i) c.self.view_is ∙ c.requires.none) in
    let alike = undone i (c.args.count - 1) beyond c.put.new.self c.clear.new.self (c.self.invariant.only i absent)
    (λ q. c.in_ok-put.ensures.ok q ∙ ap (λ (j : Interval). cond (same j q) (c.args.count - 1) (number beyond q)) c.in_ok-copy.ensures)
    (λ q. c.clear.ensures q ∙ ap (λ (j : Interval). cond (same j q) 0 (number c.put.new.self q)) c.in_ok-key.ensures) in
    ap (λ is. counted is c.clear.new.self) c.in-Err.ensures.err ∙ counted_alike known c.clear.new.self beyond alike ∙ c.self.view_is
