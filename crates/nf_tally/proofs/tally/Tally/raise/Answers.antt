-- An interval without a number has 1 then.
use Rattle.std.proofs.Common.{◌≡◌, ◌+◌, cond, ap, sym, ◌∙◌}
use Rattle.std.proofs.lemmas.Result.{on_ok_weaker}
use Rattle.nf_core.specs.Intervals.{Interval, same}
use Rattle.nf_tally.specs.Numbers.{Numbers, number}
use Rattle.nf_tally.proofs.NumberLemmas.{one_more, off_is}
use Rattle.nf_tally.proofs.tally.Tally.raise.Goals as goal

pub returns-clause-ok : goal.returns-clause-ok
returns-clause-ok c =
    let i = c.args.interval in
    let none = off_is (number c.args.self.now i) (sym c.in_ok-raise_known.ensures.known ∙ c.if-branch.false) in
    let kept : c.raise_known.new.self ≡ c.args.self.now = c.in_ok-raise_known.ensures.unknown c.if-branch.false in
    on_ok_weaker c.put.result
    (λ (put : (q : Interval) → number c.put.new.self q ≡ cond (same c.args.interval q) 1 (number c.raise_known.new.self q)) q.
    one_more i q 1 c.args.self.now c.put.new.self
    (put q ∙ ap (λ (numbers : Numbers). cond (same i q) 1 (number numbers q)) kept) (ap (λ n. n + 1) none)) c.put.ensures.ok

pub put-requires-clause-none : goal.put-requires-clause-none
put-requires-clause-none c =
    let i = c.args.interval in
    let none = off_is (number c.args.self.now i) (sym c.in_ok-raise_known.ensures.known ∙ c.if-branch.false) in
    let kept : c.raise_known.new.self ≡ c.args.self.now = c.in_ok-raise_known.ensures.unknown c.if-branch.false in
    ap (λ (numbers : Numbers). number numbers i) kept ∙ none
