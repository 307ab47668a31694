-- A candidate has one more source besides its first one; another interval arrives.
use Rattle.std.proofs.Common.{◌≡◌, ◌+◌, refl, sym, ◌∙◌, arith}
use Rattle.std.proofs.lemmas.Result.{on_ok_weaker}
use Rattle.nf_core.specs.Intervals.{Interval}
use Rattle.nf_tally.specs.Numbers.{number, one_at}
use Rattle.nf_minimal.specs.inner.Moves.{Arrives}
use Rattle.nf_minimal.proofs.FurtherLemmas.{fewer_raised, fewer_arrived}
use Rattle.nf_minimal.proofs.counting.Counting.gain.Goals as goal

pub returns-then-has : goal.returns-then-has
returns-then-has c =
    let i = c.args.interval in
    let old = c.args.self.now in
    on_ok_weaker c.raise.result
    (λ (raised : (q : Interval) → number c.raise.new.self q ≡ number old.more q + one_at i q). record {
      full = refl;
      right = record {
        judged = c.requires.judged;
        fewer = fewer_raised i old.judging.held old.judging.suppressed old.more c.raise.new.self c.requires.fewer (sym c.has.ensures ∙ c.if-has.true) raised;
      };
      totals = λ q. let e = raised q in omega (arith, e);
      net = λ was lead. lead;
    }) c.raise.ensures.ok

pub returns : goal.returns
returns c =
    let i = c.args.interval in
    let old = c.args.self.now in
    let next = c.arrive.new.self in
    on_ok_weaker c.arrive.result
    (λ (arrives : Arrives i old.judging next). record {
      full = arrives.full;
      right = record {
        judged = arrives.judged;
        fewer = fewer_arrived i old.judging.held old.judging.suppressed next.held next.suppressed old.more c.requires.fewer arrives.members;
      };
      totals = λ q. let e = arrives.members q in omega (arith, e);
      net = arrives.net;
    }) c.arrive.ensures
