-- The candidates of both stores are the intervals that have a source.
use Rattle.std.proofs.Common.{◌≡◌, ◌||◌, true, false, sym, ap, ◌∙◌}
use Rattle.nf_core.specs.Sets.{has}
use Rattle.nf_tally.specs.Numbers.{number, is_on}
use Rattle.nf_minimal.specs.Minimals.{Minimal}
use Rattle.nf_minimal.proofs.FurtherLemmas.{has_source}
use Rattle.nf_minimal.proofs.minimal.Minimal.has_source.Goals as goal

pub returns-then-has : goal.returns-then-has
returns-then-has c =
    let m = c.self.inside in
    let i = c.args.interval.now in
    let there : has m.held i ≡ true = sym c.has.ensures ∙ c.if-has.true in
    c.if-has.true ∙ sym (ap (λ b. b || has m.suppressed i) there) ∙ has_source m.more m.held m.suppressed i
    ∙ ap (λ (m : Minimal). is_on (number m.sources i)) c.self.view_is

pub returns-else-has : goal.returns-else-has
returns-else-has c =
    let m = c.self.inside in
    let i = c.args.interval.now in
    let out : has m.held i ≡ false = sym c.has.ensures ∙ c.if-has.false in
    c.has-else-has.ensures ∙ sym (ap (λ b. b || has m.suppressed i) out) ∙ has_source m.more m.held m.suppressed i
    ∙ ap (λ (m : Minimal). is_on (number m.sources i)) c.self.view_is
