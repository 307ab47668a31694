-- One more than what is beyond the first, where there is one.
use Rattle.std.proofs.Common.{◌≡◌, ◌+◌, cond, ap, sym, ◌∙◌}
use Rattle.nf_tally.specs.Numbers.{Numbers, number}
use Rattle.nf_tally.proofs.CountedLemmas.{number_counted}
use Rattle.nf_tally.proofs.tally.Tally.number.Goals as goal

pub returns-then-has : goal.returns-then-has
returns-then-has c =
    let i = c.args.interval.now in
    let beyond = c.self.inside.beyond in
    ap (λ n. n + 1) c.number.ensures ∙ ap (λ b. cond b (number beyond i + 1) 0) c.if-has.ensures
    ∙ sym (number_counted c.self.inside.known beyond i) ∙ ap (λ (numbers : Numbers). number numbers i) c.self.view_is

pub returns-else-has : goal.returns-else-has
returns-else-has c =
    let i = c.args.interval.now in
    let beyond = c.self.inside.beyond in
    ap (λ b. cond b (number beyond i + 1) 0) c.if-has.ensures ∙ sym (number_counted c.self.inside.known beyond i) ∙ ap (λ (numbers : Numbers). number numbers i) c.self.view_is
