-- Nothing is known of an interval that has no number; else one more of it is counted beyond the first.
use Rattle.std.proofs.Common.{◌≡◌, ◌+◌, ◌<◌, ◌^◌, ap, sym, ◌∙◌, rules, arith}
use Rattle.nf_tally.specs.Numbers.{Numbers, number, one_at, is_on}
use Rattle.nf_tally.proofs.CountedLemmas.{is_known, raised_number, raised_counted}
use Rattle.nf_tally.proofs.tally.Tally.raise_known.Goals as goal

pub returns-then-not-has-clause-known : goal.returns-then-not-has-clause-known
returns-then-not-has-clause-known c =
    c.if-not-has.ensures ∙ sym (is_known c.self.inside.known c.self.inside.beyond c.args.interval.now) ∙ ap (λ (numbers : Numbers). is_on (number numbers c.args.interval.now)) c.self.view_is

pub returns-clause-known : goal.returns-clause-known
returns-clause-known c =
    c.if-not-has.ensures ∙ sym (is_known c.self.inside.known c.self.inside.beyond c.args.interval.now) ∙ ap (λ (numbers : Numbers). is_on (number numbers c.args.interval.now)) c.self.view_is

pub invariant_of-self-2 : goal.invariant_of-self-2
invariant_of-self-2 c =
    let i = c.args.interval.now in
    let was = c.number.ensures in
    let room : number c.self.inside.beyond i + 2 < 2 ^ 128 = grind (arith, c.if-number.false) in
    raised_counted i c.self.inside.known c.self.inside.beyond c.self.invariant c.raise_copy.new.self (sym c.if-not-has.ensures) c.in_ok-raise_copy.ensures.ok room

pub returns-clause-raised : goal.returns-clause-raised
returns-clause-raised c = λ _ q.
    raised_number c.args.interval.now c.self.inside.known c.self.inside.beyond c.self.invariant c.raise_copy.new.self (sym c.if-not-has.ensures) c.in_ok-raise_copy.ensures.ok q
    ∙ ap (λ (numbers : Numbers). number numbers q + one_at c.args.interval.now q) c.self.view_is
