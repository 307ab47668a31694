use Rattle.std.proofs.Common.{◌≡◌, ◌||◌, true, false, cond, [], ◌∷◌, sym, ap, ◌∙◌, rules}
use Rattle.nf_core.specs.Intervals.{same}
use Rattle.nf_core.specs.Sets.{has, removed}
use Rattle.nf_tally.specs.inner.Fewer.{listed}
use Rattle.nf_tally.proofs.DeltaLemmas.{removed_absent}
use Rattle.nf_tally.proofs.few.Few.remove.Goals as goal

pub returns-then-is_ne-clause-found : goal.returns-then-is_ne-clause-found
returns-then-is_ne-clause-found c =
    let i = c.args.interval.now in
    let stands = sym c.self.view_is ∙ ap listed c.in-One.is in
    let other : same i c.in-One.one ≡ false = search (rules, c.if-is_ne.true, c.is_ne.ensures, c.cmp.ensures) in
    sym (ap (λ is. has is i) stands ∙ ap (λ b. b || false) other)

pub returns-then-is_ne-clause-rest : goal.returns-then-is_ne-clause-rest
returns-then-is_ne-clause-rest c =
    let i = c.args.interval.now in
    let stands = sym c.self.view_is ∙ ap listed c.in-One.is in
    let other : same i c.in-One.one ≡ false = search (rules, c.if-is_ne.true, c.is_ne.ensures, c.cmp.ensures) in
    sym (ap (removed i) stands ∙ ap (λ b. cond b [] (c.in-One.one ∷ [])) other)

pub returns-else-is_ne-clause-found : goal.returns-else-is_ne-clause-found
returns-else-is_ne-clause-found c =
    let i = c.args.interval.now in
    let stands = sym c.self.view_is ∙ ap listed c.in-One.is in
    let it : same i c.in-One.one ≡ true = search (rules, c.if-is_ne.false, c.is_ne.ensures, c.cmp.ensures) in
    sym (ap (λ is. has is i) stands ∙ ap (λ b. b || false) it)

pub returns-else-is_ne-clause-rest : goal.returns-else-is_ne-clause-rest
returns-else-is_ne-clause-rest c =
    let i = c.args.interval.now in
    let stands = sym c.self.view_is ∙ ap listed c.in-One.is in
    let it : same i c.in-One.one ≡ true = search (rules, c.if-is_ne.false, c.is_ne.ensures, c.cmp.ensures) in
    sym (ap (removed i) stands ∙ ap (λ b. cond b [] (c.in-One.one ∷ [])) it)

pub returns-in-Many-clause-none : goal.returns-in-Many-clause-none
returns-in-Many-clause-none c = λ none.
    c.remove.ensures.rest ∙ removed_absent c.args.interval.now c.in-Many.set (sym c.remove.ensures.found ∙ none) ∙ sym (ap listed c.in-Many.is) ∙ c.self.view_is

pub returns-else-is_ne-clause-none : goal.returns-else-is_ne-clause-none
returns-else-is_ne-clause-none c = λ none. absurd cc
