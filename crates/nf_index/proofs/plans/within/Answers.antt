use Rattle.std.proofs.Common.{◌≡◌, true, sym, ◌∙◌, true≢false, arith, rules}
use Rattle.std.specs.Prelude.{◌≤ℤ◌}
use Rattle.std.proofs.lemmas.Int.{ints}
use Rattle.nf_index.proofs.WalkLemmas.{between_is, at_or_after, covers_nothing, one_within, unless_true}
use Rattle.nf_index.proofs.plans.within.Goals as goal

pub returns-then-times : goal.returns-then-times
returns-then-times c w asks apart =
    let t = c.args.times.now in
    let on : c.args.strictly ≡ true = search (rules, c.if-strictly.true) in
    let backward : t.stop ≤ℤ t.start = grind (arith, ints, c.if-times.true) in
    covers_nothing w c.args.begins.now (λ i there. unless_true (w i) (λ h.
    true≢false (sym (one_within t i (c.requires.index.stored i there) backward (asks i h).0 (asks i h).1) ∙ apart on i h)))

pub returns : goal.returns
returns c w asks apart = c.run.ensures w apart (λ i there h. between_is c.begin_from-low.result c.past_ends-high.result i
    (c.begin_from-low.ensures.is i (c.requires.index.stored i there) ∙ at_or_after c.args.times.now.start i.start (asks i h).0)
    (c.past_ends-high.ensures.past c.args.begins.now c.requires.index i there (asks i h).1))
