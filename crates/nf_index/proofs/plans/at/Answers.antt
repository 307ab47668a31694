use Rattle.std.proofs.Common.{◌∙◌, arith}
use Rattle.std.specs.Prelude.{◌<ℤ◌}
use Rattle.std.proofs.lemmas.Int.{ints}
use Rattle.std.proofs.lemmas.List.{append-nil}
use Rattle.nf_index.specs.inner.Orders.{has_times}
use Rattle.nf_index.proofs.WalkLemmas.{covers_part, covers_nothing, none_at, unless_true}
use Rattle.nf_index.proofs.plans.at.Goals as goal

pub returns-then-times : goal.returns-then-times
returns-then-times c w only =
    let backward : c.args.times.now.stop <ℤ c.args.times.now.start = grind (arith, ints, c.if-times.true) in
    covers_nothing w c.args.begins.now (λ i there. unless_true (w i) (λ h. none_at c.args.times.now i (c.requires.stored i there) backward (only i h)))

pub returns : goal.returns
returns c w only = covers_part w (has_times c.args.times.now) c.args.begins.now _ (append-nil _ ∙ c.with_times.ensures) (λ i there. only i)
