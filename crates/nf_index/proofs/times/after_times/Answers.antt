use Rattle.std.proofs.Common.{◌∙◌, arith}
use Rattle.std.proofs.lemmas.Int.{ints}
use Rattle.nf_index.proofs.PlaceLemmas.{past_times}
use Rattle.nf_index.proofs.times.after_times.Goals as goal

pub returns-else-times-lt9223372036854775807-clause-is : goal.returns-else-times-lt9223372036854775807-clause-is
returns-else-times-lt9223372036854775807-clause-is c i h = c.begin_after.ensures.is i h ∙ past_times c.args.times.now i h (grind (arith, ints, c.if-times-lt9223372036854775807.false))
