use Rattle.std.proofs.Common.{arith, rules}
use Rattle.nf_announce.proofs.keys.PlanKeysKeys.at.Goals as goal

pub overflow_cast-place : goal.overflow_cast-place
overflow_cast-place c = let few = c.args.self.now.few in let counted = c.args.self.now.counted in search (rules, arith, few, counted, c.requires)
