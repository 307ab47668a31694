-- One rule more is in the index.
use Rattle.std.proofs.Common.{◌≡◌, length, arith}
use Rattle.nf_engine.proofs.IndexLemmas.{readers_more, readers_all}
use Rattle.nf_engine.proofs.beginnings.index_readers.Goals as goal

pub loop-rule-preserved : goal.loop-rule-preserved
loop-rule-preserved c =
    readers_more c.args.plan.now c.loop-rule.rule c.loop-rule.readers.items c.index_rule.new.readers.items c.loop-rule.invariant c.in_ok-index_rule.ensures

pub returns : goal.returns
returns c =
    let all : c.loop-rule.rule ≡ length c.args.plan.now.rules = omega arith in
    readers_all c.args.plan.now c.loop-rule.rule c.loop-rule.readers.items all c.loop-rule.invariant
