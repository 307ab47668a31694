use Rattle.nf_parse.proofs.PartStepLemmas.{rule_limits}
use Rattle.nf_parse.proofs.rules.rule.Goals as goal

pub invariant_of-result : goal.invariant_of-result
invariant_of-result c = rw c.or_empty.ensures (rule_limits c.in_ok-head-2.head c.in_ok-body.body c.in_ok-filter.filter c.in_ok-entries.entries c.in_ok-start.start c.in_ok-stop.stop
    c.in_ok-filter.ensures.limits c.in_ok-entries.ensures.limits c.in_ok-start.ensures.limits c.in_ok-stop.ensures.limits)
