use Rattle.nf_evaluation_cases.proofs.WideLemmas.{planned}
use Rattle.nf_evaluation_cases.proofs.wide.wide_rules.Goals as goal

pub returns : goal.returns
returns c =
    planned c.in_ok-first.first c.in_ok-second.second c.in_ok-atom_of.field-0 c.in_ok-rule_of.field-0 c.in_ok-rule_of-2.field-0 _ _ _ c.in_ok-first.ensures c.in_ok-second.ensures c.in_ok-atom_of.ensures c.in_ok-rule_of.ensures c.in_ok-rule_of-2.ensures c.new-rules.ensures
    c.in_ok-push.ensures.ok c.in_ok-push-2.ensures.ok
