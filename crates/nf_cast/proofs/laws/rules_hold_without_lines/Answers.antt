use Rattle.nf_cast.proofs.RuleLinkLemmas.{keeps_rules, breaks_none}
use Rattle.nf_cast.proofs.laws.rules_hold_without_lines.Goals as goal

pub returns : goal.returns
returns c = record { keeps = keeps_rules; breaks_none = breaks_none }
