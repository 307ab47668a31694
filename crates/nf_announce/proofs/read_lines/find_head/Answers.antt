use Rattle.std.proofs.Common.{rules, sym}
use Rattle.nf_announce.proofs.HeadNameLemmas.{not_found, no_head}
use Rattle.nf_announce.proofs.read_lines.find_head.Goals as goal

pub returns-in_err-name-clause-none : goal.returns-in_err-name-clause-none
returns-in_err-name-clause-none c e n h = not_found c.args.plan.now c.args.text.now (sym c.in_err-name.ensures.place) n h

pub returns-else-is_head-clause-none : goal.returns-else-is_head-clause-none
returns-else-is_head-clause-none c e n h =
    no_head c.args.plan.now c.requires c.args.text.now c.in_ok-name.name (search rules) c.in_ok-name.ensures.name (search rules) n h
