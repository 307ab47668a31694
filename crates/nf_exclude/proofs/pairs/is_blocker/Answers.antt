use Rattle.std.proofs.Common.{◌≡◌, true, sym, ◌∙◌, arith}
use Rattle.nf_exclude.specs.inner.Turns.{faces_in}
use Rattle.nf_exclude.proofs.RuleLemmas.{itself_no_blocker, related_faces, related_blocks}
use Rattle.nf_exclude.proofs.pairs.is_blocker.Goals as goal

pub returns-then-is_itself-clause-value : goal.returns-then-is_itself-clause-value
returns-then-is_itself-clause-value g c =
    sym (itself_no_blocker c.args.rule.now c.args.first.now c.args.second.now c.requires.exclusive (sym c.is_itself.ensures ∙ c.if-is_itself.true))

pub returns-clause-value : goal.returns-clause-value
returns-clause-value g c =
    c.is_met.ensures.value
    ∙ sym (related_blocks c.args.rule.now c.args.first.now c.args.second.now c.requires.exclusive c.requires.related (sym c.is_itself.ensures ∙ c.if-is_itself.false))

pub returns-clause-cost : goal.returns-clause-cost
returns-clause-cost g c =
    let faces : faces_in c.args.rule.now c.args.first.now c.args.second.now ≡ true =
    related_faces c.args.rule.now c.args.first.now c.args.second.now c.requires.exclusive c.requires.related (sym c.is_itself.ensures ∙ c.if-is_itself.false) in
    rw faces (omega arith)
