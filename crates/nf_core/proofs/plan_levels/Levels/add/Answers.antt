use Rattle.std.proofs.Common.{length, ap, sym, ◌∙◌}
use Rattle.nf_core.proofs.LevelPairLemmas.{inserted_last, zip-insert_key, lookup_seen, same_length}
use Rattle.nf_core.proofs.plan_levels.Levels.add.Goals as goal

-- src/plan_levels.rt:63:23
pub invariant_of-self-in-Ok : goal.invariant_of-self-in-Ok
invariant_of-self-in-Ok c =
    ap length (c.in-Ok.ensures.ok ∙ inserted_last c.self.inside.names c.self.inside.levels.items c.args.name.now c.args.level c.self.invariant (lookup_seen _ _ _ c.self.view_is c.requires))
    ∙ same_length c.self.inside.names c.self.inside.levels.items c.args.name.now c.args.level c.self.invariant
    ∙ ap length (sym c.in_ok-push.ensures.items)

-- src/plan_levels.rt:56:5
pub returns-in-Ok-clause-ok : goal.returns-in-Ok-clause-ok
returns-in-Ok-clause-ok c =
    rw (c.in-Ok.ensures.ok, c.in_ok-push.ensures.items, ← c.self.view_is)
    (zip-insert_key c.self.inside.names c.self.inside.levels.items c.args.name.now c.args.level c.self.invariant (lookup_seen _ _ _ c.self.view_is c.requires))
