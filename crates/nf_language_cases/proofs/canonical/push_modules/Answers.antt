use Rattle.std.proofs.Common.{List, All, sym, subst}
use Rattle.nf_core.specs.Trees.{Rule, IsWritten}
use Rattle.nf_core.specs.declared.trees.Module.{Module}
use Rattle.nf_language_cases.proofs.WrittenLemmas.{module_written}
use Rattle.nf_language_cases.proofs.canonical.push_modules.Goals as goal

pub push_rules-requires : goal.push_rules-requires
push_rules-requires c =
    subst (λ (rules : List Rule). All IsWritten rules) (sym c.as_slice.ensures)
    (subst (λ (m : Module). All IsWritten m.rules) (sym c.item-item.is)
    (module_written c.args.modules.now c.loop-item.item-index c.item-item.result c.loop-item-test.true c.requires))
