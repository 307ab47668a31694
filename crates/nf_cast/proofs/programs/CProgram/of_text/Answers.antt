use Rattle.std.proofs.Common.{List, map, sym, subst}
use Rattle.nf_cast.specs.Placed.{strip_item}
use Rattle.nf_cast.specs.declared.objects.CItem.{CItem}
use Rattle.nf_cast.specs.Program.{program_from, needs_of, IsProgram}
use Rattle.nf_cast.proofs.RuleLinkLemmas.{keeps_rules}
use Rattle.nf_cast.proofs.programs.CProgram.of_text.Goals as goal

pub invariant_of-result : goal.invariant_of-result
invariant_of-result c =
    let is : IsProgram (program_from c.args.manifest (map strip_item c.args.items.now)) = record {
      manifest = c.requires.manifest;
      spelled = c.requires.spelled;
      limits = c.requires.limits;
      rules = keeps_rules (needs_of c.args.manifest) c.requires.rules.0 c.args.items.now c.requires.rules.1;
    } in
    subst (λ (items : List CItem). IsProgram (program_from c.args.manifest items)) (sym c.in_ok-items.ensures) is
