use Rattle.std.proofs.Common.{IfOk, sym, subst}
use Rattle.std.specs.Option.{option_copied}
use Rattle.nf_modules.specs.Selection.{AreReached}
use Rattle.nf_modules.proofs.WalkLemmas.{reached_all}
use Rattle.nf_modules.proofs.search.reached_modules.Goals as goal

pub returns-in_ok-vec-in-None : goal.returns-in_ok-vec-in-None
returns-in_ok-vec-in-None c =
    subst (λ root. AreReached c.args.modules.now (option_copied root) c.in_ok-vec-in-None.field-0.items) (sym c.in-None.is)
    (reached_all c.args.modules.now c.in_ok-vec-in-None.field-0.items (c.in_ok-vec-in-None.ensures.items_if_clones_equal (λ b e. e)))

pub returns-in-Some : goal.returns-in-Some
returns-in-Some c =
    subst (λ root. IfOk c.reached_from.result (λ reached. AreReached c.args.modules.now (option_copied root) reached.items)) (sym c.in-Some.is) c.reached_from.ensures
