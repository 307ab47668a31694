-- The inputs of a name without rules are its candidates.
use Rattle.std.proofs.Common.{◌≡◌, ◌<◌, ◌≤◌, false, nat_lt, cond, length, ap, sym, ◌∙◌, arith}
use Rattle.std.proofs.lemmas.Bool.Decides.{nat_tests}
use Rattle.std.proofs.lemmas.List.{get_or_default}
use Rattle.nf_core.specs.Plan.{level_of}
use Rattle.nf_core.specs.Sets.{has}
use Rattle.nf_minimal.specs.Minimals.{Minimal, candidates_of}
use Rattle.nf_model.specs.Pools.{of_name}
use Rattle.nf_tally.specs.Numbers.{number, is_on}
use Rattle.nf_engine.specs.inner.Rounds.{no_candidates, minimal_at}
use Rattle.nf_engine.proofs.HeldLemmas.{has_candidates}
use Rattle.nf_engine.proofs.entering.is_input.Goals as goal

pub returns-else-level-gt0 : goal.returns-else-level-gt0
returns-else-level-gt0 c =
    let zero : c.level.result ≤ 0 = omega (arith, c.if-level-gt0.false) in
    let level : c.level.result ≡ level_of c.args.plan.now c.args.name = c.level.ensures.level in
    let none : nat_lt 0 (level_of c.args.plan.now c.args.name) ≡ false = grind (arith, nat_tests) in
    let each : length c.args.names.now ≡ length c.args.plan.now.names = c.requires.names in
    let named : c.args.name < length c.args.plan.now.names = c.requires.name in
    let at : c.index-names-name.result ≡ minimal_at c.args.names.now c.args.name =
    c.index-names-name.is ∙ get_or_default c.args.names.now c.args.name c.index-names-name.result no_candidates (omega arith) in
    c.has_source.ensures ∙ ap (λ (m : Minimal). is_on (number m.sources c.args.interval.now)) at
    ∙ sym (has_candidates (minimal_at c.args.names.now c.args.name) c.args.interval.now)
    ∙ ap (λ b. has (cond b (of_name c.args.entered.now c.args.name) (candidates_of (minimal_at c.args.names.now c.args.name))) c.args.interval.now) (sym none)
