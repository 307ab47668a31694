-- The name has the delta, and the others keep theirs.
use Rattle.std.proofs.Common.{◌≡◌, ℕ, ◌==◌, ◌||◌, cond, Some, arith, subst}
use Rattle.std.specs.Map.{lookup}
use Rattle.std.proofs.lemmas.Grind.{common_steps}
use Rattle.nf_engine.specs.inner.Deltas.{NamedDeltas, delta_at, is_changed}
use Rattle.nf_engine.proofs.DeltaLemmas.{delta_written, changed_written}
use Rattle.nf_engine.proofs.deltas.Deltas.record.Goals as goal

pub returns-clause-deltas : goal.returns-clause-deltas
returns-clause-deltas c =
    let written : (q : ℕ) → lookup (λ m. q == m) c.insert.new.self.entries ≡ cond (c.args.name == q) (Some c.args.delta) (lookup (λ m. q == m) c.self.inside.by_name.entries) =
    λ q. grind (arith, common_steps, c.in_ok-insert.ensures.updates.0 q) in
    subst (λ (old : NamedDeltas). (n : ℕ) → delta_at c.insert.new.self.entries n ≡ cond (n == c.args.name) c.args.delta (delta_at old n)) c.self.view_is
    (delta_written c.insert.new.self.entries c.self.inside.by_name.entries c.args.name c.args.delta written)

pub returns-clause-names : goal.returns-clause-names
returns-clause-names c =
    let written : (q : ℕ) → lookup (λ m. q == m) c.insert.new.self.entries ≡ cond (c.args.name == q) (Some c.args.delta) (lookup (λ m. q == m) c.self.inside.by_name.entries) =
    λ q. grind (arith, common_steps, c.in_ok-insert.ensures.updates.0 q) in
    subst (λ (old : NamedDeltas). (n : ℕ) → is_changed c.insert.new.self.entries n ≡ (n == c.args.name || is_changed old n)) c.self.view_is
    (changed_written c.insert.new.self.entries c.self.inside.by_name.entries c.args.name c.args.delta written)
