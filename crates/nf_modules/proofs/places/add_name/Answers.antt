use Rattle.std.proofs.Common.{◌≡◌, ℕ, List, Some, is_some, true, false, rules, cond, bytes_eq, ap, subst, ◌∙◌, inr}
use Rattle.std.proofs.lemmas.Map.Text.{hash_map_updates_str}
use Rattle.nf_modules.specs.inner.Places.{number_in}
use Rattle.nf_modules.specs.declared.fault.ModuleFault.TheVariants as fault
use Rattle.nf_modules.proofs.places.add_name.Goals as goal

pub returns-then-is_some-clause-err : goal.returns-then-is_some-clause-err
returns-then-is_some-clause-err c = inr (
  ap fault.SameModule c.in_ok-copy.ensures,
  λ none.
      let old : c.in_ok-insert.field-0 ≡ number_in c.args.places.now c.as_str.result.now = c.in_ok-insert.ensures.old in
      let same : number_in c.args.places.now c.as_str.result.now ≡ number_in c.args.places.now c.args.name.now = ap (number_in c.args.places.now) c.as_str.ensures in
      let some : is_some c.in_ok-insert.field-0 ≡ true = search rules in
      let no : is_some c.in_ok-insert.field-0 ≡ false = ap is_some (old ∙ same ∙ none) in
      cc,
)

pub returns-clause-ok : goal.returns-clause-ok
returns-clause-ok c = λ other. subst (λ (bs : List ℕ). number_in c.insert.new.self other ≡ cond (bytes_eq bs other) (Some c.args.place) (number_in c.args.places.now other)) c.as_str.ensures (hash_map_updates_str c.as_str.result.now c.args.places.now c.insert.new.self _ c.in_ok-insert.ensures.updates other)
