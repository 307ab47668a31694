-- Each question has one answer.
use Rattle.std.proofs.Common.{◌≡◌, ◌↔◌, ℕ, Bool, true, false, List, [], ◌∷◌, flat_map, Option, Result, IsTrue, refl, sym, ap, ◌∙◌}
use Rattle.std.specs.List.{AllZip, items_where_true}
use Rattle.nf_core.specs.Trees.{Rule}
use Rattle.nf_core.specs.declared.trees.Module.{Module}
use Rattle.nf_modules.specs.declared.fault.ModuleFault.{ModuleFault}
use Rattle.nf_modules.specs.Selection.{Reached, Selects, fault_of, settled}
use Rattle.nf_modules.proofs.ReachLemmas.{told}

-- truth values that are true exactly where something holds are the same
same_truth : (P : Type 0) (a b : Bool) → IsTrue a ↔ P → IsTrue b ↔ P → a ≡ b
same_truth P true true f g = refl
same_truth P false false f g = refl
same_truth P true false f g = sym (g.1 (f.0 refl))
same_truth P false true f g = f.1 (g.0 refl)

one_list : {X : Type 0} (P : X → Type 0) (xs : List X) (cs bs : List Bool) → AllZip (λ x b. IsTrue b ↔ P x) xs cs → AllZip (λ x b. IsTrue b ↔ P x) xs bs → cs ≡ bs
one_list P [] [] [] f g = refl
one_list P [] [] (b ∷ bs) f g = absurd g
one_list P [] (a ∷ cs) bs f g = absurd f
one_list P (x ∷ xs) [] bs f g = absurd f
one_list P (x ∷ xs) (a ∷ cs) [] f g = absurd g
one_list P (x ∷ xs) (a ∷ cs) (b ∷ bs) f g = λ i. same_truth (P x) a b f.0 g.0 i ∷ one_list P xs cs bs f.1 g.1 i

-- the answer where these modules are reached
abbrev answer : List Module → Option (List ℕ) → List Bool → Result (List Rule) ModuleFault
answer modules root reached = settled (fault_of modules root (items_where_true reached modules)) (flat_map (λ (m : Module). m.rules) (items_where_true reached modules))

pub one_answer : (modules : List Module) (root : Option (List ℕ)) (a b : Result (List Rule) ModuleFault) → Selects modules root a → Selects modules root b → a ≡ b
one_answer modules root a b f g = f.answered ∙ ap (answer modules root) (one_list (Reached modules root) modules f.reached g.reached f.by_walks g.by_walks) ∙ sym g.answered

pub some_answer : (modules : List Module) (root : Option (List ℕ)) → (a : Result (List Rule) ModuleFault) × Selects modules root a
some_answer modules root = let t = told modules root in (answer modules root t.0, record { reached = t.0; by_walks = t.1; answered = refl })
