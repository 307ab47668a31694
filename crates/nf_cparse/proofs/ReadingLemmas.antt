-- Refusals of calls that read.
use Rattle.std.proofs.Common.{ℕ, List, ⊎_elim, inl, inr}
use Rattle.nf_cparse.specs.declared.fault.CFault.{CFault}
use Rattle.nf_cparse.specs.inner.Readings.{IsRefused}

-- where a part is refused the whole is, if it has no such part
pub refused_by : {A B : Type 0} (Part : A → List ℕ → Type 0) (Whole : B → List ℕ → Type 0) (e : CFault) → (((x : A) (rest : List ℕ) → Part x rest → ⊥) → (y : B) (rest : List ℕ) → Whole y rest → ⊥) → IsRefused Part e → IsRefused Whole e
refused_by Part Whole e none h = ⊎_elim (λ m. inl m) (λ r. inr (r.0, none r.1)) h
