-- What is read at the front of bytes: something, and what stands behind it.
use Rattle.std.specs.Prelude.{◌≡◌, ◌⊎◌, ℕ, List, [], ◌∷◌, ◌++◌}
use Rattle.nf_cparse.specs.declared.fault.CFault.{CFault}
use Rattle.nf_cparse.specs.declared.fault.CFault.TheVariants as fault

-- a call that reads is refused for want of memory, or as Manifest where there is nothing to read
abbrev pub IsRefused : {A : Type 0} → (A → List ℕ → Type 0) → CFault → Type 0
IsRefused {A} Reads e = (e ≡ fault.NoMemory) ⊎ ((e ≡ fault.Manifest) × ((x : A) (rest : List ℕ) → Reads x rest → ⊥))

-- bytes begin with a word, and this stands behind it
abbrev pub IsBehind : List ℕ → List ℕ → List ℕ → Type 0
IsBehind bytes word rest = bytes ≡ word ++ rest

-- items one after the other, each read behind the one before it, and then an end
pub data AreListed {A : Type 0} (Item : List ℕ → A → List ℕ → Type 0) (End : List ℕ → List ℕ → Type 0) : List ℕ → List A → List ℕ → Type 0 where
  ends : {bytes rest : List ℕ} → End bytes rest → AreListed Item End bytes [] rest
  more : {bytes next rest : List ℕ} {x : A} {xs : List A} → Item bytes x next → AreListed Item End next xs rest → AreListed Item End bytes (x ∷ xs) rest
