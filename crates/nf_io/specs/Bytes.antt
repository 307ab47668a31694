-- The bytes that one read gives, and what a sink took between two states.
use Rattle.std.specs.Prelude.{◌≡◌, ℕ, ◌<◌, ◌≤◌, ◌↔◌, List, [], ◌++◌, length, take, Option, IfSome, IsSomeAnd}

-- a read put the first n bytes of what was left into the buffer's first places, and n is 0 exactly at the end
pub record Gives (buffer : List ℕ) (n : ℕ) (left : List ℕ) : Type 0 where
  pub bytes : take n buffer ≡ take n left
  pub enough : n ≤ length left
  pub end : (n ≡ 0) ↔ (left ≡ [])

-- a sink that tells now has told before too, and took exactly this piece in between
abbrev pub Took : Option (List ℕ) → Option (List ℕ) → List ℕ → Type 0
Took before now piece = IfSome now (λ after. IsSomeAnd before (λ first. after ≡ first ++ piece))

-- a sink that tells now has told before too, and took a prefix of this text in between
abbrev pub TookPrefix : Option (List ℕ) → Option (List ℕ) → List ℕ → Type 0
TookPrefix before now text =
    IfSome now (λ after. IsSomeAnd before (λ first. (k : ℕ) × (after ≡ first ++ take k text)))

-- the same, and less than the whole text was taken
abbrev pub TookPart : Option (List ℕ) → Option (List ℕ) → List ℕ → Type 0
TookPart before now text =
    IfSome now (λ after. IsSomeAnd before (λ first.
    (k : ℕ) × (k < length text) × (after ≡ first ++ take k text)))

-- the same, and what was taken begins with the whole text
abbrev pub TookAtLeast : Option (List ℕ) → Option (List ℕ) → List ℕ → Type 0
TookAtLeast before now text =
    IfSome now (λ after. IsSomeAnd before (λ first. (more : List ℕ) × (after ≡ first ++ text ++ more)))
