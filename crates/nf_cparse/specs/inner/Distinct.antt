-- The texts that were seen.
use Rattle.std.specs.Prelude.{◌≡◌, ℕ, List, map, take}
use Rattle.std.specs.List.{IsDistinct}
use Rattle.indexmap.specs.IndexSet.{IndexSet}
use Rattle.nf_core.specs.Texts.{text_eq}
use denote.Ref.{Bor}

-- the texts of a set, in the order in which they came
abbrev pub texts_in : {S : Type 0} → IndexSet (Bor (List ℕ)) S → List (List ℕ)
texts_in seen = map (λ (text : Bor (List ℕ)). text.now) seen.keys

-- the first so many of some texts are these, and are distinct
pub record AreSeen (seen texts : List (List ℕ)) (count : ℕ) : Type 0 where
  pub are : seen ≡ take count texts
  pub distinct : IsDistinct text_eq seen
