-- The names of the six rules have levels.
use Rattle.std.proofs.Common.{ℕ, List, [], ◌∷◌, All, refl, sym, subst}
use Rattle.std.specs.Prelude.{codes}
use Rattle.std.proofs.lemmas.List.Elements.{All-nil, All-cons}
use Rattle.nf_core.specs.Written.{Levels, AreLevels, IsLevelOf}
use Rattle.nf_drill.specs.Rules.{drill_rules}
use Rattle.nf_drill.proofs.KeyLemmas.{own_names}

-- a pair reads `a` and `b`, a hit reads a pair, and calm reads a hit
abbrev pub own_levels : Levels
own_levels = (codes "pair", 1) ∷ (codes "a", 0) ∷ (codes "b", 0) ∷ (codes "lone", 1) ∷ (codes "c", 0) ∷ (codes "reach", 1) ∷ (codes "hit", 2) ∷ (codes "d", 0)
    ∷ (codes "calm", 3) ∷ []

abbrev IsRight : List ℕ → Type 0
IsRight = IsLevelOf drill_rules own_levels

-- ---- the names from each one on, in the order of their numbers
abbrev pub from_calm : List (List ℕ)
from_calm = codes "calm" ∷ []

abbrev pub from_d : List (List ℕ)
from_d = codes "d" ∷ from_calm

abbrev pub from_hit : List (List ℕ)
from_hit = codes "hit" ∷ from_d

abbrev pub from_reach : List (List ℕ)
from_reach = codes "reach" ∷ from_hit

abbrev pub from_c : List (List ℕ)
from_c = codes "c" ∷ from_reach

abbrev pub from_lone : List (List ℕ)
from_lone = codes "lone" ∷ from_c

abbrev pub from_b : List (List ℕ)
from_b = codes "b" ∷ from_lone

abbrev pub from_a : List (List ℕ)
from_a = codes "a" ∷ from_b

abbrev pub from_pair : List (List ℕ)
from_pair = codes "pair" ∷ from_a

-- each of them has its level
right_calm : All IsRight from_calm
right_calm = All-cons IsRight (codes "calm") [] refl (All-nil IsRight)

right_d : All IsRight from_d
right_d = All-cons IsRight (codes "d") from_calm refl right_calm

right_hit : All IsRight from_hit
right_hit = All-cons IsRight (codes "hit") from_d refl right_d

right_reach : All IsRight from_reach
right_reach = All-cons IsRight (codes "reach") from_hit refl right_hit

right_c : All IsRight from_c
right_c = All-cons IsRight (codes "c") from_reach refl right_reach

right_lone : All IsRight from_lone
right_lone = All-cons IsRight (codes "lone") from_c refl right_c

right_b : All IsRight from_b
right_b = All-cons IsRight (codes "b") from_lone refl right_lone

right_a : All IsRight from_a
right_a = All-cons IsRight (codes "a") from_b refl right_b

right_pair : All IsRight from_pair
right_pair = All-cons IsRight (codes "pair") from_a refl right_a

pub own_levels_right : AreLevels drill_rules own_levels
own_levels_right = subst (All IsRight) (sym own_names) right_pair
