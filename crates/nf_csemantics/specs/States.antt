-- What a call works on: the objects and the emissions, which functions share, and the locals of one function.
use Rattle.std.specs.Prelude.{ℕ, ◌+◌, ◌-◌, ◌^◌, min, ℤ, Option, Some, None, List, [], ◌∷◌, length, drop, set, slice_index_or, if◌then◌else◌}
use Rattle.nf_core.specs.Texts.{text_eq}
use Rattle.nf_csemantics.specs.declared.emissions.Emit.{Emit}

-- the bytes of a name
abbrev pub Name : Type 0
Name = List ℕ

-- the cells of each object by its name; a scalar is one cell, and what isn't an object has none
abbrev pub Objects : Type 0
Objects = Name → List ℤ

-- locals with their values, the newest first
abbrev pub Locals : Type 0
Locals = List (Name × ℤ)

-- what the functions of a call share: the objects, what was emitted, and how many turns loops made
pub record World : Type 0 where
  pub objects : Objects
  pub emits : List Emit
  pub turns : ℕ

-- what a statement works on
pub record State : Type 0 where
  pub world : World
  pub locals : Locals

-- objects with the cells of one of them changed
unfoldable pub with_object : Objects → Name → List ℤ → Objects
with_object objects x cells y = if text_eq x y then cells else objects y

-- the value of a local, where it is there
abbrev pub local_of : Locals → Name → Option ℤ
local_of [] x = None
local_of (local ∷ locals) x = if text_eq local.0 x then Some local.1 else local_of locals x

-- locals with the value of one that is there changed
abbrev pub with_local : Locals → Name → ℤ → Locals
with_local [] x n = []
with_local (local ∷ locals) x n = if text_eq local.0 x then (local.0, n) ∷ locals else local ∷ with_local locals x n

-- the value of a variable: of a local, else of a scalar
unfoldable pub variable : State → Name → ℤ
variable s x = by (local_of s.locals x)
  where
    by : Option ℤ → ℤ
    by (Some n) = n
    by None = slice_index_or (s.world.objects x) 0 (ℤ.pos 0)

-- the state with the cells of an object changed
abbrev pub with_cells : State → Name → List ℤ → State
with_cells s x cells = record s { world = record s.world { objects = with_object s.world.objects x cells } }

-- the state with the value of a variable changed: of a local, else of a scalar
unfoldable pub with_variable : State → Name → ℤ → State
with_variable s x n = by (local_of s.locals x)
  where
    by : Option ℤ → State
    by (Some old) = record s { locals = with_local s.locals x n }
    by None = with_cells s x (set (s.world.objects x) 0 n)

-- the state with one more local
abbrev pub declared : State → Name → ℤ → State
declared s x n = record s { locals = (x, n) ∷ s.locals }

-- the state without the locals that a block declared, given the state before the block
abbrev pub without_locals : State → State → State
without_locals before s = record s { locals = drop (length s.locals - length before.locals) s.locals }

-- the greatest count of turns; where it is reached, it stands still
abbrev pub most_turns : ℕ
most_turns = 2 ^ 64 - 1

-- the state with one more turn
abbrev pub with_turn : State → State
with_turn s = record s { world = record s.world { turns = min (s.world.turns + 1) most_turns } }
