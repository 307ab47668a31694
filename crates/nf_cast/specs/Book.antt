-- What is known at a place of a C text, and what each rule asks there. A rule that is broken leaves a breach, and the first one stays.
use Rattle.std.specs.Prelude.{ℕ, ◌+◌, ◌-◌, max, Bool, true, false, not, ◌&&◌, nat_eq, nat_lt, nat_le, List, [], ◌∷◌, length, take, codes, Option, Some, None, is_some, is_none, if◌then◌else◌}
use Rattle.std.specs.Map.{lookup}
use Rattle.indexmap.specs.IndexMap.{insert_entry}
use Rattle.nf_core.specs.Texts.{text_eq}
use Rattle.nf_cast.specs.declared.limits.TheConstants.{MOST_CELLS, MOST_CALLS}
use Rattle.nf_cast.specs.declared.rules.CRule.{CRule}
use Rattle.nf_cast.specs.declared.rules.CRule.TheVariants as rule
use Rattle.nf_cast.specs.declared.rules.Breach.{Breach}
use Rattle.nf_cast.specs.declared.rules.Global.{Global}
use Rattle.nf_cast.specs.declared.rules.Global.TheVariants as g
use Rattle.nf_cast.specs.declared.rules.Local.{Local}
use Rattle.nf_cast.specs.declared.rules.Local.TheVariants as l
pub use Rattle.nf_cast.specs.declared.rules.Seen.{Seen}
pub use Rattle.nf_cast.specs.declared.rules.Seen.TheVariants.{Global as global, Local as local}
pub use Rattle.nf_cast.specs.declared.rules.Needs.{Needs}
use Rattle.nf_cast.specs.declared.placed.PlacedName.{PlacedName}

-- what is known at a place: the objects and functions that are visible; the parameters, locals and loop names that are; how many cells the objects may still take; of the function there its depth of calls so far, whether it is void, and whether its last statement so far is a return; and the first breach before the place
pub record Book : Type 0 where
  pub globals : List (List ℕ × Global)
  pub locals : List (List ℕ × Local)
  pub room : ℕ
  pub depth : ℕ
  pub void : Bool
  pub ended : Bool
  pub first : Option Breach

-- what a part of a text does to the book
abbrev pub Step : Type 0
Step = Book → Book

-- steps one after the other
abbrev pub steps : List Step → Step
steps [] b = b
steps (f ∷ fs) b = steps fs (f b)

-- an earlier breach stays
abbrev pub earlier : Option Breach → Breach → Option Breach
earlier (Some found) later = Some found
earlier None later = Some later

-- a rule is broken at a line
abbrev pub blame : ℕ → CRule → Step
blame line r b = record b { first = earlier b.first (record { line = line; rule = r }) }

-- what a rule asks at a line is met, or the rule is broken there
abbrev pub demand : ℕ → CRule → Bool → Step
demand line r met b = if met then b else blame line r b

-- a name of the function, and else an object or a function
abbrev pub seen_in : Option Local → Option Global → Option Seen
seen_in (Some found) outside = Some (local found)
seen_in None (Some found) = Some (global found)
seen_in None None = None

-- what a name stands for, where it is visible
abbrev pub look : Book → List ℕ → Option Seen
look b x = seen_in (lookup (text_eq x) b.locals) (lookup (text_eq x) b.globals)

-- whether a name may stand alone: a parameter, a local, a loop's name or a scalar. This test and the next ones are met where nothing is visible: then the name is unknown
unfoldable pub is_scalar : Option Seen → Bool
is_scalar None = true
is_scalar (Some (local k)) = true
is_scalar (Some (global g.Scalar)) = true
is_scalar (Some (global (g.Array n))) = false
is_scalar (Some (global (g.Func n v d))) = false

-- whether a name may have an index
unfoldable pub is_array : Option Seen → Bool
is_array None = true
is_array (Some (local k)) = false
is_array (Some (global g.Scalar)) = false
is_array (Some (global (g.Array n))) = true
is_array (Some (global (g.Func n v d))) = false

-- whether a name may be called
unfoldable pub is_func : Option Seen → Bool
is_func None = true
is_func (Some (local k)) = false
is_func (Some (global g.Scalar)) = false
is_func (Some (global (g.Array n))) = false
is_func (Some (global (g.Func n v d))) = true

-- whether a name may be assigned: it is no constant, and no open loop's
unfoldable pub is_assignable : Option Seen → Bool
is_assignable (Some (local l.Constant)) = false
is_assignable (Some (local l.Loop)) = false
is_assignable seen = true

-- whether a name may be a loop's bound: a constant
unfoldable pub is_constant : Option Seen → Bool
is_constant None = true
is_constant (Some (local l.Plain)) = false
is_constant (Some (local l.Constant)) = true
is_constant (Some (local l.Loop)) = false
is_constant (Some (global k)) = false

-- whether a function has so many parameters
unfoldable pub takes : ℕ → Option Seen → Bool
takes n (Some (global (g.Func params v d))) = nat_eq n params
takes n seen = true

-- whether a function gives a value
unfoldable pub gives_value : Option Seen → Bool
gives_value (Some (global (g.Func n void d))) = not void
gives_value seen = true

-- twice: a name that is declared isn't visible yet
abbrev pub fresh : PlacedName → Step
fresh at b = demand at.line rule.Twice (is_none (look b at.name)) b

-- unknown, then form: a name that is used is visible, and is used as what it is
abbrev pub used : (Option Seen → Bool) → PlacedName → Step
used test at b = demand at.line rule.Form (test (look b at.name)) (demand at.line rule.Unknown (is_some (look b at.name)) b)

-- assign: a name that is assigned may be
abbrev pub assigned : PlacedName → Step
assigned at b = demand at.line rule.Assign (is_assignable (look b at.name)) (used is_scalar at b)

-- bound: a loop's bound is a constant
abbrev pub bounded : PlacedName → Step
bounded at b = demand at.line rule.Bound (is_constant (look b at.name)) (used is_scalar at b)

-- loop: a name of a loop's header is the loop's
abbrev pub again : List ℕ → PlacedName → Step
again x at b = demand at.line rule.Loop (text_eq x at.name) (used is_scalar at b)

-- count: a call has as many arguments as the function has parameters
abbrev pub counted : ℕ → PlacedName → Step
counted n at b = demand at.line rule.Count (takes n (look b at.name)) b

-- void: a function that is called to the right of `=` gives a value
abbrev pub valued : PlacedName → Step
valued at b = demand at.line rule.Void (gives_value (look b at.name)) b

-- calls: a function that calls another one is deeper than that, and no deeper than 16
unfoldable pub deepened : ℕ → Option Seen → Step
deepened line (Some (global (g.Func n v d))) b = if nat_lt d MOST_CALLS then record b { depth = max b.depth (d + 1) } else blame line rule.Calls b
deepened line seen b = b

-- the function that is called makes the one that calls deeper
abbrev pub deepen : PlacedName → Step
deepen at b = deepened at.line (look b at.name) b

-- size: an object has a cell, and all objects together have no more than there may be
unfoldable pub take_room : ℕ → ℕ → Step
take_room line n b = if nat_lt 0 n && nat_le n b.room then record b { room = b.room - n } else blame line rule.Size b

-- a local becomes visible
abbrev pub declare : List ℕ → Local → Step
declare x k b = record b { locals = insert_entry text_eq b.locals x k }

-- an object or a function becomes visible
abbrev pub publish : List ℕ → Global → Step
publish x k b = record b { globals = insert_entry text_eq b.globals x k }

-- whether the last statement so far is a return
abbrev pub ends : Bool → Step
ends is_return b = record b { ended = is_return }

-- the locals behind so many of them are no longer visible
abbrev pub left : ℕ → Step
left n b = record b { locals = take n b.locals }

-- what a step declares is visible in it alone
abbrev pub within : Step → Step
within f b = left (length b.locals) (f b)

-- whether a name stands for a function
abbrev pub has_func : Option Global → Bool
has_func None = false
has_func (Some g.Scalar) = false
has_func (Some (g.Array n)) = false
has_func (Some (g.Func n v d)) = true

-- whether a name stands for an array of at least so many cells
abbrev pub has_cells : ℕ → Option Global → Bool
has_cells most None = false
has_cells most (Some g.Scalar) = false
has_cells most (Some (g.Array n)) = nat_le most n
has_cells most (Some (g.Func n v d)) = false

-- interface: `nf_event` is a function, and `nf_in` and `nf_out` are arrays that are large enough
unfoldable pub has_interface : Needs → Book → Bool
has_interface needs b = has_func (lookup (text_eq (codes "nf_event")) b.globals)
    && has_cells needs.input (lookup (text_eq (codes "nf_in")) b.globals)
    && has_cells needs.output (lookup (text_eq (codes "nf_out")) b.globals)

-- what is known before the first object or function: `nf_emit` is a void function of four parameters and depth 0
abbrev pub opening : Book
opening = record {
  globals = (codes "nf_emit", g.Func 4 true 0) ∷ [];
  locals = [];
  room = MOST_CELLS;
  depth = 0;
  void = false;
  ended = false;
  first = None;
}
