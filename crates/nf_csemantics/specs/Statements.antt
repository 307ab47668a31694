-- What statements and blocks do.
use Rattle.std.specs.Prelude.{ℕ, zero, suc, ◌+◌, ℤ, pos, negsuc, Option, Some, None, Result, Ok, Err, List, [], ◌∷◌, set, length, nat_lt, if◌then◌else◌, unwrap_or}
use Rattle.nf_cast.specs.declared.expressions.CExpr.{CExpr}
use Rattle.nf_cast.specs.declared.expressions.CRight.{CRight}
use Rattle.nf_cast.specs.declared.expressions.CRight.TheVariants as right
use Rattle.nf_cast.specs.declared.expressions.CBound.{CBound}
use Rattle.nf_cast.specs.declared.expressions.CBound.TheVariants as bound
use Rattle.nf_cast.specs.declared.statements.CStmt.{CStmt, CStmt-F, fold-CStmt}
use Rattle.nf_cast.specs.declared.statements.CStmt.TheOpen as s
use Rattle.nf_cast.specs.declared.statements.CBlock.{CBlock, CBlock-F, fold-CBlock}
use Rattle.nf_csemantics.specs.declared.causes.Cause.{Cause}
use Rattle.nf_csemantics.specs.declared.causes.Cause.TheVariants as cause
use Rattle.nf_csemantics.specs.States.{Name, World, State, variable, with_variable, with_cells, declared, without_locals, with_turn}
use Rattle.nf_csemantics.specs.Values.{and_then, value_of, values_of, is_met}

-- what a function gives back: its value, none of a void function, and what it leaves
pub record Back : Type 0 where
  pub value : Option ℤ
  pub world : World

-- what each function does, by its name, with its arguments
abbrev pub Calls : Type 0
Calls = Name → List ℤ → World → Result Back Cause

-- how a statement ends: with the state of the next one, with a `return` of the function, or stuck
pub data Outcome : Type 0 where
  Next : State → Outcome
  Returned : Option ℤ → World → Outcome
  Stuck : Cause → Outcome

-- what a statement does
abbrev pub Run : Type 0
Run = State → Outcome

-- what is done with a value; a cause is how the statement ends
abbrev pub with_value : {A : Type 0} → Result A Cause → (A → Outcome) → Outcome
with_value (Ok x) f = f x
with_value (Err why) f = Stuck why

-- what is done in the next state; a `return` and a cause end all
abbrev pub then_run : Outcome → Run → Outcome
then_run (Next s) f = f s
then_run (Returned n w) f = Returned n w
then_run (Stuck why) f = Stuck why

-- statements in their order
abbrev pub sequence : List Run → Run
sequence [] s = Next s
sequence (first ∷ rest) s = then_run (first s) (sequence rest)

-- a block's locals end with it
abbrev pub leaves_block : State → Outcome → Outcome
leaves_block before outcome = then_run outcome (λ s. Next (without_locals before s))

-- the array at an index gets a value; an index outside is stuck
abbrev pub stored : Name → ℤ → ℤ → Run
stored x (pos n) value s = if nat_lt n (length (s.world.objects x)) then Next (with_cells s x (set (s.world.objects x) n value)) else Stuck cause.Index
stored x (negsuc n) value s = Stuck cause.Index

-- the first block where a condition holds, else the second, where there is one
abbrev pub chosen : ℤ → Run → Option Run → Run
chosen condition a b s = if is_met condition then a s else by b
  where
    by : Option Run → Outcome
    by None = Next s
    by (Some run) = run s

-- the value up to which a loop counts
abbrev pub bound_of : CBound → State → ℤ
bound_of (bound.Lit n) s = n
bound_of (bound.Name x) s = variable s x

-- so many turns of a loop, from a number on: in each its block is run with the loop's name at the number
abbrev pub turns : Name → Run → ℕ → ℕ → Run
turns x body k zero s = Next s
turns x body k (suc n) s = then_run (leaves_block s (body (declared (with_turn s) x (pos k)))) (turns x body (k + 1) n)

-- a loop from 0 up to a bound, which is below no number where it is negative
abbrev pub looped : Name → Run → ℤ → Run
looped x body (pos n) s = turns x body 0 n s
looped x body (negsuc n) s = Next s

module _ (calls : Calls) where
  -- a call with its arguments, which are evaluated first
  abbrev pub called : Name → List CExpr → State → Result Back Cause
  called f arguments t = and_then (values_of arguments t) (λ ns. calls f ns t.world)

  -- the state that a call leaves to the function that made it
  abbrev pub after : Back → State → State
  after back t = record t { world = back.world }

  -- what is done with the value of a right side, in the state that a call in it leaves; that of a void function, which may stand in none, is 0
  abbrev pub with_right : CRight → (ℤ → Run) → Run
  with_right (right.Call f arguments) run t = with_value (called f arguments t) (λ back. run (unwrap_or back.value (pos 0)) (after back t))
  with_right (right.Value a) run t = with_value (value_of a t) (λ n. run n t)

  -- a statement, given what its blocks do
  abbrev pub statement_layer : CStmt-F Run Run → Run
  statement_layer (s.Local constant x r) t = with_right r (λ n u. Next (declared u x n)) t
  statement_layer (s.Assign x r) t = with_right r (λ n u. Next (with_variable u x n)) t
  statement_layer (s.Store x index a) t = with_value (value_of index t) (λ n. with_value (value_of a t) (λ v. stored x n v t))
  statement_layer (s.Call f arguments) t = with_value (called f arguments t) (λ back. Next (after back t))
  statement_layer (s.If c a b) t = with_value (value_of c t) (λ n. chosen n a b t)
  statement_layer (s.For x to body) t = looped x body (bound_of to t) t
  statement_layer (s.Return None) t = Returned None t.world
  statement_layer (s.Return (Some a)) t = with_value (value_of a t) (λ n. Returned (Some n) t.world)

  -- a block, given what its statements do
  abbrev pub block_layer : CBlock-F Run Run → Run
  block_layer block t = leaves_block t (sequence block.stmts t)

  -- what a statement does
  unfoldable pub run_of : CStmt → Run
  run_of = fold-CStmt Run Run statement_layer block_layer

  -- what a block does
  unfoldable pub run_of_block : CBlock → Run
  run_of_block = fold-CBlock Run Run statement_layer block_layer
