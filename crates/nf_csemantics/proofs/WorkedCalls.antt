-- Calls of a monitor computed on worked cases. What is expected was worked out by hand from the rules.
use Rattle.std.proofs.Common.{◌≡◌, ℕ, ℤ, pos, true, List, [], ◌∷◌, Option, Some, None, Result, Ok, refl, ap, ◌∙◌}
use Rattle.std.specs.Prelude.{codes, int_div}
use Rattle.nf_core.specs.declared.operators.BinOp.TheVariants as op
use Rattle.nf_cast.specs.declared.expressions.CExpr.{CExpr}
use Rattle.nf_cast.specs.declared.expressions.CExpr.TheVariants as e
use Rattle.nf_cast.specs.declared.expressions.CRight.TheVariants as right
use Rattle.nf_cast.specs.declared.statements.CStmt.{CStmt}
use Rattle.nf_cast.specs.declared.statements.CStmt.TheVariants as s
use Rattle.nf_cast.specs.declared.objects.CForm.TheVariants as form
use Rattle.nf_cast.specs.declared.objects.CItem.{CItem}
use Rattle.nf_cast.specs.declared.objects.CItem.TheVariants as item
use Rattle.nf_cast.specs.declared.manifests.CManifest.{CManifest}
use Rattle.nf_cast.specs.Program.{Program}
use Rattle.nf_csemantics.specs.declared.causes.Cause.{Cause}
use Rattle.nf_csemantics.specs.declared.causes.Cause.TheVariants as cause
use Rattle.nf_csemantics.specs.declared.emissions.Emit.{Emit}
use Rattle.nf_csemantics.specs.States.{Name, State, variable, with_variable, with_object}
use Rattle.nf_csemantics.specs.Values.{Value, value_of, and_then, operated, divided}
use Rattle.nf_csemantics.specs.Statements.{Calls, Run, Next, Returned, with_value, stored, after, block_layer, run_of, run_of_block}
use Rattle.nf_csemantics.specs.Functions.{ended, with_function}
use Rattle.nf_csemantics.specs.Events.{Answer, Done, Overflow, Stuck, answer_of, with_input, c_call, first_calls, first_objects}
use Rattle.nf_csemantics.proofs.Public.ValueLemmas.{value_Lit, value_Name, value_Bin}
use Rattle.nf_csemantics.proofs.Public.RunLemmas.{run_Store, run_Assign, run_Call, run_Return, run_of_stmts}

abbrev array : List ℕ → CItem
array x = item.Object (record { name = x; cells = Some (pos 1) })

-- `static int64_t nf_in[1], nf_out[1], used, t[1];`, and `int64_t nf_event(int64_t name, int64_t time)` of these statements
abbrev items : List CStmt → List CItem
items stmts =
    array (codes "nf_in") ∷ array (codes "nf_out") ∷ item.Object (record { name = codes "used"; cells = None }) ∷ array (codes "t")
    ∷ item.Func (record { form = form.Int; name = codes "nf_event"; params = codes "name" ∷ codes "time" ∷ []; body = record { stmts = stmts } }) ∷ []

-- the one name of the manifest is the head `w`, without keys
abbrev manifest : CManifest
manifest = record { version = 1; names = record { is_head = true; name = codes "w"; keys = [] } ∷ []; texts = [] }

abbrev program : List CStmt → Program
program stmts = record { manifest = manifest; items = items stmts }

-- `w|time` as its first line
abbrev first_line : List CStmt → ℤ → Answer
first_line stmts time = c_call (program stmts) (first_objects (items stmts)) 0 time time [] (pos 0)

abbrev used : CExpr
used = e.Name (codes "used")

abbrev time : CExpr
time = e.Name (codes "time")

abbrev one : CExpr
one = e.Lit (pos 1)

-- `t[used] = time; used = used + 1; nf_emit(1, name, begin, time); return answer;`
abbrev stmts : CExpr → ℤ → List CStmt
stmts begin answer =
    s.Store (codes "t") used time ∷ s.Assign (codes "used") (right.Value (e.Bin op.Add used one))
    ∷ s.Call (codes "nf_emit") (one ∷ e.Name (codes "name") ∷ begin ∷ time ∷ []) ∷ s.Return (Some (e.Lit answer)) ∷ []

-- the value of a variable, and of a literal
abbrev read : Name → State → Value
read x t = Ok (variable t x)

abbrev literal : ℤ → State → Value
literal n t = Ok n

abbrev sum_by : (State → Value) → (State → Value) → State → Value
sum_by f g t = and_then (f t) (λ m. and_then (g t) (operated op.Add m))

abbrev store_by : (State → Value) → (State → Value) → Run
store_by f g t = with_value (f t) (λ n. with_value (g t) (λ v. stored (codes "t") n v t))

abbrev assign_by : (State → Value) → Run
assign_by f t = with_value (f t) (λ n. Next (with_variable t (codes "used") n))

abbrev arguments_by : (State → Value) → (State → Value) → (State → Value) → (State → Value) → State → Result (List ℤ) Cause
arguments_by f g h k t = and_then (f t) (λ a. and_then (and_then (g t) (λ b. and_then (and_then (h t) (λ c. and_then (and_then (k t) (λ d. Ok (d ∷ []))) (λ ns. Ok (c ∷ ns)))) (λ ns. Ok (b ∷ ns)))) (λ ns. Ok (a ∷ ns)))

abbrev emit_by : Calls → (State → Result (List ℤ) Cause) → Run
emit_by calls f t = with_value (and_then (f t) (λ ns. calls (codes "nf_emit") ns t.world)) (λ back. Next (after calls back t))

abbrev return_by : (State → Value) → Run
return_by f t = with_value (f t) (λ n. Returned (Some n) t.world)

abbrev statements_by : Calls → (State → Value) → ℤ → List Run
statements_by calls f n =
    store_by (read (codes "used")) (read (codes "time")) ∷ assign_by (sum_by (read (codes "used")) (literal (pos 1)))
    ∷ emit_by calls (arguments_by (literal (pos 1)) (read (codes "name")) f (read (codes "time"))) ∷ return_by (literal n) ∷ []

module _ (calls : Calls) where
  stores_is : run_of calls (s.Store (codes "t") used time) ≡ store_by (read (codes "used")) (read (codes "time"))
  stores_is =
      run_Store calls (codes "t") used time
      ∙ ap (λ f. store_by f (value_of time)) (value_Name (codes "used"))
      ∙ ap (store_by (read (codes "used"))) (value_Name (codes "time"))

  counts_is : run_of calls (s.Assign (codes "used") (right.Value (e.Bin op.Add used one))) ≡ assign_by (sum_by (read (codes "used")) (literal (pos 1)))
  counts_is =
      run_Assign calls (codes "used") (right.Value (e.Bin op.Add used one))
      ∙ ap assign_by (value_Bin op.Add used one
      ∙ ap (λ f. sum_by f (value_of one)) (value_Name (codes "used"))
      ∙ ap (sum_by (read (codes "used"))) (value_Lit (pos 1)))

  emits_is : (begin : CExpr) (f : State → Value) → value_of begin ≡ f
      → run_of calls (s.Call (codes "nf_emit") (one ∷ e.Name (codes "name") ∷ begin ∷ time ∷ []))
      ≡ emit_by calls (arguments_by (literal (pos 1)) (read (codes "name")) f (read (codes "time")))
  emits_is begin f is =
      run_Call calls (codes "nf_emit") (one ∷ e.Name (codes "name") ∷ begin ∷ time ∷ [])
      ∙ ap (λ g. emit_by calls (arguments_by g (value_of (e.Name (codes "name"))) (value_of begin) (value_of time))) (value_Lit (pos 1))
      ∙ ap (λ g. emit_by calls (arguments_by (literal (pos 1)) g (value_of begin) (value_of time))) (value_Name (codes "name"))
      ∙ ap (λ g. emit_by calls (arguments_by (literal (pos 1)) (read (codes "name")) g (value_of time))) is
      ∙ ap (λ g. emit_by calls (arguments_by (literal (pos 1)) (read (codes "name")) f g)) (value_Name (codes "time"))

  returns_is : (n : ℤ) → run_of calls (s.Return (Some (e.Lit n))) ≡ return_by (literal n)
  returns_is n = run_Return calls (Some (e.Lit n)) ∙ ap return_by (value_Lit n)

  -- what the block does, by what its statements do
  body_is : (begin : CExpr) (f : State → Value) (n : ℤ) → value_of begin ≡ f → run_of_block calls (record { stmts = stmts begin n }) ≡ block_layer calls (record { stmts = statements_by calls f n })
  body_is begin f n is =
      run_of_stmts calls (stmts begin n)
      ∙ ap (λ r. with_stmts (r ∷ run_of calls (s.Assign (codes "used") (right.Value (e.Bin op.Add used one))) ∷ emission ∷ run_of calls (s.Return (Some (e.Lit n))) ∷ [])) stores_is
      ∙ ap (λ r. with_stmts (store_by (read (codes "used")) (read (codes "time")) ∷ r ∷ emission ∷ run_of calls (s.Return (Some (e.Lit n))) ∷ [])) counts_is
      ∙ ap (λ r. with_stmts (store_by (read (codes "used")) (read (codes "time")) ∷ assign_by (sum_by (read (codes "used")) (literal (pos 1))) ∷ r ∷ run_of calls (s.Return (Some (e.Lit n))) ∷ [])) (emits_is begin f is)
      ∙ ap (λ r. with_stmts (store_by (read (codes "used")) (read (codes "time")) ∷ assign_by (sum_by (read (codes "used")) (literal (pos 1)))
      ∷ emit_by calls (arguments_by (literal (pos 1)) (read (codes "name")) f (read (codes "time"))) ∷ r ∷ [])) (returns_is n)
    where
      with_stmts : List Run → Run
      with_stmts runs = block_layer calls (record { stmts = runs })

      emission : Run
      emission = run_of calls (s.Call (codes "nf_emit") (one ∷ e.Name (codes "name") ∷ begin ∷ time ∷ []))

-- what the first line answers, by what the block does
unfoldable answered : ℤ → (Calls → Run) → Answer
answered at body =
    answer_of (ended (body (first_calls manifest (pos 0)) (record {
      world = record { objects = with_input [] (first_objects (items [])); emits = []; turns = 0 };
      locals = (codes "time", at) ∷ (codes "name", pos 0) ∷ [];
    })))

row : (begin : CExpr) (f : State → Value) (n at : ℤ) → value_of begin ≡ f
    → first_line (stmts begin n) at ≡ answered at (λ calls. block_layer calls (record { stmts = statements_by calls f n }))
unfolding answered c_call with_function
row begin f n at is = ap (λ body. answered at (λ calls. body)) (body_is (first_calls manifest (pos 0)) begin f n is)

-- what was emitted, and how many turns were made
abbrev given : Answer → Option (List Emit × ℕ)
given (Done objects emits turns) = Some (emits, turns)
given other = None

abbrev emission : ℤ → ℤ → Emit
emission begin end = record { sign = pos 1; name = 0; start = begin; stop = end; cells = [] }

-- `w|1` gives `+w|1|1||`
emits_its_line : given (first_line (stmts time (pos 0)) (pos 1)) ≡ Some (emission (pos 1) (pos 1) ∷ [], 0)
unfolding answered variable with_variable with_object first_calls
emits_its_line = ap given (row time (read (codes "time")) (pos 0) (pos 1) (value_Name (codes "time"))) ∙ refl

-- an answer that is neither 0 nor 1
answers_otherwise : first_line (stmts time (pos 2)) (pos 1) ≡ Stuck cause.Answer
unfolding answered variable with_variable with_object first_calls
answers_otherwise = row time (read (codes "time")) (pos 2) (pos 1) (value_Name (codes "time")) ∙ refl

-- an answer of 1 drops what was emitted
overflows : first_line (stmts time (pos 1)) (pos 1) ≡ Overflow
unfolding answered variable with_variable with_object first_calls
overflows = row time (read (codes "time")) (pos 1) (pos 1) (value_Name (codes "time")) ∙ refl

-- `nf_emit(1, name, 6 / time, time)`: of `w|3` it is `+w|2|3||`, of `w|0` a zero divisor, and of `w|2` it begins after its end
abbrev part : CExpr
part = e.Bin op.Div (e.Lit (pos 6)) time

abbrev part_by : State → Value
part_by t = divided int_div (pos 6) (variable t (codes "time"))

part_is : value_of part ≡ part_by
part_is = value_Bin op.Div (e.Lit (pos 6)) time ∙ ap (λ f. part_of f (value_of time)) (value_Lit (pos 6)) ∙ ap (part_of (literal (pos 6))) (value_Name (codes "time"))
  where
    part_of : (State → Value) → (State → Value) → State → Value
    part_of f g t = and_then (f t) (λ m. and_then (g t) (operated op.Div m))

begins_at_two : given (first_line (stmts part (pos 0)) (pos 3)) ≡ Some (emission (pos 2) (pos 3) ∷ [], 0)
unfolding answered variable with_variable with_object first_calls
begins_at_two = ap given (row part part_by (pos 0) (pos 3) part_is) ∙ refl

divides_by_zero : first_line (stmts part (pos 0)) (pos 0) ≡ Stuck cause.Zero
unfolding answered variable with_variable with_object first_calls
divides_by_zero = row part part_by (pos 0) (pos 0) part_is ∙ refl

begins_after_its_end : first_line (stmts part (pos 0)) (pos 2) ≡ Stuck cause.Emit
unfolding answered variable with_variable with_object first_calls
begins_after_its_end = row part part_by (pos 0) (pos 2) part_is ∙ refl
