-- The rules of a C text computed on worked cases: a monitor of which one statement is replaced. What is expected was worked out by hand from the rules.
use Rattle.std.proofs.Common.{◌≡◌, ℕ, true, false, List, [], ◌∷◌, map, Option, Some, None, pos, refl, ap, ◌∙◌}
use Rattle.std.specs.Prelude.{codes, if◌then◌else◌}
use Rattle.nf_core.specs.declared.operators.BinOp.TheVariants as op
use Rattle.nf_cast.specs.declared.rules.CRule.{CRule}
use Rattle.nf_cast.specs.declared.rules.CRule.TheVariants as rule
use Rattle.nf_cast.specs.declared.rules.Breach.{Breach}
use Rattle.nf_cast.specs.declared.rules.Global.TheVariants as g
use Rattle.nf_cast.specs.declared.objects.CForm.TheVariants as form
use Rattle.nf_cast.specs.declared.placed.PlacedName.{PlacedName}
use Rattle.nf_cast.specs.declared.placed.PlacedExpr.{PlacedExpr}
use Rattle.nf_cast.specs.declared.placed.PlacedExpr.TheVariants as e
use Rattle.nf_cast.specs.declared.placed.PlacedRight.TheVariants as right
use Rattle.nf_cast.specs.declared.placed.PlacedBound.{PlacedBound}
use Rattle.nf_cast.specs.declared.placed.PlacedBound.TheVariants as bound
use Rattle.nf_cast.specs.declared.placed.PlacedStmt.{PlacedStmt}
use Rattle.nf_cast.specs.declared.placed.PlacedStmt.TheVariants as s
use Rattle.nf_cast.specs.declared.placed.PlacedItem.{PlacedItem}
use Rattle.nf_cast.specs.declared.placed.PlacedItem.TheVariants as item
use Rattle.nf_cast.specs.Book.{Book, Step, global, opening, demand, valued, Needs, steps, used, assigned, counted, deepen, fresh, ends, within, has_interface, is_scalar, is_func, is_assignable, is_constant, takes, gives_value, deepened, take_room}
use Rattle.nf_cast.specs.Rules.{Parts, parts, same, whole, value_parts, parens_parts, binary_parts, stmt_rules, block_rules, brace_rules, param_rules, enter, leave, right_rules, header_rules, bound_rules, optional_rules, breach_of, item_rules, object_rules, func_rules, is_void, is_static, fits_outside, needs_conditions, is_condition}
use Rattle.nf_cast.proofs.Public.PlacedExprLemmas.{parts_Lit, parts_Name, parts_Bin}
use Rattle.nf_cast.proofs.Public.PlacedStmtLemmas.{block_rules_of, stmt_rules_Assign, stmt_rules_Call, stmt_rules_For, stmt_rules_Return}

abbrev at : ℕ → List ℕ → PlacedName
at line x = record { line = line; name = x }

-- an array of one cell
abbrev array : ℕ → List ℕ → PlacedItem
array line x = item.Object (record { name = at line x; cells = Some (record { line = line; count = pos 1 }) })

-- `static int64_t nf_in[1], nf_out[1], used, t[1];`, line by line from line 6 on, and `nf_event` of these statements from line 10 on
abbrev text : List PlacedStmt → List PlacedItem
text stmts =
    array 6 (codes "nf_in") ∷ array 7 (codes "nf_out") ∷ item.Object (record { name = at 8 (codes "used"); cells = None }) ∷ array 9 (codes "t")
    ∷ item.Func (record { form = form.Int; name = at 10 (codes "nf_event"); params = at 10 (codes "name") ∷ at 10 (codes "time") ∷ []; body = record { stmts = stmts }; end = 15 }) ∷ []

abbrev needs : Needs
needs = record { params = 2; input = 0; output = 0 }

abbrev broken : ℕ → CRule → Option Breach
broken line r = Some (record { line = line; rule = r })

abbrev objects : List PlacedItem
objects = array 6 (codes "nf_in") ∷ array 7 (codes "nf_out") ∷ item.Object (record { name = at 8 (codes "used"); cells = None }) ∷ array 9 (codes "t") ∷ []

-- what is known at the end of such a text, given what the body asks
unfoldable at_end : Step → Book
at_end body = leave (codes "nf_event") 2 (brace_rules 15 (body (steps (map param_rules (at 10 (codes "name") ∷ at 10 (codes "time") ∷ [])) (enter false (demand 10 rule.Interface (fits_outside needs form.Int (codes "nf_event") 2) (fresh (at 10 (codes "nf_event")) (steps (map (item_rules needs) objects) opening)))))))

-- the first breach of such a text, given what its one statement asks
unfoldable asked : Step → Option Breach
asked body = let b = at_end (within (steps (body ∷ []))) in (demand 16 rule.Interface (has_interface needs b) b).first

-- a text with one statement, given what this asks
row : (stmt : PlacedStmt) (f : Step) → stmt_rules stmt ≡ f → breach_of needs 16 (text (stmt ∷ [])) ≡ asked f
unfolding breach_of item_rules object_rules func_rules is_void asked at_end
row stmt f is =
    let body = block_rules_of (stmt ∷ []) ∙ ap (λ (g : Step). within (steps (g ∷ []))) is in
    ap (λ (g : Step). (demand 16 rule.Interface (has_interface needs (at_end g)) (at_end g)).first) body

abbrev one : PlacedExpr
one = e.Lit 12 (pos 1)

abbrev name : List ℕ → PlacedExpr
name x = e.Name (at 12 x)

-- `x = a;`
abbrev set : List ℕ → PlacedExpr → PlacedStmt
set x a = s.Assign (at 12 x) (right.Value a)

one_asks : parts one ≡ value_parts 12 same same
one_asks = parts_Lit 12 (pos 1)

name_asks : (x : List ℕ) → parts (name x) ≡ value_parts 12 (used is_scalar (at 12 x)) same
name_asks x = parts_Name (at 12 x)

-- an assignment, given what its value asks
set_asks : (x : List ℕ) (a : PlacedExpr) (p : Parts) → parts a ≡ p → stmt_rules (set x a) ≡ (λ b. ends false (whole false p (assigned (at 12 x) b)))
unfolding right_rules
set_asks x a p is = stmt_rules_Assign (at 12 x) (right.Value a) ∙ (λ i (b : Book). ends false (whole false (is i) (assigned (at 12 x) b)))

-- a loop that counts `i` up to 1, of these other names and of this body
abbrev loop : List ℕ → PlacedBound → List PlacedStmt → PlacedStmt
loop tested limit stmts = s.For (at 11 (codes "i")) (at 11 tested) limit (at 11 (codes "i")) (at 11 (codes "i")) (record { stmts = stmts })

-- a loop, given what its body asks
loop_asks : (tested : List ℕ) (limit : PlacedBound) (stmts : List PlacedStmt) (f : Step) → block_rules (record { stmts = stmts }) ≡ f
    → stmt_rules (loop tested limit stmts) ≡ (λ b. ends false (within (λ c. f (header_rules (codes "i") (at 11 tested) limit (at 11 (codes "i")) (at 11 (codes "i")) c)) (fresh (at 11 (codes "i")) b)))
loop_asks tested limit stmts f is = stmt_rules_For (at 11 (codes "i")) (at 11 tested) limit (at 11 (codes "i")) (at 11 (codes "i")) (record { stmts = stmts })
    ∙ (λ i (b : Book). ends false (within (λ c. is i (header_rules (codes "i") (at 11 tested) limit (at 11 (codes "i")) (at 11 (codes "i")) c)) (fresh (at 11 (codes "i")) b)))

-- `used = INT64_C(1);` in a function that gives a value: its closing brace breaks a rule, since it ends with no return
no_return : breach_of needs 16 (text (set (codes "used") one ∷ [])) ≡ broken 15 rule.Return
unfolding asked at_end item_rules object_rules is_static fits_outside take_room has_interface is_scalar is_assignable
no_return = row (set (codes "used") one) _ (set_asks (codes "used") one _ one_asks)

-- `return INT64_C(1);`
kept : breach_of needs 16 (text (s.Return 12 (Some one) ∷ [])) ≡ None
unfolding asked at_end item_rules object_rules is_static fits_outside take_room has_interface is_scalar is_assignable optional_rules
kept = row (s.Return 12 (Some one)) _ (stmt_rules_Return 12 (Some one) ∙ (λ i (b : Book). ends true (whole false (one_asks i) (demand 12 rule.Return (if b.void then false else true) b))))

-- `return;`
return_without_value : breach_of needs 16 (text (s.Return 12 None ∷ [])) ≡ broken 12 rule.Return
unfolding asked at_end item_rules object_rules is_static fits_outside take_room has_interface is_scalar is_assignable optional_rules
return_without_value = row (s.Return 12 None) _ (stmt_rules_Return 12 None)

-- `used = zz;`
unknown_name : breach_of needs 16 (text (set (codes "used") (name (codes "zz")) ∷ [])) ≡ broken 12 rule.Unknown
unfolding asked at_end item_rules object_rules is_static fits_outside take_room has_interface is_scalar is_assignable
unknown_name = row (set (codes "used") (name (codes "zz"))) _ (set_asks (codes "used") (name (codes "zz")) _ (name_asks (codes "zz")))

-- `used = t;`
array_without_index : breach_of needs 16 (text (set (codes "used") (name (codes "t")) ∷ [])) ≡ broken 12 rule.Form
unfolding asked at_end item_rules object_rules is_static fits_outside take_room has_interface is_scalar is_assignable
array_without_index = row (set (codes "used") (name (codes "t"))) _ (set_asks (codes "used") (name (codes "t")) _ (name_asks (codes "t")))

-- `used = used < INT64_C(1);`
condition_for_a_value : breach_of needs 16 (text (set (codes "used") (e.Bin op.Lt (name (codes "used")) one) ∷ [])) ≡ broken 12 rule.Class
unfolding asked at_end item_rules object_rules is_static fits_outside take_room has_interface is_scalar is_assignable needs_conditions is_condition
condition_for_a_value =
    let both = parts_Bin op.Lt (name (codes "used")) one ∙ (λ i. binary_parts op.Lt (name_asks (codes "used") i) (one_asks i)) in
    row (set (codes "used") (e.Bin op.Lt (name (codes "used")) one)) _ (set_asks (codes "used") (e.Bin op.Lt (name (codes "used")) one) _ both)

-- `nf_emit(INT64_C(1), name, time);`
three_arguments : breach_of needs 16 (text (s.Call (at 12 (codes "nf_emit")) (one ∷ name (codes "name") ∷ name (codes "time") ∷ []) ∷ [])) ≡ broken 12 rule.Count
unfolding asked at_end item_rules object_rules is_static fits_outside take_room has_interface is_scalar is_assignable is_func takes deepened
three_arguments = row (s.Call (at 12 (codes "nf_emit")) (one ∷ name (codes "name") ∷ name (codes "time") ∷ [])) _
    (stmt_rules_Call (at 12 (codes "nf_emit")) (one ∷ name (codes "name") ∷ name (codes "time") ∷ [])
    ∙ (λ i (b : Book). ends false (steps (whole false (one_asks i) ∷ whole false (name_asks (codes "name") i) ∷ whole false (name_asks (codes "time") i) ∷ [])
    (deepen (at 12 (codes "nf_emit")) (counted 3 (at 12 (codes "nf_emit")) (used is_func (at 12 (codes "nf_emit")) b))))))

-- `used = nf_emit(INT64_C(1), name, time, time);`
void_for_a_value : breach_of needs 16 (text (s.Assign (at 12 (codes "used")) (right.Call (at 12 (codes "nf_emit")) (one ∷ name (codes "name") ∷ name (codes "time") ∷ name (codes "time") ∷ [])) ∷ [])) ≡ broken 12 rule.Void
unfolding asked at_end item_rules object_rules is_static fits_outside take_room has_interface is_scalar is_assignable is_func takes gives_value deepened right_rules
void_for_a_value = row (s.Assign (at 12 (codes "used")) (right.Call (at 12 (codes "nf_emit")) (one ∷ name (codes "name") ∷ name (codes "time") ∷ name (codes "time") ∷ []))) _
    (stmt_rules_Assign (at 12 (codes "used")) (right.Call (at 12 (codes "nf_emit")) (one ∷ name (codes "name") ∷ name (codes "time") ∷ name (codes "time") ∷ []))
    ∙ (λ i (b : Book). ends false (steps (whole false (one_asks i) ∷ whole false (name_asks (codes "name") i) ∷ whole false (name_asks (codes "time") i) ∷ whole false (name_asks (codes "time") i) ∷ [])
    (deepen (at 12 (codes "nf_emit")) (valued (at 12 (codes "nf_emit")) (counted 4 (at 12 (codes "nf_emit")) (used is_func (at 12 (codes "nf_emit")) (assigned (at 12 (codes "used")) b))))))))

-- `for (int64_t i = INT64_C(0); i < used; i = i + INT64_C(1)) { }`
variable_for_a_bound : breach_of needs 16 (text (loop (codes "i") (bound.Name (at 11 (codes "used"))) [] ∷ [])) ≡ broken 11 rule.Bound
unfolding asked at_end item_rules object_rules is_static fits_outside take_room has_interface is_scalar is_assignable header_rules bound_rules is_constant
variable_for_a_bound = row (loop (codes "i") (bound.Name (at 11 (codes "used"))) []) _ (loop_asks (codes "i") (bound.Name (at 11 (codes "used"))) [] _ (block_rules_of []))

-- `for (int64_t i = INT64_C(0); used < INT64_C(1); i = i + INT64_C(1)) { }`
other_name_in_header : breach_of needs 16 (text (loop (codes "used") (bound.Lit (pos 1)) [] ∷ [])) ≡ broken 11 rule.Loop
unfolding asked at_end item_rules object_rules is_static fits_outside take_room has_interface is_scalar is_assignable header_rules bound_rules
other_name_in_header = row (loop (codes "used") (bound.Lit (pos 1)) []) _ (loop_asks (codes "used") (bound.Lit (pos 1)) [] _ (block_rules_of []))

-- `for (int64_t i = INT64_C(0); i < INT64_C(1); i = i + INT64_C(1)) { i = INT64_C(1); }`
loop_name_assigned : breach_of needs 16 (text (loop (codes "i") (bound.Lit (pos 1)) (set (codes "i") one ∷ []) ∷ [])) ≡ broken 12 rule.Assign
unfolding asked at_end item_rules object_rules is_static fits_outside take_room has_interface is_scalar is_assignable header_rules bound_rules
loop_name_assigned = row (loop (codes "i") (bound.Lit (pos 1)) (set (codes "i") one ∷ [])) _
    (loop_asks (codes "i") (bound.Lit (pos 1)) (set (codes "i") one ∷ []) _ (block_rules_of (set (codes "i") one ∷ []) ∙ (λ i. within (steps (set_asks (codes "i") one _ one_asks i ∷ [])))))

-- `zz && INT64_C(1)`, and `(zz) && INT64_C(1)`, of which the first token is a parenthesis: the name is unknown, and before it a value stands for a condition
first_token : (whole true (binary_parts op.And (value_parts 12 (used is_scalar (at 12 (codes "zz"))) same) (value_parts 12 same same)) opening).first ≡ broken 12 rule.Unknown
unfolding needs_conditions is_condition is_scalar
first_token = refl

parenthesis_first : (whole true (binary_parts op.And (parens_parts 12 (value_parts 12 (used is_scalar (at 12 (codes "zz"))) same)) (value_parts 12 same same)) opening).first ≡ broken 12 rule.Class
unfolding needs_conditions is_condition is_scalar
parenthesis_first = refl

-- an object of so many cells at a line
abbrev cells : ℕ → ℕ → List ℕ → PlacedItem
cells line n x = item.Object (record { name = at line x; cells = Some (record { line = line; count = pos n }) })

-- `static int64_t a[INT64_C(0)];`, then a name declared twice, then one cell too many, and no `nf_event`
objects_alone : map (λ items. breach_of needs 16 items) ((cells 6 0 (codes "a") ∷ []) ∷ (cells 6 1 (codes "a") ∷ cells 7 1 (codes "a") ∷ []) ∷ (cells 6 33554431 (codes "a") ∷ cells 7 1 (codes "b") ∷ cells 8 1 (codes "c") ∷ []) ∷ (cells 6 33554432 (codes "a") ∷ []) ∷ [])
    ≡ broken 6 rule.Size ∷ broken 7 rule.Twice ∷ broken 8 rule.Size ∷ broken 16 rule.Interface ∷ []
unfolding breach_of item_rules object_rules take_room has_interface
objects_alone = refl

-- `nf_event` as it should be, static, and of three parameters in version 1; another function without `static`, and with it
functions_outside : fits_outside needs form.Int (codes "nf_event") 2 ∷ fits_outside needs form.StaticInt (codes "nf_event") 2 ∷ fits_outside needs form.Int (codes "nf_event") 3 ∷ fits_outside needs form.Int (codes "nf_evil") 2 ∷ fits_outside needs form.StaticVoid (codes "nf_evil") 2 ∷ []
    ≡ true ∷ false ∷ false ∷ false ∷ true ∷ []
unfolding fits_outside is_static
functions_outside = refl

-- a function that calls one of depth 15 has depth 16, and one of depth 16 can't be called
calls : ((deepened 11 (Some (global (g.Func 2 true 15))) opening).depth ≡ 16) × ((deepened 11 (Some (global (g.Func 2 true 16))) opening).first ≡ broken 11 rule.Calls)
unfolding deepened
calls = (refl, refl)
