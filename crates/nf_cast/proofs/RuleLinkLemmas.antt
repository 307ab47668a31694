-- The rules are the same whatever the lines and the parentheses: a text breaks none exactly where its bare trees break none, if each loop's header repeats its name.
use Rattle.std.proofs.Common.{◌≡◌, ℕ, Bool, true, false, List, [], ◌∷◌, map, length, Option, Some, None, refl, sym, ap, subst, ◌∙◌}
use Rattle.std.specs.Prelude.{is_some, is_none, nat_abs, if◌then◌else◌, ◌||◌, ◌&&◌}
use Rattle.std.specs.List.{list_all}
use Rattle.nf_lemmas.proofs.BoolLemmas.{both}
use Rattle.nf_core.specs.Texts.{text_eq}
use Rattle.nf_cast.specs.declared.rules.Global.{Global}
use Rattle.nf_cast.specs.declared.rules.Local.{Local}
use Rattle.std.proofs.lemmas.List.{length-map}
use Rattle.nf_core.specs.declared.operators.BinOp.{BinOp}
use Rattle.nf_cast.specs.declared.rules.CRule.TheVariants as rule
use Rattle.nf_cast.specs.declared.rules.Global.TheVariants as g
use Rattle.nf_cast.specs.declared.rules.Local.TheVariants as l
use Rattle.nf_cast.specs.declared.objects.CForm.{CForm}
use Rattle.nf_cast.specs.declared.placed.PlacedName.{PlacedName}
use Rattle.nf_cast.specs.declared.placed.PlacedCells.{PlacedCells}
use Rattle.nf_cast.specs.declared.placed.PlacedExpr.{PlacedExpr}
use Rattle.nf_cast.specs.declared.placed.PlacedRight.{PlacedRight}
use Rattle.nf_cast.specs.declared.placed.PlacedRight.TheVariants as right
use Rattle.nf_cast.specs.declared.placed.PlacedBound.{PlacedBound}
use Rattle.nf_cast.specs.declared.placed.PlacedBound.TheVariants as bound
use Rattle.nf_cast.specs.declared.placed.PlacedStmt.{PlacedStmt}
use Rattle.nf_cast.specs.declared.placed.PlacedStmt.TheVariants as stmt
use Rattle.nf_cast.specs.declared.placed.PlacedBlock.{PlacedBlock}
use Rattle.nf_cast.specs.declared.placed.PlacedFunc.{PlacedFunc}
use Rattle.nf_cast.specs.declared.placed.PlacedItem.{PlacedItem}
use Rattle.nf_cast.specs.declared.placed.PlacedItem.TheVariants as item
use Rattle.nf_cast.specs.Placed.{strip, strip_right, strip_bound, strip_optional, strip_stmt, strip_block, strip_cells, strip_item, bare, bare_right, bare_bound, bare_optional, bare_stmt, bare_block, bare_cells, bare_item, nowhere, is_straight_stmt, is_straight_block, is_straight}
use Rattle.nf_cast.specs.Book.{Book, Step, Seen, Needs, steps, demand, look, is_scalar, is_array, is_func, is_assignable, is_constant, takes, gives_value, fresh, used, assigned, bounded, again, counted, valued, deepen, take_room, declare, publish, ends, within, has_interface, opening}
use Rattle.nf_cast.specs.Rules.{Parts, parts, same, of_class, whole, value_parts, unary_parts, binary_parts, parens_parts, needs_conditions, value_rules, condition_rules, call_rules, used_call_rules, right_rules, bound_rules, header_rules, maybe, optional_rules, return_rules, stmt_rules, block_rules, object_rules, param_rules, is_void, fits_outside, enter, leave, brace_rules, func_rules, item_rules, breach_of}
use Rattle.nf_cast.specs.Program.{KeepsRules}
use Rattle.nf_cast.proofs.Public.PlacedExprLemmas as e
use Rattle.nf_cast.proofs.Public.PlacedStmtLemmas as s
use Rattle.nf_cast.proofs.LinkLemmas.{Links, Stays, passed, met, whole_stays, class_stays, used_stays, to_bare, from_bare}

module _ (R : Links) where
  -- the parts of one expression, and those of one that is the same but for lines and parentheses
  record Like (p q : Parts) : Type 0 where
    condition : p.condition ≡ q.condition
    front : Stays p.front
    rest : Stays p.rest
    other_front : Stays q.front
    other_rest : Stays q.rest
    both : R.rel (λ b. p.rest (p.front b)) (λ b. q.rest (q.front b))

  moved : (p q p' q' : Parts) → p' ≡ p → q' ≡ q → Like p q → Like p' q'
  moved p q p' q' e f like = subst (λ (z : Parts). Like z q') (sym e) (subst (λ (z : Parts). Like p z) (sym f) like)

  whole_agrees : (wanted : Bool) (p q : Parts) → Like p q → R.rel (whole wanted p) (whole wanted q)
  whole_agrees wanted p q like = R.class wanted p q like.condition like.rest like.other_rest like.both

  same_stays : Stays same
  same_stays b none = none

  nothing : R.rel same same
  nothing = R.keep same (λ b. refl)

  ends_agrees : (flag : Bool) → R.rel (ends flag) (ends flag)
  ends_agrees flag = R.keep (ends flag) (λ b. refl)

  declare_agrees : (x : List ℕ) (k : Local) → R.rel (declare x k) (declare x k)
  declare_agrees x k = R.keep (declare x k) (λ b. refl)

  publish_agrees : (x : List ℕ) (k : Global) → R.rel (publish x k) (publish x k)
  publish_agrees x k = R.keep (publish x k) (λ b. refl)

  fresh_agrees : (x : List ℕ) (line other : ℕ) → R.rel (fresh (record { line = line; name = x })) (fresh (record { line = other; name = x }))
  fresh_agrees x line other = R.ask line other rule.Twice (λ b. is_none (look b x)) same same nothing

  used_agrees : (x : List ℕ) (line other : ℕ) (test : Option Seen → Bool) → R.rel (used test (record { line = line; name = x })) (used test (record { line = other; name = x }))
  used_agrees x line other test =
      R.ask line other rule.Form (λ b. test (look b x)) (λ b. demand line rule.Unknown (is_some (look b x)) b) (λ b. demand other rule.Unknown (is_some (look b x)) b)
      (R.ask line other rule.Unknown (λ b. is_some (look b x)) same same nothing)

  assigned_agrees : (x : List ℕ) (line other : ℕ) → R.rel (assigned (record { line = line; name = x })) (assigned (record { line = other; name = x }))
  assigned_agrees x line other = R.ask line other rule.Assign (λ b. is_assignable (look b x)) (used is_scalar (record { line = line; name = x })) (used is_scalar (record { line = other; name = x })) (used_agrees x line other is_scalar)

  bounded_agrees : (x : List ℕ) (line other : ℕ) → R.rel (bounded (record { line = line; name = x })) (bounded (record { line = other; name = x }))
  bounded_agrees x line other = R.ask line other rule.Bound (λ b. is_constant (look b x)) (used is_scalar (record { line = line; name = x })) (used is_scalar (record { line = other; name = x })) (used_agrees x line other is_scalar)

  valued_agrees : (x : List ℕ) (line other : ℕ) → R.rel (valued (record { line = line; name = x })) (valued (record { line = other; name = x }))
  valued_agrees x line other = R.ask line other rule.Void (λ b. gives_value (look b x)) same same nothing

  counted_agrees : (n m : ℕ) (x : List ℕ) (line other : ℕ) → n ≡ m → R.rel (counted n (record { line = line; name = x })) (counted m (record { line = other; name = x }))
  counted_agrees n m x line other e = subst (λ (k : ℕ). R.rel (counted n (record { line = line; name = x })) (counted k (record { line = other; name = x }))) e
      (R.ask line other rule.Count (λ b. takes n (look b x)) same same nothing)

  literal_like : (line other : ℕ) → Like (value_parts line same same) (value_parts other same same)
  literal_like line other = record { condition = refl; front = same_stays; rest = same_stays; other_front = same_stays; other_rest = same_stays; both = nothing }

  name_like : (x : List ℕ) (line other : ℕ) (test : Option Seen → Bool) → Like (value_parts line (used test (record { line = line; name = x })) same) (value_parts other (used test (record { line = other; name = x })) same)
  name_like x line other test = record {
    condition = refl;
    front = used_stays test (record { line = line; name = x });
    rest = same_stays;
    other_front = used_stays test (record { line = other; name = x });
    other_rest = same_stays;
    both = used_agrees x line other test;
  }

  cell_like : (x : List ℕ) (line other : ℕ) (p q : Parts) → Like p q → Like (value_parts line (used is_array (record { line = line; name = x })) (whole false p)) (value_parts other (used is_array (record { line = other; name = x })) (whole false q))
  cell_like x line other p q like = record {
    condition = refl;
    front = used_stays is_array (record { line = line; name = x });
    rest = whole_stays false p like.front like.rest;
    other_front = used_stays is_array (record { line = other; name = x });
    other_rest = whole_stays false q like.other_front like.other_rest;
    both = R.follow (used is_array (record { line = line; name = x })) (used is_array (record { line = other; name = x })) (whole false p) (whole false q) (used_agrees x line other is_array) (whole_agrees false p q like);
  }

  unary_like : (wanted : Bool) (line other : ℕ) (p q : Parts) → Like p q → Like (unary_parts wanted line p) (unary_parts wanted other q)
  unary_like wanted line other p q like = record {
    condition = refl;
    front = same_stays;
    rest = whole_stays wanted p like.front like.rest;
    other_front = same_stays;
    other_rest = whole_stays wanted q like.other_front like.other_rest;
    both = whole_agrees wanted p q like;
  }

  binary_like : (o : BinOp) (p q p' q' : Parts) → Like p q → Like p' q' → Like (binary_parts o p p') (binary_parts o q q')
  binary_like o p q p' q' like like' =
      let wanted = needs_conditions o in record {
        condition = refl;
        front = like.front;
        rest = λ b none. class_stays wanted p b (like.rest (of_class wanted p b) (whole_stays wanted p' like'.front like'.rest (p.rest (of_class wanted p b)) none));
        other_front = like.other_front;
        other_rest = λ b none. class_stays wanted q b (like.other_rest (of_class wanted q b) (whole_stays wanted q' like'.other_front like'.other_rest (q.rest (of_class wanted q b)) none));
        both = R.follow (whole wanted p) (whole wanted q) (whole wanted p') (whole wanted q') (whole_agrees wanted p q like) (whole_agrees wanted p' q' like');
      }

  parens_like : (line : ℕ) (p q : Parts) → Like p q → Like (parens_parts line p) q
  parens_like line p q like = record {
    condition = like.condition;
    front = same_stays;
    rest = λ b none. like.front b (like.rest (p.front b) none);
    other_front = like.other_front;
    other_rest = like.other_rest;
    both = like.both;
  }

  -- an expression without its lines and parentheses, as one that is written
  abbrev bared : PlacedExpr → PlacedExpr
  bared a = bare (strip a)

  abbrev IsLike : PlacedExpr → Type 0
  IsLike a = Like (parts a) (parts (bared a))

  expr_cases : e.ExprCases IsLike
  expr_cases = record {
    literal = λ line n. moved _ _ _ _ (e.parts_Lit line n) (ap (λ z. parts (bare z)) (e.strip_Lit line n) ∙ ap parts (e.bare_Lit n) ∙ e.parts_Lit 0 n) (literal_like line 0);
    name = λ at. moved _ _ _ _ (e.parts_Name at) (ap (λ z. parts (bare z)) (e.strip_Name at) ∙ ap parts (e.bare_Name at.name) ∙ e.parts_Name (nowhere at.name)) (name_like at.name at.line 0 is_scalar);
    cell = λ at i like. moved _ _ _ _ (e.parts_Cell at i) (ap (λ z. parts (bare z)) (e.strip_Cell at i) ∙ ap parts (e.bare_Cell at.name (strip i)) ∙ e.parts_Cell (nowhere at.name) (bared i)) (cell_like at.name at.line 0 (parts i) (parts (bared i)) like);
    minus = λ line a like. moved _ _ _ _ (e.parts_Neg line a) (ap (λ z. parts (bare z)) (e.strip_Neg line a) ∙ ap parts (e.bare_Neg (strip a)) ∙ e.parts_Neg 0 (bared a)) (unary_like false line 0 (parts a) (parts (bared a)) like);
    inverted = λ line a like. moved _ _ _ _ (e.parts_Not line a) (ap (λ z. parts (bare z)) (e.strip_Not line a) ∙ ap parts (e.bare_Not (strip a)) ∙ e.parts_Not 0 (bared a)) (unary_like true line 0 (parts a) (parts (bared a)) like);
    binary = λ o a c like like'. moved _ _ _ _ (e.parts_Bin o a c) (ap (λ z. parts (bare z)) (e.strip_Bin o a c) ∙ ap parts (e.bare_Bin o (strip a) (strip c)) ∙ e.parts_Bin o (bared a) (bared c)) (binary_like o (parts a) (parts (bared a)) (parts c) (parts (bared c)) like like');
    parens = λ line a like. moved _ _ _ _ (e.parts_Parens line a) (ap (λ z. parts (bare z)) (e.strip_Parens line a)) (parens_like line (parts a) (parts (bared a)) like);
  }

  expr_like : (a : PlacedExpr) → Like (parts a) (parts (bared a))
  expr_like = e.every_expr IsLike expr_cases

  value_agrees : (a : PlacedExpr) → R.rel (value_rules a) (value_rules (bared a))
  value_agrees a = whole_agrees false (parts a) (parts (bared a)) (expr_like a)

  condition_agrees : (a : PlacedExpr) → R.rel (condition_rules a) (condition_rules (bared a))
  condition_agrees a = whole_agrees true (parts a) (parts (bared a)) (expr_like a)

  -- arguments
  abbrev bared_all : List PlacedExpr → List PlacedExpr
  bared_all arguments = map bare (map strip arguments)

  arguments_agree : (arguments : List PlacedExpr) → R.rel (steps (map value_rules arguments)) (steps (map value_rules (bared_all arguments)))
  arguments_agree [] = nothing
  arguments_agree (a ∷ arguments) = R.follow (value_rules a) (value_rules (bared a)) (steps (map value_rules arguments)) (steps (map value_rules (bared_all arguments))) (value_agrees a) (arguments_agree arguments)

  as_many : (arguments : List PlacedExpr) → length arguments ≡ length (bared_all arguments)
  as_many arguments = sym (length-map (map strip arguments) bare ∙ length-map arguments strip)

  -- calls, of which the arguments come last
  abbrev asked : PlacedName → List PlacedExpr → Step
  asked at arguments b = counted (length arguments) at (used is_func at b)

  asked_agrees : (at : PlacedName) (arguments : List PlacedExpr) → R.rel (asked at arguments) (asked (nowhere at.name) (bared_all arguments))
  asked_agrees at arguments = R.follow (used is_func at) (used is_func (nowhere at.name)) (counted (length arguments) at) (counted (length (bared_all arguments)) (nowhere at.name))
      (used_agrees at.name at.line 0 is_func) (counted_agrees (length arguments) (length (bared_all arguments)) at.name at.line 0 (as_many arguments))

  call_agrees : (at : PlacedName) (arguments : List PlacedExpr) → R.rel (call_rules at arguments) (call_rules (nowhere at.name) (bared_all arguments))
  call_agrees at arguments = R.follow (λ b. deepen at (asked at arguments b)) (λ b. deepen (nowhere at.name) (asked (nowhere at.name) (bared_all arguments) b)) (steps (map value_rules arguments)) (steps (map value_rules (bared_all arguments)))
      (R.follow (asked at arguments) (asked (nowhere at.name) (bared_all arguments)) (deepen at) (deepen (nowhere at.name)) (asked_agrees at arguments) (R.deep at.name at.line 0))
      (arguments_agree arguments)

  used_call_agrees : (at : PlacedName) (arguments : List PlacedExpr) → R.rel (used_call_rules at arguments) (used_call_rules (nowhere at.name) (bared_all arguments))
  used_call_agrees at arguments = R.follow (λ b. deepen at (valued at (asked at arguments b))) (λ b. deepen (nowhere at.name) (valued (nowhere at.name) (asked (nowhere at.name) (bared_all arguments) b))) (steps (map value_rules arguments)) (steps (map value_rules (bared_all arguments)))
      (R.follow (λ b. valued at (asked at arguments b)) (λ b. valued (nowhere at.name) (asked (nowhere at.name) (bared_all arguments) b)) (deepen at) (deepen (nowhere at.name))
      (R.follow (asked at arguments) (asked (nowhere at.name) (bared_all arguments)) (valued at) (valued (nowhere at.name)) (asked_agrees at arguments) (valued_agrees at.name at.line 0))
      (R.deep at.name at.line 0))
      (arguments_agree arguments)

  right_agrees : (r : PlacedRight) → R.rel (right_rules r) (right_rules (bare_right (strip_right r)))
  unfolding right_rules strip_right bare_right
  right_agrees (right.Call at arguments) = used_call_agrees at arguments
  right_agrees (right.Value a) = value_agrees a

  bound_agrees : (limit : PlacedBound) → R.rel (bound_rules limit) (bound_rules (bare_bound (strip_bound limit)))
  unfolding bound_rules strip_bound bare_bound
  bound_agrees (bound.Lit n) = nothing
  bound_agrees (bound.Name at) = bounded_agrees at.name at.line 0

  -- a loop's header, and the one that repeats its first name
  header_agrees : (x : List ℕ) (tested : PlacedName) (limit : PlacedBound) (set counts : PlacedName) → (R.strict ≡ true → text_eq x tested.name ≡ true) → (R.strict ≡ true → text_eq x set.name ≡ true) → (R.strict ≡ true → text_eq x counts.name ≡ true) → R.rel (header_rules x tested limit set counts) (header_rules x (nowhere x) (bare_bound (strip_bound limit)) (nowhere x) (nowhere x))
  unfolding header_rules
  header_agrees x tested limit set counts is_tested is_set is_counted =
      let bare_limit = bare_bound (strip_bound limit) in
      let first = R.follow (declare x l.Loop) (declare x l.Loop) (again x tested) (again x (nowhere x)) (declare_agrees x l.Loop) (R.again_is x tested 0 is_tested) in
      let second = R.follow (λ b. again x tested (declare x l.Loop b)) (λ b. again x (nowhere x) (declare x l.Loop b)) (bound_rules limit) (bound_rules bare_limit) first (bound_agrees limit) in
      let third = R.follow (λ b. bound_rules limit (again x tested (declare x l.Loop b))) (λ b. bound_rules bare_limit (again x (nowhere x) (declare x l.Loop b))) (again x set) (again x (nowhere x)) second (R.again_is x set 0 is_set) in
      R.follow (λ b. again x set (bound_rules limit (again x tested (declare x l.Loop b)))) (λ b. again x (nowhere x) (bound_rules bare_limit (again x (nowhere x) (declare x l.Loop b)))) (again x counts) (again x (nowhere x)) third (R.again_is x counts 0 is_counted)

  return_agrees : (line : ℕ) (a : Option PlacedExpr) → R.rel (return_rules line a) (return_rules 0 (bare_optional (strip_optional a)))
  unfolding optional_rules strip_optional bare_optional
  return_agrees line None = R.follow (λ b. demand line rule.Return (if b.void then true else false) b) (λ b. demand 0 rule.Return (if b.void then true else false) b) (ends true) (ends true)
      (R.ask line 0 rule.Return (λ (b : Book). if b.void then true else false) (λ b. b) (λ b. b) nothing) (ends_agrees true)
  return_agrees line (Some a) =
      let asks = R.ask line 0 rule.Return (λ (b : Book). if b.void then false else true) (λ b. b) (λ b. b) nothing in
      R.follow (λ b. value_rules a (demand line rule.Return (if b.void then false else true) b)) (λ b. value_rules (bared a) (demand 0 rule.Return (if b.void then false else true) b)) (ends true) (ends true)
      (R.follow (λ b. demand line rule.Return (if b.void then false else true) b) (λ b. demand 0 rule.Return (if b.void then false else true) b) (value_rules a) (value_rules (bared a)) asks (value_agrees a)) (ends_agrees true)

  -- statements and blocks
  abbrev bared_stmt : PlacedStmt → PlacedStmt
  bared_stmt w = bare_stmt (strip_stmt w)

  abbrev bared_block : PlacedBlock → PlacedBlock
  bared_block w = bare_block (strip_block w)

  abbrev StmtAgrees : PlacedStmt → Type 0
  StmtAgrees w = (R.strict ≡ true → is_straight_stmt w ≡ true) → R.rel (stmt_rules w) (stmt_rules (bared_stmt w))

  abbrev BlockAgrees : PlacedBlock → Type 0
  BlockAgrees w = (R.strict ≡ true → is_straight_block w ≡ true) → R.rel (block_rules w) (block_rules (bared_block w))

  carried : (f h f' h' : Step) → f' ≡ f → h' ≡ h → R.rel f h → R.rel f' h'
  carried f h f' h' e e' agree = subst (λ (z : Step). R.rel z h') (sym e) (subst (λ (z : Step). R.rel f z) (sym e') agree)

  -- the last thing that a statement does
  ended : (f h : Step) → R.rel f h → R.rel (λ b. ends false (f b)) (λ b. ends false (h b))
  ended f h agree = R.follow f h (ends false) (ends false) agree (ends_agrees false)

  local_agrees : (constant : Bool) (at : PlacedName) (r : PlacedRight) → StmtAgrees (stmt.Local constant at r)
  local_agrees constant at r straight =
      let kind = if constant then l.Constant else l.Plain in
      let bare_r = bare_right (strip_right r) in
      let begins = R.follow (fresh at) (fresh (nowhere at.name)) (right_rules r) (right_rules bare_r) (fresh_agrees at.name at.line 0) (right_agrees r) in
      let whole_one = R.follow (λ b. right_rules r (fresh at b)) (λ b. right_rules bare_r (fresh (nowhere at.name) b)) (declare at.name kind) (declare at.name kind) begins (declare_agrees at.name kind) in
      carried _ _ _ _ (s.stmt_rules_Local constant at r) (ap (λ z. stmt_rules (bare_stmt z)) (s.strip_stmt_Local constant at r) ∙ ap stmt_rules (s.bare_stmt_Local constant at.name (strip_right r)) ∙ s.stmt_rules_Local constant (nowhere at.name) bare_r)
      (ended (λ b. declare at.name kind (right_rules r (fresh at b))) (λ b. declare at.name kind (right_rules bare_r (fresh (nowhere at.name) b))) whole_one)

  assign_agrees : (at : PlacedName) (r : PlacedRight) → StmtAgrees (stmt.Assign at r)
  assign_agrees at r straight =
      let bare_r = bare_right (strip_right r) in
      carried _ _ _ _ (s.stmt_rules_Assign at r) (ap (λ z. stmt_rules (bare_stmt z)) (s.strip_stmt_Assign at r) ∙ ap stmt_rules (s.bare_stmt_Assign at.name (strip_right r)) ∙ s.stmt_rules_Assign (nowhere at.name) bare_r)
      (ended (λ b. right_rules r (assigned at b)) (λ b. right_rules bare_r (assigned (nowhere at.name) b))
      (R.follow (assigned at) (assigned (nowhere at.name)) (right_rules r) (right_rules bare_r) (assigned_agrees at.name at.line 0) (right_agrees r)))

  store_agrees : (at : PlacedName) (i a : PlacedExpr) → StmtAgrees (stmt.Store at i a)
  store_agrees at i a straight =
      let first = R.follow (used is_array at) (used is_array (nowhere at.name)) (value_rules i) (value_rules (bared i)) (used_agrees at.name at.line 0 is_array) (value_agrees i) in
      carried _ _ _ _ (s.stmt_rules_Store at i a) (ap (λ z. stmt_rules (bare_stmt z)) (s.strip_stmt_Store at i a) ∙ ap stmt_rules (s.bare_stmt_Store at.name (strip i) (strip a)) ∙ s.stmt_rules_Store (nowhere at.name) (bared i) (bared a))
      (ended (λ b. value_rules a (value_rules i (used is_array at b))) (λ b. value_rules (bared a) (value_rules (bared i) (used is_array (nowhere at.name) b)))
      (R.follow (λ b. value_rules i (used is_array at b)) (λ b. value_rules (bared i) (used is_array (nowhere at.name) b)) (value_rules a) (value_rules (bared a)) first (value_agrees a)))

  call_stmt_agrees : (at : PlacedName) (arguments : List PlacedExpr) → StmtAgrees (stmt.Call at arguments)
  call_stmt_agrees at arguments straight =
      carried _ _ _ _ (s.stmt_rules_Call at arguments) (ap (λ z. stmt_rules (bare_stmt z)) (s.strip_stmt_Call at arguments) ∙ ap stmt_rules (s.bare_stmt_Call at.name (map strip arguments)) ∙ s.stmt_rules_Call (nowhere at.name) (bared_all arguments))
      (ended (call_rules at arguments) (call_rules (nowhere at.name) (bared_all arguments)) (call_agrees at arguments))

  if_agrees : (c : PlacedExpr) (a : PlacedBlock) → BlockAgrees a → StmtAgrees (stmt.If c a None)
  unfolding maybe
  if_agrees c a body straight =
      let body_agrees = body (λ strict. (both (is_straight_block a) true (sym (s.straight_If c a) ∙ straight strict)).0) in
      carried _ _ _ _ (s.stmt_rules_If c a) (ap (λ z. stmt_rules (bare_stmt z)) (s.strip_stmt_If c a) ∙ ap stmt_rules (s.bare_stmt_If (strip c) (strip_block a)) ∙ s.stmt_rules_If (bared c) (bared_block a))
      (ended (λ b. block_rules a (condition_rules c b)) (λ b. block_rules (bared_block a) (condition_rules (bared c) b))
      (R.follow (condition_rules c) (condition_rules (bared c)) (block_rules a) (block_rules (bared_block a)) (condition_agrees c) body_agrees))

  else_agrees : (c : PlacedExpr) (a d : PlacedBlock) → BlockAgrees a → BlockAgrees d → StmtAgrees (stmt.If c a (Some d))
  unfolding maybe
  else_agrees c a d body other straight =
      let parts_straight = λ (strict : R.strict ≡ true). both (is_straight_block a) (is_straight_block d) (sym (s.straight_IfElse c a d) ∙ straight strict) in
      let body_agrees = body (λ strict. (parts_straight strict).0) in
      let other_agrees = other (λ strict. (parts_straight strict).1) in
      let first = R.follow (condition_rules c) (condition_rules (bared c)) (block_rules a) (block_rules (bared_block a)) (condition_agrees c) body_agrees in
      carried _ _ _ _ (s.stmt_rules_IfElse c a d) (ap (λ z. stmt_rules (bare_stmt z)) (s.strip_stmt_IfElse c a d) ∙ ap stmt_rules (s.bare_stmt_IfElse (strip c) (strip_block a) (strip_block d)) ∙ s.stmt_rules_IfElse (bared c) (bared_block a) (bared_block d))
      (ended (λ b. block_rules d (block_rules a (condition_rules c b))) (λ b. block_rules (bared_block d) (block_rules (bared_block a) (condition_rules (bared c) b)))
      (R.follow (λ b. block_rules a (condition_rules c b)) (λ b. block_rules (bared_block a) (condition_rules (bared c) b)) (block_rules d) (block_rules (bared_block d)) first other_agrees))

  for_agrees : (at tested : PlacedName) (limit : PlacedBound) (set counts : PlacedName) (body : PlacedBlock) → BlockAgrees body → StmtAgrees (stmt.For at tested limit set counts body)
  for_agrees at tested limit set counts body agrees straight =
      let names = λ (strict : R.strict ≡ true). both (text_eq at.name tested.name && text_eq at.name set.name && text_eq at.name counts.name) (is_straight_block body) (sym (s.straight_For at tested limit set counts body) ∙ straight strict) in
      let first_two = λ (strict : R.strict ≡ true). both (text_eq at.name tested.name && text_eq at.name set.name) (text_eq at.name counts.name) (names strict).0 in
      let tested_set = λ (strict : R.strict ≡ true). both (text_eq at.name tested.name) (text_eq at.name set.name) (first_two strict).0 in
      let none = nowhere at.name in
      let bare_limit = bare_bound (strip_bound limit) in
      let turn = R.follow (header_rules at.name tested limit set counts) (header_rules at.name none bare_limit none none) (block_rules body) (block_rules (bared_block body)) (header_agrees at.name tested limit set counts (λ strict. (tested_set strict).0) (λ strict. (tested_set strict).1) (λ strict. (first_two strict).1)) (agrees (λ strict. (names strict).1)) in
      carried _ _ _ _ (s.stmt_rules_For at tested limit set counts body) (ap (λ z. stmt_rules (bare_stmt z)) (s.strip_stmt_For at tested limit set counts body) ∙ ap stmt_rules (s.bare_stmt_For at.name (strip_bound limit) (strip_block body)) ∙ s.stmt_rules_For none none bare_limit none none (bared_block body))
      (ended (λ b. within (λ c. block_rules body (header_rules at.name tested limit set counts c)) (fresh at b)) (λ b. within (λ c. block_rules (bared_block body) (header_rules at.name none bare_limit none none c)) (fresh none b))
      (R.follow (fresh at) (fresh none) (within (λ c. block_rules body (header_rules at.name tested limit set counts c))) (within (λ c. block_rules (bared_block body) (header_rules at.name none bare_limit none none c))) (fresh_agrees at.name at.line 0)
      (R.inside (λ c. block_rules body (header_rules at.name tested limit set counts c)) (λ c. block_rules (bared_block body) (header_rules at.name none bare_limit none none c)) turn)))

  give_agrees : (line : ℕ) (a : Option PlacedExpr) → StmtAgrees (stmt.Return line a)
  give_agrees line a straight =
      carried _ _ _ _ (s.stmt_rules_Return line a) (ap (λ z. stmt_rules (bare_stmt z)) (s.strip_stmt_Return line a) ∙ ap stmt_rules (s.bare_stmt_Return (strip_optional a)) ∙ s.stmt_rules_Return 0 (bare_optional (strip_optional a)))
      (return_agrees line a)

  stmts_agree : (stmts : List PlacedStmt) → s.Each StmtAgrees stmts → (R.strict ≡ true → list_all (λ b. b) (map is_straight_stmt stmts) ≡ true) → R.rel (steps (map stmt_rules stmts)) (steps (map stmt_rules (map bare_stmt (map strip_stmt stmts))))
  stmts_agree [] each straight = nothing
  stmts_agree (w ∷ stmts) each straight =
      let parts_straight = λ (strict : R.strict ≡ true). both (is_straight_stmt w) (list_all (λ b. b) (map is_straight_stmt stmts)) (straight strict) in
      R.follow (stmt_rules w) (stmt_rules (bared_stmt w)) (steps (map stmt_rules stmts)) (steps (map stmt_rules (map bare_stmt (map strip_stmt stmts)))) (each.0 (λ strict. (parts_straight strict).0)) (stmts_agree stmts each.1 (λ strict. (parts_straight strict).1))

  block_of_agrees : (stmts : List PlacedStmt) → s.Each StmtAgrees stmts → BlockAgrees (record { stmts = stmts })
  block_of_agrees stmts each straight =
      carried _ _ _ _ (s.block_rules_of stmts) (ap (λ z. block_rules (bare_block z)) (s.strip_block_of stmts) ∙ ap block_rules (s.bare_block_of (map strip_stmt stmts)) ∙ s.block_rules_of (map bare_stmt (map strip_stmt stmts)))
      (R.inside (steps (map stmt_rules stmts)) (steps (map stmt_rules (map bare_stmt (map strip_stmt stmts)))) (stmts_agree stmts each (λ strict. sym (s.straight_of stmts) ∙ straight strict)))

  block_agrees : (w : PlacedBlock) → BlockAgrees w
  block_agrees = s.every_block StmtAgrees BlockAgrees (record {
    declares = local_agrees;
    assigns = assign_agrees;
    stores = store_agrees;
    calls = call_stmt_agrees;
    chooses = if_agrees;
    divides = else_agrees;
    repeats = for_agrees;
    gives = give_agrees;
    block = block_of_agrees;
  })

  -- objects and functions
  object_agrees : (at : PlacedName) (cells : Option PlacedCells) → R.rel (object_rules at cells) (object_rules (nowhere at.name) (bare_cells (strip_cells cells)))
  unfolding object_rules strip_cells bare_cells
  object_agrees at None = R.follow (λ b. take_room at.line 1 (fresh at b)) (λ b. take_room 0 1 (fresh (nowhere at.name) b)) (publish at.name g.Scalar) (publish at.name g.Scalar)
      (R.follow (fresh at) (fresh (nowhere at.name)) (take_room at.line 1) (take_room 0 1) (fresh_agrees at.name at.line 0) (R.space at.line 0 1)) (publish_agrees at.name g.Scalar)
  object_agrees at (Some cells) =
      let n = nat_abs cells.count in
      R.follow (λ b. take_room cells.line n (fresh at b)) (λ b. take_room 0 n (fresh (nowhere at.name) b)) (publish at.name (g.Array n)) (publish at.name (g.Array n))
      (R.follow (fresh at) (fresh (nowhere at.name)) (take_room cells.line n) (take_room 0 n) (fresh_agrees at.name at.line 0) (R.space cells.line 0 n)) (publish_agrees at.name (g.Array n))

  abbrev name_at : PlacedName → List ℕ
  name_at at = at.name

  params_agree : (params : List PlacedName) → R.rel (steps (map param_rules params)) (steps (map param_rules (map nowhere (map name_at params))))
  params_agree [] = nothing
  params_agree (at ∷ params) = R.follow (param_rules at) (param_rules (nowhere at.name)) (steps (map param_rules params)) (steps (map param_rules (map nowhere (map name_at params))))
      (R.follow (fresh at) (fresh (nowhere at.name)) (declare at.name l.Plain) (declare at.name l.Plain) (fresh_agrees at.name at.line 0) (declare_agrees at.name l.Plain)) (params_agree params)

  entered_agrees : (needs : Needs) (form : CForm) (x : List ℕ) (line n m : ℕ) → n ≡ m → R.rel (λ b. demand line rule.Interface (fits_outside needs form x n) (fresh (record { line = line; name = x }) b)) (λ b. demand 0 rule.Interface (fits_outside needs form x m) (fresh (nowhere x) b))
  entered_agrees needs form x line n m e = subst (λ (k : ℕ). R.rel (λ b. demand line rule.Interface (fits_outside needs form x n) (fresh (record { line = line; name = x }) b)) (λ b. demand 0 rule.Interface (fits_outside needs form x k) (fresh (nowhere x) b))) e
      (R.ask line 0 rule.Interface (λ b. fits_outside needs form x n) (fresh (record { line = line; name = x })) (fresh (nowhere x)) (fresh_agrees x line 0))

  brace_agrees : (line : ℕ) → R.rel (brace_rules line) (brace_rules 0)
  brace_agrees line = R.ask line 0 rule.Return (λ (b : Book). b.void || b.ended) (λ b. b) (λ b. b) nothing

  enter_agrees : (void : Bool) → R.rel (enter void) (enter void)
  enter_agrees void = R.keep (enter void) (λ b. refl)

  leave_agrees : (x : List ℕ) (n m : ℕ) → n ≡ m → R.rel (leave x n) (leave x m)
  leave_agrees x n m e = subst (λ (k : ℕ). R.rel (leave x n) (leave x k)) e (R.keep (leave x n) (λ b. refl))

  func_agrees : (needs : Needs) (f : PlacedFunc) → (R.strict ≡ true → is_straight_block f.body ≡ true) → R.rel (item_rules needs (item.Func f)) (item_rules needs (bare_item (strip_item (item.Func f))))
  unfolding item_rules func_rules bare_item strip_item
  func_agrees needs f straight =
      let x = f.name.name in
      let bare_params = map nowhere (map name_at f.params) in
      let many : length f.params ≡ length bare_params = sym (length-map (map name_at f.params) nowhere ∙ length-map f.params name_at) in
      let void = is_void f.form in
      let f1 : Step = λ b. demand f.name.line rule.Interface (fits_outside needs f.form x (length f.params)) (fresh f.name b) in
      let h1 : Step = λ b. demand 0 rule.Interface (fits_outside needs f.form x (length bare_params)) (fresh (nowhere x) b) in
      let f2 : Step = λ b. enter void (f1 b) in
      let h2 : Step = λ b. enter void (h1 b) in
      let f3 : Step = λ b. steps (map param_rules f.params) (f2 b) in
      let h3 : Step = λ b. steps (map param_rules bare_params) (h2 b) in
      let f4 : Step = λ b. block_rules f.body (f3 b) in
      let h4 : Step = λ b. block_rules (bared_block f.body) (h3 b) in
      let f5 : Step = λ b. brace_rules f.end (f4 b) in
      let h5 : Step = λ b. brace_rules 0 (h4 b) in
      R.follow f5 h5 (leave x (length f.params)) (leave x (length bare_params))
      (R.follow f4 h4 (brace_rules f.end) (brace_rules 0)
      (R.follow f3 h3 (block_rules f.body) (block_rules (bared_block f.body))
      (R.follow f2 h2 (steps (map param_rules f.params)) (steps (map param_rules bare_params))
      (R.follow f1 h1 (enter void) (enter void) (entered_agrees needs f.form x f.name.line (length f.params) (length bare_params) many) (enter_agrees void))
      (params_agree f.params)) (block_agrees f.body straight)) (brace_agrees f.end)) (leave_agrees x (length f.params) (length bare_params) many)

  item_agrees : (needs : Needs) (w : PlacedItem) → (R.strict ≡ true → is_straight w ≡ true) → R.rel (item_rules needs w) (item_rules needs (bare_item (strip_item w)))
  unfolding item_rules bare_item strip_item is_straight
  item_agrees needs (item.Object o) straight = object_agrees o.name o.cells
  item_agrees needs (item.Func f) straight = func_agrees needs f straight

  pub items_agree : (needs : Needs) (items : List PlacedItem) → (R.strict ≡ true → list_all is_straight items ≡ true) → R.rel (steps (map (item_rules needs) items)) (steps (map (item_rules needs) (map bare_item (map strip_item items))))
  items_agree needs [] straight = nothing
  items_agree needs (w ∷ items) straight =
      let parts_straight = λ (strict : R.strict ≡ true). both (is_straight w) (list_all is_straight items) (straight strict) in
      R.follow (item_rules needs w) (item_rules needs (bare_item (strip_item w))) (steps (map (item_rules needs) items)) (steps (map (item_rules needs) (map bare_item (map strip_item items)))) (item_agrees needs w (λ strict. (parts_straight strict).0)) (items_agree needs items (λ strict. (parts_straight strict).1))

-- a text without a breach has objects and functions that keep the rules
pub keeps_rules : (needs : Needs) (last : ℕ) (items : List PlacedItem) → breach_of needs last items ≡ None → KeepsRules needs (map strip_item items)
unfolding breach_of
keeps_rules needs last items none =
    let before = steps (map (item_rules needs) items) opening in
    let bare_before = steps (map (item_rules needs) (map bare_item (map strip_item items))) opening in
    let p = passed last rule.Interface (has_interface needs before) before none in
    let a = items_agree to_bare needs items (λ strict. absurd cc) opening p.1 in
    let P : Book → Type 0 = λ b. has_interface needs b ≡ true in
    let Q : Book → Type 0 = λ b. b.first ≡ None in
    ap (λ (b : Book). b.first) (met 0 rule.Interface (has_interface needs bare_before) bare_before (subst P a.1 p.0)) ∙ subst Q a.1 p.1

-- a text of objects and functions that keep the rules has no breach, where each loop's header repeats its name
pub breaks_none : (needs : Needs) (last : ℕ) (items : List PlacedItem) → list_all is_straight items ≡ true → KeepsRules needs (map strip_item items) → breach_of needs last items ≡ None
unfolding breach_of
breaks_none needs last items straight none =
    let before = steps (map (item_rules needs) items) opening in
    let bare_before = steps (map (item_rules needs) (map bare_item (map strip_item items))) opening in
    let p = passed 0 rule.Interface (has_interface needs bare_before) bare_before none in
    let a = items_agree from_bare needs items (λ strict. straight) opening p.1 in
    let P : Book → Type 0 = λ b. has_interface needs b ≡ true in
    let Q : Book → Type 0 = λ b. b.first ≡ None in
    ap (λ (b : Book). b.first) (met last rule.Interface (has_interface needs before) before (subst P a.1 p.0)) ∙ subst Q a.1 p.1
