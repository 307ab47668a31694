-- Texts that the grammar gives within the limits can be written within them: all names and literals have their form, and no function passes a limit.
use Rattle.std.proofs.Common.{◌≡◌, ℕ, zero, suc, ℤ, pos, ◌≤◌, Bool, List, [], ◌∷◌, ◌++◌, map, fold, flat_map, Option, Some, None, is_some, option_map, option_to_list, All, IfSome, codes, sym, ap, subst, ◌∙◌, arith}
use Rattle.std.specs.Prelude.{unwrap_or, nat_lt}
use Rattle.std.proofs.lemmas.List.Elements.{All-append, All-cons, All-nil, All-head, All-tail, All-map}
use Rattle.std.proofs.Math.Nat.{max-le}
use Rattle.nf_cast.specs.declared.limits.TheConstants.{MOST_OPEN, MOST_OPERATORS}
use Rattle.nf_cast.specs.declared.expressions.CExpr.{CExpr}
use Rattle.nf_cast.specs.declared.expressions.CRight.{CRight}
use Rattle.nf_cast.specs.declared.expressions.CBound.{CBound}
use Rattle.nf_cast.specs.declared.statements.CStmt.{CStmt, fold-roll-CStmt}
use Rattle.nf_cast.specs.declared.statements.CStmt.TheOpen as open_stmt
use Rattle.nf_cast.specs.declared.statements.CStmt.TheVariants as s
use Rattle.nf_cast.specs.declared.statements.CBlock.{CBlock, fold-roll-CBlock, rolls-CBlock'}
use Rattle.nf_cast.specs.declared.objects.CForm.{CForm}
use Rattle.nf_cast.specs.declared.objects.CForm.TheVariants as form
use Rattle.nf_cast.specs.declared.placed.PlacedName.{PlacedName}
use Rattle.nf_cast.specs.declared.placed.PlacedExpr.{PlacedExpr}
use Rattle.nf_cast.specs.declared.placed.PlacedRight.{PlacedRight}
use Rattle.nf_cast.specs.declared.placed.PlacedRight.TheVariants as right
use Rattle.nf_cast.specs.declared.placed.PlacedBound.{PlacedBound}
use Rattle.nf_cast.specs.declared.placed.PlacedBound.TheVariants as bound
use Rattle.nf_cast.specs.declared.placed.PlacedStmt.{PlacedStmt}
use Rattle.nf_cast.specs.declared.placed.PlacedStmt.TheVariants as stmt
use Rattle.nf_cast.specs.declared.placed.PlacedBlock.{PlacedBlock}
use Rattle.nf_cast.specs.declared.placed.PlacedItem.{PlacedItem}
use Rattle.nf_cast.specs.declared.placed.PlacedItem.TheVariants as item
use Rattle.nf_cast.specs.Contents.{Leaf, name, literal, leaves_of, Contents, flat, with_part, of_parts, right_contents, bound_leaf, contents_layer, block_contents, contents_of, contents_of_block}
use Rattle.nf_cast.specs.Program.{IsLeaf, IsSpelled, IsShort, IsWithinLimits, KeepsLimits, all_leaves, leaves_of_item, contents_of_item}
use Rattle.nf_cast.specs.Written.{written}
use Rattle.nf_cast.specs.Placed.{strip, strip_right, strip_bound, strip_optional, strip_stmt, strip_block, strip_item, strip_cells, names_of}
use Rattle.nf_cast.proofs.Public.PlacedStmtLemmas.{strip_stmt_Local, strip_stmt_Assign, strip_stmt_Store, strip_stmt_Call, strip_stmt_For, strip_stmt_Return, strip_stmt_If, strip_stmt_IfElse, strip_block_of}
use Rattle.nf_grammar.specs.State.{state}
use Rattle.nf_grammar.specs.Parts as part
use Rattle.nf_grammar.specs.Places.{IsText}
use Rattle.nf_cparse.specs.declared.symbol.Sym.{Sym}
use Rattle.nf_cparse.specs.declared.symbol.Sym.TheVariants as sym'
use Rattle.nf_cparse.specs.Lexing.{Word}
use Rattle.nf_cparse.specs.inner.Tokens.{IsToken}
use Rattle.nf_cparse.specs.Grammar as grammar
use Rattle.nf_cparse.specs.Grammar.{Production, literal_value, Closed, c_text_grammar}
use Rattle.nf_cparse.specs.Reading.{limits}
use Rattle.nf_cparse.proofs.FormLemmas.{AreTokens, Gives, AreGiven, no_more, one_more, IsOfKind, gives_word, gives_behind, gives_token, gives_then, gives_done, gives_either, gives_nowhere, gives_repeated, gives_weaker, IsAnyShort}
use Rattle.nf_cparse.proofs.ExpressionFormLemmas.{IsFit, IsName, named_given, whole_given, literal_leaf, nesting_within}

-- ---- what holds whatever was counted
abbrev Holds : {A : Type 0} → (A → Type 0) → Production A → Type 0
Holds P p = Gives (λ x n. P x) p

module _ {A : Type 0} where
  then_holds : {B : Type 0} {p : Production A} {k : A → Production B} (P : A → Type 0) (Q : B → Type 0) → Holds P p → ((x : A) → P x → Holds Q (k x)) → Holds Q (part.and_then p k)
  then_holds P Q f g = gives_then (λ x n. P x) (λ y n. Q y) f (λ x n h. gives_weaker (λ y m. Q y) (λ y m. Q y) (λ y m q. q) (g x h))

  done_holds : (Q : A → Type 0) (x : A) → Q x → Holds Q (part.done x)
  done_holds Q x q = gives_done (λ y n. Q y) x q

  behind_holds : {p : Production A} (k : Sym) (Q : A → Type 0) → Holds Q p → Holds Q (grammar.behind k p)
  behind_holds k Q f = gives_behind k (λ y n. Q y) f

  either_holds : {p q : Production A} (Q : A → Type 0) → Holds Q p → Holds Q q → Holds Q (part.either p q)
  either_holds Q f g = gives_either (λ y n. Q y) f g

  enclosed_holds : {p : Production A} (opening closing : Sym) (Q : A → Type 0) → Holds Q p → Holds Q (grammar.enclosed opening p closing)
  enclosed_holds opening closing Q f =
      gives_behind opening (λ y n. Q y) (gives_then (λ y n. Q y) (λ y n. Q y) f (λ x n q. gives_behind closing (λ y m. Q y) (gives_done (λ y m. Q y) x q)))

  optional_holds : {p : Production A} (P : A → Type 0) → Holds P p → Holds (λ o. IfSome o P) (part.optional p)
  optional_holds P f =
      gives_either (λ o n. IfSome o P) (gives_then (λ x n. P x) (λ o n. IfSome o P) f (λ x n q. gives_done (λ o m. IfSome o P) (Some x) q)) (gives_done (λ o n. IfSome o P) None tt)

  each_given : (P : A → Type 0) (xs : List A) (n : ℕ) → AreGiven (λ x n. P x) xs n → All P xs
  each_given P [] n no_more = All-nil P
  each_given P (x ∷ xs) n (one_more {m = m} p rest) = All-cons P x xs p (each_given P xs m rest)

  repeated_holds : {p : Production A} (P : A → Type 0) → Holds P p → Holds (All P) (part.repeated p)
  repeated_holds P f = gives_weaker (AreGiven (λ x n. P x)) (λ xs n. All P xs) (each_given P) (gives_repeated (λ x n. P x) f)

  separated_holds : {p : Production A} (separator : Sym) (P : A → Type 0) → Holds P p → Holds (All P) (part.separated (grammar.of_kind separator) p)
  separated_holds separator P f =
      gives_then (λ x n. P x) (λ xs n. All P xs) f (λ x n p.
      gives_then (λ xs m. All P xs) (λ xs m. All P xs) (repeated_holds P (gives_behind separator (λ y n. P y) f)) (λ xs m ps.
      gives_done (λ ys l. All P ys) (x ∷ xs) (All-cons P x xs p ps)))

name_holds : Holds (λ at. IsLeaf (name at.name)) grammar.named
name_holds = gives_weaker IsName (λ (at : PlacedName) n. IsLeaf (name at.name)) (λ at n k. k.leaf) named_given

word_holds : (k : Sym) → Holds (λ w. IsToken k w.text) (grammar.word k)
word_holds k = gives_weaker (IsOfKind k) (λ (w : Word) n. IsToken k w.text) (λ w n h. h.text) (gives_word k)

-- ---- contents
-- an expression can be written within the limits
record IsFitExpr (a : CExpr) : Type 0 where
  pub leaves : All IsLeaf (leaves_of a)
  pub short : IsShort a

-- the contents of a statement or a block can, where so many blocks are open at most
record AreFit (blocks : ℕ) (c : Contents) : Type 0 where
  pub leaves : All IsLeaf c.leaves
  pub expressions : All IsFitExpr c.expressions
  pub few_blocks : c.blocks ≤ blocks

flat_fit : (d : ℕ) (leaves : List Leaf) (expressions : List CExpr) → All IsLeaf leaves → All IsFitExpr expressions → AreFit d (flat leaves expressions)
flat_fit d leaves expressions f g = record { leaves = f; expressions = g; few_blocks = omega arith }

part_fit : (d : ℕ) (a b : Contents) → AreFit d a → AreFit d b → AreFit d (with_part a b)
part_fit d a b f g = record {
  leaves = All-append IsLeaf a.leaves b.leaves f.leaves g.leaves;
  expressions = All-append IsFitExpr a.expressions b.expressions f.expressions g.expressions;
  few_blocks = max-le f.few_blocks g.few_blocks;
}

parts_fit : (d : ℕ) (parts : List Contents) (a : Contents) → AreFit d a → All (AreFit d) parts → AreFit d (fold with_part a parts)
parts_fit d [] a f g = f
parts_fit d (b ∷ parts) a f g = parts_fit d parts (with_part a b) (part_fit d a b f (All-head (AreFit d) b parts g)) (All-tail (AreFit d) b parts g)

nothing_fit : (d : ℕ) → AreFit d (flat [] [])
nothing_fit d = flat_fit d [] [] (All-nil IsLeaf) (All-nil IsFitExpr)

all_fit : (d : ℕ) (parts : List Contents) → All (AreFit d) parts → AreFit d (of_parts parts)
all_fit d parts f = parts_fit d parts (flat [] []) (nothing_fit d) f

one_leaf : (x : Leaf) → IsLeaf x → All IsLeaf (x ∷ [])
one_leaf x f = All-cons IsLeaf x [] f (All-nil IsLeaf)

one_expr : (a : CExpr) → IsFitExpr a → All IsFitExpr (a ∷ [])
one_expr a f = All-cons IsFitExpr a [] f (All-nil IsFitExpr)

-- ---- contents, form by form
contents_Local : (constant : Bool) (x : List ℕ) (r : CRight) → contents_of (s.Local constant x r) ≡ right_contents (name x ∷ []) r
unfolding contents_of contents_of_block
contents_Local constant x r = ap contents_of (sym (s.rolls-Local constant x r)) ∙ fold-roll-CStmt Contents Contents contents_layer block_contents (open_stmt.Local constant x r)

contents_Assign : (x : List ℕ) (r : CRight) → contents_of (s.Assign x r) ≡ right_contents (name x ∷ []) r
unfolding contents_of contents_of_block
contents_Assign x r = ap contents_of (sym (s.rolls-Assign x r)) ∙ fold-roll-CStmt Contents Contents contents_layer block_contents (open_stmt.Assign x r)

contents_Store : (x : List ℕ) (i a : CExpr) → contents_of (s.Store x i a) ≡ flat (name x ∷ []) (i ∷ a ∷ [])
unfolding contents_of contents_of_block
contents_Store x i a = ap contents_of (sym (s.rolls-Store x i a)) ∙ fold-roll-CStmt Contents Contents contents_layer block_contents (open_stmt.Store x i a)

contents_Call : (f : List ℕ) (arguments : List CExpr) → contents_of (s.Call f arguments) ≡ flat (name f ∷ []) arguments
unfolding contents_of contents_of_block
contents_Call f arguments = ap contents_of (sym (s.rolls-Call f arguments)) ∙ fold-roll-CStmt Contents Contents contents_layer block_contents (open_stmt.Call f arguments)

contents_If : (c : CExpr) (a : CBlock) → contents_of (s.If c a None) ≡ of_parts (flat [] (c ∷ []) ∷ contents_of_block a ∷ [])
unfolding contents_of contents_of_block
contents_If c a = ap contents_of (sym (s.rolls-If c a None)) ∙ fold-roll-CStmt Contents Contents contents_layer block_contents (open_stmt.If c a None)

contents_IfElse : (c : CExpr) (a b : CBlock) → contents_of (s.If c a (Some b)) ≡ of_parts (flat [] (c ∷ []) ∷ contents_of_block a ∷ contents_of_block b ∷ [])
unfolding contents_of contents_of_block
contents_IfElse c a b = ap contents_of (sym (s.rolls-If c a (Some b))) ∙ fold-roll-CStmt Contents Contents contents_layer block_contents (open_stmt.If c a (Some b))

contents_For : (x : List ℕ) (b : CBound) (body : CBlock) → contents_of (s.For x b body) ≡ with_part (flat (name x ∷ bound_leaf b ∷ []) []) (contents_of_block body)
unfolding contents_of contents_of_block
contents_For x b body = ap contents_of (sym (s.rolls-For x b body)) ∙ fold-roll-CStmt Contents Contents contents_layer block_contents (open_stmt.For x b body)

contents_Return : (a : Option CExpr) → contents_of (s.Return a) ≡ flat [] (option_to_list a)
unfolding contents_of contents_of_block
contents_Return a = ap contents_of (sym (s.rolls-Return a)) ∙ fold-roll-CStmt Contents Contents contents_layer block_contents (open_stmt.Return a)

contents_block : (stmts : List CStmt) → contents_of_block (record { stmts = stmts }) ≡ block_contents (record { stmts = map contents_of stmts })
unfolding contents_of contents_of_block
contents_block stmts = ap contents_of_block (sym (rolls-CBlock' (record { stmts = stmts }))) ∙ fold-roll-CBlock Contents Contents contents_layer block_contents (record { stmts = stmts })

-- ---- productions
-- an expression as it stands
abbrev IsFitAt : PlacedExpr → Type 0
IsFitAt a = IsFitExpr (strip a)

-- statements and blocks as they stand
abbrev IsFitStmt : ℕ → PlacedStmt → Type 0
IsFitStmt blocks a = AreFit blocks (contents_of (strip_stmt a))

abbrev IsFitBlock : ℕ → Closed → Type 0
IsFitBlock blocks closed = AreFit blocks (contents_of_block (strip_block closed.0))

-- a right side can be written behind any names
abbrev IsFitRight : PlacedRight → Type 0
IsFitRight r = (d : ℕ) (leaves : List Leaf) → All IsLeaf leaves → AreFit d (right_contents leaves (strip_right r))

map_fit : (xs : List PlacedExpr) → All IsFitAt xs → All IsFitExpr (map strip xs)
map_fit xs f = All-map IsFitExpr strip xs f

call_fit : (at : PlacedName) (xs : List PlacedExpr) → IsLeaf (name at.name) → All IsFitAt xs → IsFitRight (right.Call at xs)
unfolding strip_right
call_fit at xs f g d leaves h = flat_fit d (leaves ++ name at.name ∷ []) (map strip xs) (All-append IsLeaf leaves (name at.name ∷ []) h (one_leaf (name at.name) f)) (map_fit xs g)

value_fit : (a : PlacedExpr) → IsFitAt a → IsFitRight (right.Value a)
unfolding strip_right
value_fit a g d leaves h = flat_fit d leaves (strip a ∷ []) h (one_expr (strip a) g)

abbrev pub IsFitBound : PlacedBound → Type 0
IsFitBound b = IsLeaf (bound_leaf (strip_bound b))

literal_bound : (n : ℤ) → IsLeaf (literal n) → IsFitBound (bound.Lit n)
unfolding strip_bound
literal_bound n f = f

name_bound : (at : PlacedName) → IsLeaf (name at.name) → IsFitBound (bound.Name at)
unfolding strip_bound
name_bound at f = f

pub bound_holds : Holds IsFitBound grammar.bound_of
bound_holds =
    either_holds IsFitBound
    (then_holds (λ (w : Word). IsToken sym'.Lit w.text) IsFitBound (word_holds sym'.Lit) (λ w t.
    done_holds IsFitBound (bound.Lit (pos (literal_value w.text))) (literal_bound (pos (literal_value w.text)) (literal_leaf w.text t))))
    (then_holds (λ (at : PlacedName). IsLeaf (name at.name)) IsFitBound name_holds (λ at f. done_holds IsFitBound (bound.Name at) (name_bound at f)))

-- a name that is declared
declared_holds : Holds (λ at. IsLeaf (name at.name)) grammar.declared
declared_holds = behind_holds sym'.Int64 (λ (at : PlacedName). IsLeaf (name at.name)) name_holds

params_holds : Holds (All (λ (at : PlacedName). IsLeaf (name at.name))) grammar.params
params_holds =
    either_holds (All (λ (at : PlacedName). IsLeaf (name at.name)))
    (behind_holds sym'.Void (All (λ (at : PlacedName). IsLeaf (name at.name))) (done_holds (All (λ (at : PlacedName). IsLeaf (name at.name))) [] (All-nil (λ (at : PlacedName). IsLeaf (name at.name)))))
    (separated_holds sym'.Comma (λ (at : PlacedName). IsLeaf (name at.name)) declared_holds)

module _ (d : ℕ) (low : d ≤ MOST_OPEN) where
  short_fit : (a : PlacedExpr) (n : ℕ) → IsAnyShort (IsFit 1 d) a n → IsFitAt a
  short_fit a n f = record {
    leaves = f.holds.leaves;
    short = record {
      few_open = omega (arith, low, f.holds.few_open, nesting_within (nat_lt (written (strip a)).level 1) (written (strip a)));
      few_operators = omega (arith, f.few, f.holds.few_operators);
    };
  }

  whole_holds : Holds IsFitAt (grammar.whole d)
  whole_holds = gives_weaker (IsAnyShort (IsFit 1 d)) (λ a n. IsFitAt a) short_fit (whole_given d)

  arguments_holds : Holds (All IsFitAt) (grammar.arguments d)
  arguments_holds = then_holds (λ found. IfSome found (All IsFitAt)) (All IsFitAt)
      (enclosed_holds sym'.Open sym'.Close (λ found. IfSome found (All IsFitAt)) (optional_holds (All IsFitAt) (separated_holds sym'.Comma IsFitAt whole_holds)))
      (λ found f. done_holds (All IsFitAt) (unwrap_or found []) (by found f))
    where
      by : (found : Option (List PlacedExpr)) → IfSome found (All IsFitAt) → All IsFitAt (unwrap_or found [])
      by None f = All-nil IsFitAt
      by (Some xs) f = f

  right_holds : Holds IsFitRight (grammar.right_of d)
  right_holds = either_holds IsFitRight
      (then_holds (λ (at : PlacedName). IsLeaf (name at.name)) IsFitRight name_holds (λ at f.
      then_holds (All IsFitAt) IsFitRight arguments_holds (λ xs g. done_holds IsFitRight (right.Call at xs) (call_fit at xs f g))))
      (then_holds IsFitAt IsFitRight whole_holds (λ a g. done_holds IsFitRight (right.Value a) (value_fit a g)))

  module _ (blocks : ℕ) where
    local_holds : Holds (IsFitStmt blocks) (grammar.local d)
    local_holds = then_holds (λ constant. IfSome constant (λ (w : Word). IsToken sym'.Const w.text)) (IsFitStmt blocks) (optional_holds (λ (w : Word). IsToken sym'.Const w.text) (word_holds sym'.Const)) (λ constant t.
        then_holds (λ (at : PlacedName). IsLeaf (name at.name)) (IsFitStmt blocks) declared_holds (λ at f. behind_holds sym'.Equal (IsFitStmt blocks)
        (then_holds IsFitRight (IsFitStmt blocks) right_holds (λ r g. behind_holds sym'.Semicolon (IsFitStmt blocks)
        (done_holds (IsFitStmt blocks) (stmt.Local (is_some constant) at r)
        (subst (AreFit blocks) (sym (ap contents_of (strip_stmt_Local (is_some constant) at r) ∙ contents_Local (is_some constant) at.name (strip_right r)))
        (g blocks (name at.name ∷ []) (one_leaf (name at.name) f))))))))

    assign_holds : Holds (IsFitStmt blocks) (grammar.assign d)
    assign_holds = then_holds (λ (at : PlacedName). IsLeaf (name at.name)) (IsFitStmt blocks) name_holds (λ at f. behind_holds sym'.Equal (IsFitStmt blocks)
        (then_holds IsFitRight (IsFitStmt blocks) right_holds (λ r g. behind_holds sym'.Semicolon (IsFitStmt blocks)
        (done_holds (IsFitStmt blocks) (stmt.Assign at r)
        (subst (AreFit blocks) (sym (ap contents_of (strip_stmt_Assign at r) ∙ contents_Assign at.name (strip_right r)))
        (g blocks (name at.name ∷ []) (one_leaf (name at.name) f)))))))

    store_holds : Holds (IsFitStmt blocks) (grammar.store d)
    store_holds = then_holds (λ (at : PlacedName). IsLeaf (name at.name)) (IsFitStmt blocks) name_holds (λ at f.
        then_holds IsFitAt (IsFitStmt blocks) (enclosed_holds sym'.OpenBracket sym'.CloseBracket IsFitAt whole_holds) (λ i g. behind_holds sym'.Equal (IsFitStmt blocks)
        (then_holds IsFitAt (IsFitStmt blocks) whole_holds (λ a h. behind_holds sym'.Semicolon (IsFitStmt blocks)
        (done_holds (IsFitStmt blocks) (stmt.Store at i a)
        (subst (AreFit blocks) (sym (ap contents_of (strip_stmt_Store at i a) ∙ contents_Store at.name (strip i) (strip a)))
        (flat_fit blocks (name at.name ∷ []) (strip i ∷ strip a ∷ []) (one_leaf (name at.name) f) (All-cons IsFitExpr (strip i) (strip a ∷ []) g (one_expr (strip a) h)))))))))

    call_holds : Holds (IsFitStmt blocks) (grammar.call d)
    call_holds = then_holds (λ (at : PlacedName). IsLeaf (name at.name)) (IsFitStmt blocks) name_holds (λ at f.
        then_holds (All IsFitAt) (IsFitStmt blocks) arguments_holds (λ xs g. behind_holds sym'.Semicolon (IsFitStmt blocks)
        (done_holds (IsFitStmt blocks) (stmt.Call at xs)
        (subst (AreFit blocks) (sym (ap contents_of (strip_stmt_Call at xs) ∙ contents_Call at.name (map strip xs)))
        (flat_fit blocks (name at.name ∷ []) (map strip xs) (one_leaf (name at.name) f) (map_fit xs g))))))

    return_fit : (line : ℕ) (a : Option PlacedExpr) → IfSome a IsFitAt → IsFitStmt blocks (stmt.Return line a)
    unfolding strip_optional
    return_fit line None f = subst (AreFit blocks) (sym (ap contents_of (strip_stmt_Return line None) ∙ contents_Return None)) (nothing_fit blocks)
    return_fit line (Some a) f = subst (AreFit blocks) (sym (ap contents_of (strip_stmt_Return line (Some a)) ∙ contents_Return (Some (strip a))))
        (flat_fit blocks [] (strip a ∷ []) (All-nil IsLeaf) (one_expr (strip a) f))

    return_holds : Holds (IsFitStmt blocks) (grammar.return d)
    return_holds = then_holds (λ (w : Word). IsToken sym'.Return w.text) (IsFitStmt blocks) (word_holds sym'.Return) (λ w t.
        then_holds (λ a. IfSome a IsFitAt) (IsFitStmt blocks) (optional_holds IsFitAt whole_holds) (λ a f. behind_holds sym'.Semicolon (IsFitStmt blocks)
        (done_holds (IsFitStmt blocks) (stmt.Return w.line a) (return_fit w.line a f))))

    two_parts : (a b : Contents) → AreFit blocks a → AreFit blocks b → All (AreFit blocks) (a ∷ b ∷ [])
    two_parts a b f g = All-cons (AreFit blocks) a (b ∷ []) f (All-cons (AreFit blocks) b [] g (All-nil (AreFit blocks)))

    test_fit : (c : PlacedExpr) → IsFitAt c → AreFit blocks (flat [] (strip c ∷ []))
    test_fit c f = flat_fit blocks [] (strip c ∷ []) (All-nil IsLeaf) (one_expr (strip c) f)

    module _ {p : Production Closed} (given : Holds (IsFitBlock blocks) p) where
      if_fit : (c : PlacedExpr) (a : PlacedBlock) (b : Option Closed) → IsFitAt c → AreFit blocks (contents_of_block (strip_block a)) → IfSome b (IsFitBlock blocks)
          → IsFitStmt blocks (stmt.If c a (option_map (λ (x : Closed). x.0) b))
      if_fit c a None f g h =
          subst (AreFit blocks) (sym (ap contents_of (strip_stmt_If c a) ∙ contents_If (strip c) (strip_block a)))
          (all_fit blocks (flat [] (strip c ∷ []) ∷ contents_of_block (strip_block a) ∷ [])
          (two_parts (flat [] (strip c ∷ [])) (contents_of_block (strip_block a)) (test_fit c f) g))
      if_fit c a (Some b) f g h =
          subst (AreFit blocks) (sym (ap contents_of (strip_stmt_IfElse c a b.0) ∙ contents_IfElse (strip c) (strip_block a) (strip_block b.0)))
          (all_fit blocks (flat [] (strip c ∷ []) ∷ contents_of_block (strip_block a) ∷ contents_of_block (strip_block b.0) ∷ [])
          (All-cons (AreFit blocks) (flat [] (strip c ∷ [])) (contents_of_block (strip_block a) ∷ contents_of_block (strip_block b.0) ∷ []) (test_fit c f)
          (two_parts (contents_of_block (strip_block a)) (contents_of_block (strip_block b.0)) g h)))

      conditional_holds : Holds (IsFitStmt blocks) (grammar.conditional d p)
      conditional_holds = behind_holds sym'.If (IsFitStmt blocks)
          (then_holds IsFitAt (IsFitStmt blocks) (enclosed_holds sym'.Open sym'.Close IsFitAt whole_holds) (λ c f.
          then_holds (IsFitBlock blocks) (IsFitStmt blocks) given (λ a g.
          then_holds (λ b. IfSome b (IsFitBlock blocks)) (IsFitStmt blocks) (optional_holds (IsFitBlock blocks) (behind_holds sym'.Else (IsFitBlock blocks) given)) (λ b h.
          done_holds (IsFitStmt blocks) (stmt.If c a.0 (option_map (λ (x : Closed). x.0) b)) (if_fit c a.0 b f g h)))))

      for_fit : (at tested : PlacedName) (b : PlacedBound) (set counts : PlacedName) (body : PlacedBlock) → IsLeaf (name at.name) → IsFitBound b
          → AreFit blocks (contents_of_block (strip_block body)) → IsFitStmt blocks (stmt.For at tested b set counts body)
      for_fit at tested b set counts body f g h =
          subst (AreFit blocks) (sym (ap contents_of (strip_stmt_For at tested b set counts body) ∙ contents_For at.name (strip_bound b) (strip_block body)))
          (part_fit blocks (flat (name at.name ∷ bound_leaf (strip_bound b) ∷ []) []) (contents_of_block (strip_block body))
          (flat_fit blocks (name at.name ∷ bound_leaf (strip_bound b) ∷ []) [] (All-cons IsLeaf (name at.name) (bound_leaf (strip_bound b) ∷ []) f (one_leaf (bound_leaf (strip_bound b)) g)) (All-nil IsFitExpr)) h)

      value_taken : (n : ℕ) → Gives (λ (w : Word) m. ℕ) (part.token (grammar.of_value n))
      value_taken n = gives_token (grammar.of_value n) (λ (w : Word) m. ℕ) (λ w x t h. 0)

      after_value : {A : Type 0} {q : Production A} (n : ℕ) (Q : A → Type 0) → Holds Q q → Holds Q (part.after (grammar.of_value n) q)
      after_value n Q f = then_holds (λ (w : Word). ℕ) Q (value_taken n) (λ w x. f)

      loop_holds : Holds (IsFitStmt blocks) (grammar.loop d p)
      loop_holds = behind_holds sym'.For (IsFitStmt blocks) (behind_holds sym'.Open (IsFitStmt blocks)
          (then_holds (λ (at : PlacedName). IsLeaf (name at.name)) (IsFitStmt blocks) declared_holds (λ at f. behind_holds sym'.Equal (IsFitStmt blocks) (after_value 0 (IsFitStmt blocks) (behind_holds sym'.Semicolon (IsFitStmt blocks)
          (then_holds (λ (at : PlacedName). IsLeaf (name at.name)) (IsFitStmt blocks) name_holds (λ tested x. behind_holds sym'.Less (IsFitStmt blocks)
          (then_holds IsFitBound (IsFitStmt blocks) bound_holds (λ b g. behind_holds sym'.Semicolon (IsFitStmt blocks)
          (then_holds (λ (at : PlacedName). IsLeaf (name at.name)) (IsFitStmt blocks) name_holds (λ set y. behind_holds sym'.Equal (IsFitStmt blocks)
          (then_holds (λ (at : PlacedName). IsLeaf (name at.name)) (IsFitStmt blocks) name_holds (λ counts z. behind_holds sym'.Plus (IsFitStmt blocks) (after_value 1 (IsFitStmt blocks) (behind_holds sym'.Close (IsFitStmt blocks)
          (then_holds (IsFitBlock blocks) (IsFitStmt blocks) given (λ body h.
          done_holds (IsFitStmt blocks) (stmt.For at tested b set counts body.0) (for_fit at tested b set counts body.0 f g h))))))))))))))))))

      statement_holds : Holds (IsFitStmt blocks) (grammar.statement d p)
      statement_holds = either_holds (IsFitStmt blocks) local_holds (either_holds (IsFitStmt blocks) assign_holds (either_holds (IsFitStmt blocks) store_holds (either_holds (IsFitStmt blocks) call_holds
          (either_holds (IsFitStmt blocks) conditional_holds (either_holds (IsFitStmt blocks) loop_holds return_holds)))))

  block_fit : (blocks : ℕ) (stmts : List PlacedStmt) → All (IsFitStmt blocks) stmts → AreFit (suc blocks) (contents_of_block (strip_block (record { stmts = stmts })))
  block_fit blocks stmts f =
      let all = all_fit blocks (map contents_of (map strip_stmt stmts)) (All-map (AreFit blocks) contents_of (map strip_stmt stmts) (All-map (λ c. AreFit blocks (contents_of c)) strip_stmt stmts f)) in
      subst (AreFit (suc blocks)) (sym (ap contents_of_block (strip_block_of stmts) ∙ contents_block (map strip_stmt stmts)))
      (record { leaves = all.leaves; expressions = all.expressions; few_blocks = omega (arith, all.few_blocks) })

  block_holds : (blocks : ℕ) → Holds (IsFitBlock blocks) (grammar.block d blocks)
  unfolding grammar.block
  block_holds zero = gives_nowhere (λ x n. IsFitBlock zero x)
  block_holds (suc blocks) = behind_holds sym'.OpenBrace (IsFitBlock (suc blocks))
      (then_holds (All (IsFitStmt blocks)) (IsFitBlock (suc blocks)) (repeated_holds (IsFitStmt blocks) (statement_holds blocks (block_holds blocks))) (λ stmts f.
      then_holds (λ (w : Word). IsToken sym'.CloseBrace w.text) (IsFitBlock (suc blocks)) (word_holds sym'.CloseBrace) (λ w t.
      done_holds (IsFitBlock (suc blocks)) (record { stmts = stmts }, w.line) (block_fit blocks stmts f))))

  -- ---- items
  record IsFitItem (x : PlacedItem) : Type 0 where
    pub leaves : All IsLeaf (leaves_of_item (strip_item x))
    pub limits : All IsWithinLimits (contents_of_item (strip_item x))

  cells_leaves : (cells : Option Word) → IfSome cells (λ (w : Word). IsToken sym'.Lit w.text)
      → All IsLeaf (map literal (option_to_list (strip_cells (option_map (λ (w : Word). record { line = w.line; count = pos (literal_value w.text) }) cells))))
  unfolding strip_cells
  cells_leaves None t = All-nil IsLeaf
  cells_leaves (Some w) t = one_leaf (literal (pos (literal_value w.text))) (literal_leaf w.text t)

  object_fit : (at : PlacedName) (cells : Option Word) → IsLeaf (name at.name) → IfSome cells (λ (w : Word). IsToken sym'.Lit w.text)
      → IsFitItem (item.Object (record { name = at; cells = option_map (λ (w : Word). record { line = w.line; count = pos (literal_value w.text) }) cells }))
  unfolding strip_item leaves_of_item contents_of_item
  object_fit at cells f t = record { leaves = All-cons IsLeaf (name at.name) _ f (cells_leaves cells t); limits = All-nil IsWithinLimits }

  object_holds : Holds IsFitItem (grammar.object d)
  object_holds = behind_holds sym'.Static IsFitItem
      (then_holds (λ (at : PlacedName). IsLeaf (name at.name)) IsFitItem declared_holds (λ at f.
      then_holds (λ cells. IfSome cells (λ (w : Word). IsToken sym'.Lit w.text)) IsFitItem
      (optional_holds (λ (w : Word). IsToken sym'.Lit w.text) (enclosed_holds sym'.OpenBracket sym'.CloseBracket (λ (w : Word). IsToken sym'.Lit w.text) (word_holds sym'.Lit))) (λ cells t.
      behind_holds sym'.Semicolon IsFitItem
      (done_holds IsFitItem (item.Object (record { name = at; cells = option_map (λ (w : Word). record { line = w.line; count = pos (literal_value w.text) }) cells }))
      (object_fit at cells f t)))))

  -- any form
  form_holds : Holds (λ (f : CForm). ℕ) grammar.form_of
  form_holds =
      either_holds (λ (f : CForm). ℕ) (behind_holds sym'.Static (λ (f : CForm). ℕ) (behind_holds sym'.Void (λ (f : CForm). ℕ) (done_holds (λ (f : CForm). ℕ) form.StaticVoid 0)))
      (either_holds (λ (f : CForm). ℕ) (behind_holds sym'.Static (λ (f : CForm). ℕ) (behind_holds sym'.Int64 (λ (f : CForm). ℕ) (done_holds (λ (f : CForm). ℕ) form.StaticInt 0)))
      (behind_holds sym'.Int64 (λ (f : CForm). ℕ) (done_holds (λ (f : CForm). ℕ) form.Int 0)))

  expression_leaves : (xs : List CExpr) → All IsFitExpr xs → All IsLeaf (flat_map leaves_of xs)
  expression_leaves [] f = All-nil IsLeaf
  expression_leaves (x ∷ xs) f = All-append IsLeaf (leaves_of x) (flat_map leaves_of xs) (All-head IsFitExpr x xs f).leaves (expression_leaves xs (All-tail IsFitExpr x xs f))

  func_fit : (f : CForm) (at : PlacedName) (xs : List PlacedName) (body : PlacedBlock) (end' : ℕ) → IsLeaf (name at.name) → All (λ (x : PlacedName). IsLeaf (name x.name)) xs
      → AreFit d (contents_of_block (strip_block body)) → IsFitItem (item.Func (record { form = f; name = at; params = xs; body = body; end = end' }))
  unfolding strip_item leaves_of_item contents_of_item
  func_fit f at xs body end' g h i =
      let c = contents_of_block (strip_block body) in
      let params = All-map IsLeaf name (names_of xs) (All-map (λ x. IsLeaf (name x)) (λ (x : PlacedName). x.name) xs h) in
      let inside = All-append IsLeaf c.leaves (flat_map leaves_of c.expressions) i.leaves (expression_leaves c.expressions i.expressions) in
      let limits : IsWithinLimits c = record {
        few_blocks = omega (arith, low, i.few_blocks);
        expressions = λ k x l. (i.expressions k x l).short;
      } in
      record {
        leaves = All-cons IsLeaf (name at.name) (map name (names_of xs) ++ all_leaves c) g (All-append IsLeaf (map name (names_of xs)) (all_leaves c) params inside);
        limits = All-cons IsWithinLimits c [] limits (All-nil IsWithinLimits);
      }

  func_holds : Holds IsFitItem (grammar.func d)
  func_holds = then_holds (λ (f : CForm). ℕ) IsFitItem form_holds (λ f n.
      then_holds (λ (at : PlacedName). IsLeaf (name at.name)) IsFitItem name_holds (λ at g.
      then_holds (All (λ (x : PlacedName). IsLeaf (name x.name))) IsFitItem (enclosed_holds sym'.Open sym'.Close (All (λ (x : PlacedName). IsLeaf (name x.name))) params_holds) (λ xs h.
      then_holds (IsFitBlock d) IsFitItem (block_holds d) (λ body i.
      done_holds IsFitItem (item.Func (record { form = f; name = at; params = xs; body = body.0; end = body.1 })) (func_fit f at xs body.0 body.1 g h i)))))

  items_holds : Holds (All IsFitItem) (grammar.items d)
  items_holds = repeated_holds IsFitItem (either_holds IsFitItem object_holds func_holds)

  after_written : {A : Type 0} {q : Production A} (text : List ℕ) (Q : A → Type 0) → Holds Q q → Holds Q (grammar.written text q)
  after_written text Q f = then_holds (λ (w : Word). ℕ) Q (gives_token (grammar.is_written text) (λ (w : Word) m. ℕ) (λ w x t h. 0)) (λ w x. f)

  text_holds : Holds (All IsFitItem) (c_text_grammar d)
  text_holds =
      let Q = All IsFitItem in
      behind_holds sym'.Void Q (after_written (codes "nf_emit") Q (behind_holds sym'.Open Q
      (behind_holds sym'.Int64 Q (after_written (codes "sign") Q (behind_holds sym'.Comma Q
      (behind_holds sym'.Int64 Q (after_written (codes "name") Q (behind_holds sym'.Comma Q
      (behind_holds sym'.Int64 Q (after_written (codes "begin") Q (behind_holds sym'.Comma Q
      (behind_holds sym'.Int64 Q (after_written (codes "end") Q (behind_holds sym'.Close Q (behind_holds sym'.Semicolon Q items_holds)))))))))))))))

  spelled : (xs : List PlacedItem) → All IsFitItem xs → IsSpelled (map strip_item xs)
  spelled [] f = All-nil IsLeaf
  spelled (x ∷ xs) f =
      All-append IsLeaf (leaves_of_item (strip_item x)) (flat_map leaves_of_item (map strip_item xs)) (All-head IsFitItem x xs f).leaves (spelled xs (All-tail IsFitItem x xs f))

  keeps_limits : (xs : List PlacedItem) → All IsFitItem xs → KeepsLimits (map strip_item xs)
  keeps_limits [] f = All-nil IsWithinLimits
  keeps_limits (x ∷ xs) f =
      All-append IsWithinLimits (contents_of_item (strip_item x)) (flat_map contents_of_item (map strip_item xs)) (All-head IsFitItem x xs f).limits (keeps_limits xs (All-tail IsFitItem x xs f))

-- the objects and functions of a text within the limits have the forms and keep the limits of a program's
pub record CanBeWritten (items : List PlacedItem) : Type 0 where
  pub spelled : IsSpelled (map strip_item items)
  pub limits : KeepsLimits (map strip_item items)

pub text_can_be_written : (words : List Word) (items : List PlacedItem) → AreTokens words → IsText c_text_grammar limits words items → CanBeWritten items
text_can_be_written words items tokens text =
    let low : MOST_OPEN ≤ MOST_OPEN = omega arith in
    let room : MOST_OPERATORS ≤ MOST_OPERATORS = omega arith in
    let given = (text_holds MOST_OPEN low).each (state MOST_OPERATORS words) (state text.left []) items (record { tokens = tokens; room = room }) text.word in
    record {
      spelled = spelled MOST_OPEN low items given.holds;
      limits = keeps_limits MOST_OPEN low items given.holds;
    }
