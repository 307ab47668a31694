-- Expressions that the grammar gives can be written within its limits: the parentheses that they are written with stand in the text that gives them.
use Rattle.std.proofs.Common.{◌≡◌, ℕ, zero, suc, ℤ, pos, ◌+◌, ◌≤◌, ◌==◌, Bool, true, false, cond, nat_lt, nat_le, List, [], ◌∷◌, ◌++◌, Option, Some, None, All, refl, sym, ap, subst, ◌∙◌, arith}
use Rattle.std.proofs.Math.Dec.{le→leb}
use denote.Enum.Bare.{sameb}
use Rattle.std.proofs.lemmas.Bool.Decides.{nat_tests}
use Rattle.std.proofs.lemmas.List.Elements.{All-append, All-cons, All-nil}
use Rattle.std.proofs.Math.Nat.{max-le}
use Rattle.nf_core.specs.declared.operators.BinOp.{BinOp}
use Rattle.nf_cast.specs.declared.expressions.CExpr.{CExpr, fold-roll-CExpr}
use Rattle.nf_cast.specs.declared.expressions.CExpr.TheOpen as open_expr
use Rattle.nf_cast.specs.declared.expressions.CExpr.TheVariants as expr
use Rattle.nf_cast.specs.declared.placed.PlacedName.{PlacedName}
use Rattle.nf_cast.specs.declared.placed.PlacedExpr.{PlacedExpr}
use Rattle.nf_cast.specs.declared.placed.PlacedExpr.TheVariants as e
use Rattle.nf_cast.specs.Names.{is_c_identifier}
use Rattle.nf_cast.specs.Contents.{Leaf, name, literal, leaves_of, leaves_layer}
use Rattle.nf_cast.specs.Program.{IsLeaf}
use Rattle.nf_cast.specs.Placed.{strip}
use Rattle.nf_cast.specs.Written.{Written, written, c_level, enclosed, as_operand, as_left, as_right, joined, negated, inverted, element, plain, literal_text}
use Rattle.nf_cast.proofs.Public.PlacedExprLemmas.{strip_Lit, strip_Name, strip_Cell, strip_Neg, strip_Not, strip_Bin, strip_Parens}
use Rattle.nf_cast.proofs.Public.WrittenLemmas.{written_Lit, written_Name, written_Cell, written_Neg, written_Not, written_Bin}
use Rattle.nf_grammar.specs.Parts as part
use Rattle.nf_cparse.specs.contracts.symbol.Sym.{the_type}
use Rattle.nf_cparse.specs.declared.symbol.Sym.TheVariants as sym'
use Rattle.nf_cparse.specs.Lexing.{Word}
use Rattle.nf_cparse.specs.inner.Tokens.{IsToken}
use Rattle.nf_cparse.specs.Grammar as grammar
use Rattle.nf_cparse.specs.Grammar.{Production, placed, literal_value, at_level, op_of, sign_of, Nest, nest}
use Rattle.nf_cparse.proofs.TokenFormLemmas.{token_form}
use Rattle.nf_cparse.proofs.ValueLemmas.{literal_digits}
use Rattle.nf_cparse.proofs.FormLemmas.{Gives, AreGiven, no_more, one_more, IsOfKind, gives_word, gives_behind, gives_then, gives_done, gives_either, gives_nowhere, gives_repeated, gives_counted, gives_alone, IsAnyShort}

-- ---- leaves
pub leaves_Lit : (n : ℤ) → leaves_of (expr.Lit n) ≡ literal n ∷ []
unfolding leaves_of
leaves_Lit n = ap leaves_of (sym (expr.rolls-Lit n)) ∙ fold-roll-CExpr (List Leaf) leaves_layer (open_expr.Lit n)

pub leaves_Name : (x : List ℕ) → leaves_of (expr.Name x) ≡ name x ∷ []
unfolding leaves_of
leaves_Name x = ap leaves_of (sym (expr.rolls-Name x)) ∙ fold-roll-CExpr (List Leaf) leaves_layer (open_expr.Name x)

pub leaves_Cell : (x : List ℕ) (i : CExpr) → leaves_of (expr.Cell x i) ≡ name x ∷ leaves_of i
unfolding leaves_of
leaves_Cell x i = ap leaves_of (sym (expr.rolls-Cell x i)) ∙ fold-roll-CExpr (List Leaf) leaves_layer (open_expr.Cell x i)

pub leaves_Neg : (a : CExpr) → leaves_of (expr.Neg a) ≡ leaves_of a
unfolding leaves_of
leaves_Neg a = ap leaves_of (sym (expr.rolls-Neg a)) ∙ fold-roll-CExpr (List Leaf) leaves_layer (open_expr.Neg a)

pub leaves_Not : (a : CExpr) → leaves_of (expr.Not a) ≡ leaves_of a
unfolding leaves_of
leaves_Not a = ap leaves_of (sym (expr.rolls-Not a)) ∙ fold-roll-CExpr (List Leaf) leaves_layer (open_expr.Not a)

pub leaves_Bin : (o : BinOp) (a b : CExpr) → leaves_of (expr.Bin o a b) ≡ leaves_of a ++ leaves_of b
unfolding leaves_of
leaves_Bin o a b = ap leaves_of (sym (expr.rolls-Bin o a b)) ∙ fold-roll-CExpr (List Leaf) leaves_layer (open_expr.Bin o a b)

-- an identifier's token is a name
pub name_leaf : (text : List ℕ) → IsToken sym'.Ident text → IsLeaf (name text)
unfolding IsLeaf
name_leaf text t = subst (λ xs. is_c_identifier xs ≡ true) (sym t.is) ((token_form t.bytes sym'.Ident t.count t.piece).name refl)

-- a literal's token is a literal's number
pub literal_leaf : (text : List ℕ) → IsToken sym'.Lit text → IsLeaf (literal (pos (literal_value text)))
unfolding IsLeaf
literal_leaf text t =
    let d = literal_digits text _ _ _ t refl refl refl in
    record { low = omega (arith, le→leb); high = omega (arith, le→leb, d.value, d.small) }

-- ---- parentheses
-- how many parentheses and brackets are open in it at once at most, where it stands in parentheses if its level is below this one
abbrev pub nesting_at : ℕ → Written → ℕ
nesting_at level w = (enclosed (nat_lt w.level level) w).nesting

pub nesting_within : (b : Bool) (w : Written) → w.nesting ≤ (enclosed b w).nesting
unfolding enclosed
nesting_within true w = omega arith
nesting_within false w = omega arith

nesting_around : (b : Bool) (w : Written) → (enclosed b w).nesting ≤ 1 + w.nesting
unfolding enclosed
nesting_around true w = omega arith
nesting_around false w = omega arith

operators_within : (b : Bool) (w : Written) → (enclosed b w).operators ≡ w.operators
unfolding enclosed
operators_within true w = refl
operators_within false w = refl

-- what is open at a level is open at a lower one at most
nesting_lower : (w : Written) (level : ℕ) → nesting_at level w ≤ nesting_at (level + 1) w
unfolding enclosed
nesting_lower w level = by (nat_lt w.level level) refl (nat_lt w.level (level + 1)) refl
  where
    by : (b : Bool) → nat_lt w.level level ≡ b → (c : Bool) → nat_lt w.level (level + 1) ≡ c → (enclosed b w).nesting ≤ (enclosed c w).nesting
    by true f true g = omega arith
    by true f false g = absurd (grind (arith, nat_tests, f, g))
    by false f true g = omega arith
    by false f false g = omega arith

-- where the level is no lower, no parentheses stand around it
nesting_bare : (w : Written) (level d : ℕ) → level ≤ w.level → w.nesting ≤ d → nesting_at level w ≤ d
unfolding enclosed
nesting_bare w level d h n = by (nat_lt w.level level) refl
  where
    by : (b : Bool) → nat_lt w.level level ≡ b → (enclosed b w).nesting ≤ d
    by true f = absurd (grind (arith, nat_tests, f, h))
    by false f = n

no_lower : (m n : ℕ) → nat_le m n ≡ nat_lt m (n + 1)
no_lower m n = by (nat_le m n) refl (nat_lt m (n + 1)) refl
  where
    by : (b : Bool) → nat_le m n ≡ b → (c : Bool) → nat_lt m (n + 1) ≡ c → b ≡ c
    by true f true g = refl
    by true f false g = absurd (grind (arith, nat_tests, f, g))
    by false f true g = absurd (grind (arith, nat_tests, f, g))
    by false f false g = refl

nesting_joined : (o : BinOp) (a b : Written) (d : ℕ) → nesting_at (c_level o) a ≤ d → nesting_at (c_level o + 1) b ≤ d
    → nesting_at (c_level o) (joined o (as_left o a) (as_right o b)) ≤ d
nesting_joined o a b d f g =
    let right : (as_right o b).nesting ≤ d = subst (λ c. (enclosed c b).nesting ≤ d) (sym (no_lower b.level (c_level o))) g in
    nesting_bare (joined o (as_left o a) (as_right o b)) (c_level o) d (omega arith) (max-le f right)

-- ---- expressions
-- it can be written: its names and literals have their form, so many parentheses and brackets are open in it at once at most, those around it counted if its level is below this one, and it has so many operators at most
pub record IsFit (level depth : ℕ) (a : PlacedExpr) (n : ℕ) : Type 0 where
  pub leaves : All IsLeaf (leaves_of (strip a))
  pub few_open : nesting_at level (written (strip a)) ≤ depth
  pub few_operators : (written (strip a)).operators ≤ n

lower : (level d : ℕ) (a : PlacedExpr) (n : ℕ) → IsFit (level + 1) d a n → IsFit level d a n
lower level d a n f = record {
  leaves = f.leaves;
  few_open = omega (arith, nesting_lower (written (strip a)) level, f.few_open);
  few_operators = f.few_operators;
}

-- what is written so
fit_as : (level d : ℕ) (a : PlacedExpr) (c : CExpr) (w : Written) (n : ℕ) → strip a ≡ c → written c ≡ w
    → All IsLeaf (leaves_of c) → nesting_at level w ≤ d → w.operators ≤ n → IsFit level d a n
fit_as level d a c w n s e leaves open' operators =
    let is : w ≡ written (strip a) = sym (ap written s ∙ e) in
    record {
      leaves = subst (λ z. All IsLeaf (leaves_of z)) (sym s) leaves;
      few_open = subst (λ z. nesting_at level z ≤ d) is open';
      few_operators = subst (λ z. z.operators ≤ n) is operators;
    }

one_leaf : (x : Leaf) → IsLeaf x → All IsLeaf (x ∷ [])
one_leaf x f = All-cons IsLeaf x [] f (All-nil IsLeaf)

literal_fit : (d line : ℕ) (n : ℤ) → IsLeaf (literal n) → IsFit 8 d (e.Lit line n) 0
literal_fit d line n f =
    fit_as 8 d (e.Lit line n) (expr.Lit n) (plain (literal_text n)) 0 (strip_Lit line n) (written_Lit n)
    (subst (All IsLeaf) (sym (leaves_Lit n)) (one_leaf (literal n) f)) (nesting_bare (plain (literal_text n)) 8 d (omega arith) (omega arith)) (omega arith)

name_fit : (d : ℕ) (at : PlacedName) → IsLeaf (name at.name) → IsFit 8 d (e.Name at) 0
name_fit d at f =
    fit_as 8 d (e.Name at) (expr.Name at.name) (plain at.name) 0 (strip_Name at) (written_Name at.name)
    (subst (All IsLeaf) (sym (leaves_Name at.name)) (one_leaf (name at.name) f)) (nesting_bare (plain at.name) 8 d (omega arith) (omega arith)) (omega arith)

cell_fit : (d n : ℕ) (at : PlacedName) (i : PlacedExpr) → IsLeaf (name at.name) → IsFit 1 d i n → IsFit 8 (suc d) (e.Cell at i) (1 + n)
cell_fit d n at i f g =
    let w = written (strip i) in
    let open' : w.nesting ≤ d = omega (arith, nesting_within (nat_lt w.level 1) w, g.few_open) in
    fit_as 8 (suc d) (e.Cell at i) (expr.Cell at.name (strip i)) (element at.name w) (1 + n) (strip_Cell at i) (written_Cell at.name (strip i))
    (subst (All IsLeaf) (sym (leaves_Cell at.name (strip i))) (All-cons IsLeaf (name at.name) (leaves_of (strip i)) f g.leaves))
    (nesting_bare (element at.name w) 8 (suc d) (omega arith) (omega (arith, open'))) (omega (arith, g.few_operators))

parens_fit : (d n line : ℕ) (a : PlacedExpr) → IsFit 1 d a n → IsFit 8 (suc d) (e.Parens line a) n
parens_fit d n line a g =
    let w = written (strip a) in
    let within : w.nesting ≤ d = omega (arith, nesting_within (nat_lt w.level 1) w, g.few_open) in
    fit_as 8 (suc d) (e.Parens line a) (strip a) w n (strip_Parens line a) refl g.leaves
    (omega (arith, nesting_around (nat_lt w.level 8) w, within)) g.few_operators

minus_fit : (d n line : ℕ) (a : PlacedExpr) → IsFit 7 d a n → IsFit 7 d (e.Neg line a) (1 + n)
minus_fit d n line a g =
    let w = written (strip a) in
    fit_as 7 d (e.Neg line a) (expr.Neg (strip a)) (negated (as_operand w)) (1 + n) (strip_Neg line a) (written_Neg (strip a))
    (subst (All IsLeaf) (sym (leaves_Neg (strip a))) g.leaves) (nesting_bare (negated (as_operand w)) 7 d (omega arith) g.few_open)
    (omega (arith, operators_within (nat_lt w.level 7) w, g.few_operators))

bang_fit : (d n line : ℕ) (a : PlacedExpr) → IsFit 7 d a n → IsFit 7 d (e.Not line a) (1 + n)
bang_fit d n line a g =
    let w = written (strip a) in
    fit_as 7 d (e.Not line a) (expr.Not (strip a)) (inverted (as_operand w)) (1 + n) (strip_Not line a) (written_Not (strip a))
    (subst (All IsLeaf) (sym (leaves_Not (strip a))) g.leaves) (nesting_bare (inverted (as_operand w)) 7 d (omega arith) g.few_open)
    (omega (arith, operators_within (nat_lt w.level 7) w, g.few_operators))

binary_fit : (d n m : ℕ) (o : BinOp) (a b : PlacedExpr) → IsFit (c_level o) d a n → IsFit (c_level o + 1) d b m → IsFit (c_level o) d (e.Bin o a b) (n + (1 + m))
binary_fit d n m o a b f g =
    let v = written (strip a) in
    let w = written (strip b) in
    fit_as (c_level o) d (e.Bin o a b) (expr.Bin o (strip a) (strip b)) (joined o (as_left o v) (as_right o w)) (n + (1 + m)) (strip_Bin o a b) (written_Bin o (strip a) (strip b))
    (subst (All IsLeaf) (sym (leaves_Bin o (strip a) (strip b))) (All-append IsLeaf (leaves_of (strip a)) (leaves_of (strip b)) f.leaves g.leaves))
    (nesting_joined o v w d f.few_open g.few_open)
    (omega (arith, operators_within (nat_lt v.level (c_level o)) v, operators_within (nat_le w.level (c_level o)) w, f.few_operators, g.few_operators))

-- ---- productions
more_room : (level d : ℕ) (a : PlacedExpr) (n m : ℕ) → n ≤ m → IsFit level d a n → IsFit level d a m
more_room level d a n m h f = record { leaves = f.leaves; few_open = f.few_open; few_operators = omega (arith, h, f.few_operators) }

-- a name, without a counted token
pub record IsName (at : PlacedName) (n : ℕ) : Type 0 where
  pub leaf : IsLeaf (name at.name)
  pub none : n ≡ 0

pub named_given : Gives IsName grammar.named
named_given = gives_then (IsOfKind sym'.Ident) IsName (gives_word sym'.Ident) (λ w n k.
    gives_done (λ y m. IsName y (n + m)) (placed w) (record { leaf = name_leaf w.text k.text; none = omega (arith, k.none) }))

-- what stands in brackets behind a name
abbrev IsIndexFit : ℕ → PlacedExpr → ℕ → Type 0
IsIndexFit d i n = (at : PlacedName) → IsLeaf (name at.name) → IsFit 8 d (e.Cell at i) n

-- what stands in parentheses and in brackets can be written, where so many are open at most
record NestFits (d : ℕ) (given : Nest) : Type 0 where
  pub parens : Gives (IsFit 8 d) given.parens
  pub index : Gives (IsIndexFit d) given.index

module _ (d : ℕ) (given : Nest) (fits : NestFits d given) where
  primary_given : Gives (IsFit 8 d) (grammar.primary given)
  primary_given =
      gives_either (IsFit 8 d)
      (gives_then (IsOfKind sym'.Lit) (IsFit 8 d) (gives_word sym'.Lit) (λ w n k.
      gives_done (λ y m. IsFit 8 d y (n + m)) (e.Lit w.line (pos (literal_value w.text)))
      (more_room 8 d (e.Lit w.line (pos (literal_value w.text))) 0 (n + 0) (omega arith) (literal_fit d w.line (pos (literal_value w.text)) (literal_leaf w.text k.text)))))
      (gives_either (IsFit 8 d)
      (gives_then IsName (IsFit 8 d) named_given (λ at n k.
      gives_done (λ y m. IsFit 8 d y (n + m)) (e.Name at) (more_room 8 d (e.Name at) 0 (n + 0) (omega arith) (name_fit d at k.leaf))))
      (gives_either (IsFit 8 d)
      (gives_then IsName (IsFit 8 d) named_given (λ at n k.
      gives_then (IsIndexFit d) (λ y m. IsFit 8 d y (n + m)) fits.index (λ i m f.
      gives_done (λ y l. IsFit 8 d y (n + (m + l))) (e.Cell at i) (more_room 8 d (e.Cell at i) m (n + (m + 0)) (omega arith) (f at k.leaf)))))
      fits.parens))

  -- a sign is counted, and what stands behind it can be written with it
  record IsSign (sign : PlacedExpr → PlacedExpr) (n : ℕ) : Type 0 where
    pub one : n ≡ 1
    pub fit : (a : PlacedExpr) (m : ℕ) → IsFit 7 d a m → IsFit 7 d (sign a) (1 + m)

  some_is : {A : Type 0} (x y : A) → Some x ≡ Some y → x ≡ y
  some_is x y h = cc

  sign_given : Gives IsSign (part.counted sign_of)
  unfolding sign_of
  sign_given = gives_counted sign_of IsSign (λ w f t h. by w f (sameb the_type w.sym sym'.Minus) (sameb the_type w.sym sym'.Bang) h)
    where
      minus : Word → PlacedExpr → PlacedExpr
      minus w a = e.Neg w.line a

      bang : Word → PlacedExpr → PlacedExpr
      bang w a = e.Not w.line a

      by : (w : Word) (f : PlacedExpr → PlacedExpr) (b c : Bool) → cond b (Some (minus w)) (cond c (Some (bang w)) None) ≡ Some f → IsSign f 1
      by w f true c h = subst (λ g. IsSign g 1) (some_is (minus w) f h) (record { one = refl; fit = λ a m g. minus_fit d m w.line a g })
      by w f false true h = subst (λ g. IsSign g 1) (some_is (bang w) f h) (record { one = refl; fit = λ a m g. bang_fit d m w.line a g })
      by w f false false h = absurd (cc)

  signed_fit : (signs : List (PlacedExpr → PlacedExpr)) (n : ℕ) → AreGiven IsSign signs n → (a : PlacedExpr) (m : ℕ) → IsFit 7 d a m → IsFit 7 d (grammar.signed signs a) (n + m)
  unfolding grammar.signed
  signed_fit [] n no_more a m f = more_room 7 d a m (0 + m) (omega arith) f
  signed_fit (sign ∷ signs) n (one_more {n = k} {m = l} s rest) a m f =
      more_room 7 d (sign (grammar.signed signs a)) (1 + (l + m)) (k + l + m) (omega (arith, s.one)) (s.fit (grammar.signed signs a) (l + m) (signed_fit signs l rest a m f))

  unary_given : Gives (IsFit 7 d) (grammar.unary given)
  unary_given = gives_then (AreGiven IsSign) (IsFit 7 d) (gives_repeated IsSign sign_given) (λ signs n s.
      gives_then (IsFit 8 d) (λ y m. IsFit 7 d y (n + m)) primary_given (λ a m f.
      gives_done (λ y l. IsFit 7 d y (n + (m + l))) (grammar.signed signs a)
      (more_room 7 d (grammar.signed signs a) (n + m) (n + (m + 0)) (omega arith) (signed_fit signs n s a m (lower 7 d a m f)))))

  module _ (level : ℕ) where
    -- an operator of the level
    record IsOperator (o : BinOp) (n : ℕ) : Type 0 where
      pub level_is : c_level o ≡ level
      pub one : n ≡ 1

    -- an operator and its right operand
    record IsNext (next : BinOp × PlacedExpr) (n : ℕ) : Type 0 where
      pub level_is : c_level next.0 ≡ level
      pub count : ℕ
      pub counted : n ≡ 1 + count
      pub right : IsFit (level + 1) d next.1 count

    operator_given : Gives IsOperator (grammar.operator level)
    operator_given = gives_counted (λ (w : Word). at_level level (op_of w.sym)) IsOperator (λ w o t h. by (op_of w.sym) o h)
      where
        same_level : (b : Bool) (k o : BinOp) → cond b (Some k) None ≡ Some o → (b ≡ true) × (k ≡ o)
        same_level true k o h = (refl, some_is k o h)
        same_level false k o h = absurd (cc)

        by : (m : Option BinOp) (o : BinOp) → at_level level m ≡ Some o → IsOperator o 1
        by None o h = absurd (cc)
        by (Some k) o h =
            let is = same_level (c_level k == level) k o h in
            let same : c_level k ≡ level = grind (arith, nat_tests, is.0) in
            subst (λ j. IsOperator j 1) is.1 (record { level_is = same; one = refl })

    joined_fit : (rest : List (BinOp × PlacedExpr)) (m : ℕ) → AreGiven IsNext rest m → (left : PlacedExpr) (n : ℕ) → IsFit level d left n → IsFit level d (grammar.joined left rest) (n + m)
    unfolding grammar.joined
    joined_fit [] m no_more left n f = more_room level d left n (n + 0) (omega arith) f
    joined_fit (next ∷ rest) m (one_more {n = k} {m = l} s more') left n f =
        let both = subst (λ j. IsFit j d (e.Bin next.0 left next.1) (n + (1 + s.count))) s.level_is
        (binary_fit d n s.count next.0 left next.1 (subst (λ j. IsFit j d left n) (sym s.level_is) f) (subst (λ j. IsFit (j + 1) d next.1 s.count) (sym s.level_is) s.right)) in
        more_room level d (grammar.joined (e.Bin next.0 left next.1) rest) (n + (1 + s.count) + l) (n + (k + l)) (omega (arith, s.counted))
        (joined_fit rest l more' (e.Bin next.0 left next.1) (n + (1 + s.count)) both)

    chain_given : (operand : Production PlacedExpr) → Gives (IsFit (level + 1) d) operand → Gives (IsFit level d) (grammar.chain level operand)
    chain_given operand f = gives_then (IsFit (level + 1) d) (IsFit level d) f (λ left n g.
        gives_then (AreGiven IsNext) (λ y m. IsFit level d y (n + m))
        (gives_repeated IsNext (gives_then IsOperator IsNext operator_given (λ o k op.
        gives_then (IsFit (level + 1) d) (λ y m. IsNext y (k + m)) f (λ right m r.
        gives_done (λ y l. IsNext y (k + (m + l))) (o, right) (record { level_is = op.level_is; count = m; counted = omega (arith, op.one); right = r })))))
        (λ rest m r.
        gives_done (λ y l. IsFit level d y (n + (m + l))) (grammar.joined left rest)
        (more_room level d (grammar.joined left rest) (n + m) (n + (m + 0)) (omega arith) (joined_fit rest m r left n (lower level d left n g)))))

  expression_given : Gives (IsFit 1 d) (grammar.expression given)
  expression_given = chain_given 1 _ (chain_given 2 _ (chain_given 3 _ (chain_given 4 _ (chain_given 5 _ (chain_given 6 _ unary_given)))))

nest_given : (d : ℕ) → NestFits d (nest d)
unfolding nest
nest_given zero = record { parens = gives_nowhere (IsFit 8 zero); index = gives_nowhere (IsIndexFit zero) }
nest_given (suc d) = record {
  parens = gives_then (IsOfKind sym'.Open) (IsFit 8 (suc d)) (gives_word sym'.Open) (λ w n k.
      gives_then (IsFit 1 d) (λ y m. IsFit 8 (suc d) y (n + m)) (expression_given d (nest d) (nest_given d)) (λ a m f.
      gives_behind sym'.Close (λ y l. IsFit 8 (suc d) y (n + (m + l))) (gives_done (λ y l. IsFit 8 (suc d) y (n + (m + l))) (e.Parens w.line a)
      (more_room 8 (suc d) (e.Parens w.line a) m (n + (m + 0)) (omega arith) (parens_fit d m w.line a f)))));
  index = gives_then (λ (w : Word) n. n ≡ 1) (IsIndexFit (suc d)) (gives_counted (grammar.of_kind sym'.OpenBracket) (λ (w : Word) n. n ≡ 1) (λ w x t h. refl)) (λ w n k.
      gives_then (IsFit 1 d) (λ y m. IsIndexFit (suc d) y (n + m)) (expression_given d (nest d) (nest_given d)) (λ i m f.
      gives_behind sym'.CloseBracket (λ y l. IsIndexFit (suc d) y (n + (m + l))) (gives_done (λ y l. IsIndexFit (suc d) y (n + (m + l))) i (λ at leaf.
      more_room 8 (suc d) (e.Cell at i) (1 + m) (n + (m + 0)) (omega (arith, k)) (cell_fit d m at i leaf f)))));
}

-- an expression that stands in no other one
pub whole_given : (d : ℕ) → Gives (IsAnyShort (IsFit 1 d)) (grammar.whole d)
whole_given d = gives_alone (IsFit 1 d) (expression_given d (nest d) (nest_given d))
