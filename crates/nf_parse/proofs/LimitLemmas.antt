-- The canonical text of what was read opens no more parentheses than what was read, and its operators are those that were used up.
use Rattle.std.proofs.Common.{◌≡◌, ◌≤◌, ◌<◌, ◌+◌, ℕ, ℤ, zero, suc, Bool, true, false, List, refl, sym, ap, ◌∙◌, subst, arith, Some, Ok, ⊎_elim}
use Rattle.std.specs.Prelude as prelude
use Rattle.std.proofs.lemmas.Bool.{or_cases, and_parts}
use borrow.Author.Tests.{ltb-true, leb-true, eqb-true}
use Rattle.nf_core.specs.Trees as trees
use Rattle.nf_core.specs.Trees.{Tree, tree, level, op_level, operators, opened, open_parens, left_in_parens, right_in_parens, operand_in_parens, IsWithinLimits}
use Rattle.nf_core.specs.declared.operators.BinOp.{BinOp}
use Rattle.nf_core.specs.declared.operators.BinOp.TheVariants as binary
use Rattle.nf_core.specs.declared.trees.Expr.{Expr}
use Rattle.nf_core.specs.declared.trees.Expr.TheVariants as node
use Rattle.nf_parse.specs.declared.level.Level.{Level}
use Rattle.nf_parse.specs.declared.level.Level.TheVariants as levels
use Rattle.nf_parse.specs.declared.symbol.Sym.{Sym}
use Rattle.nf_parse.specs.declared.symbol.Sym.TheVariants as kind
use Rattle.nf_parse.specs.State.{State}
use Rattle.nf_parse.specs.Grammar as grammar
use Rattle.nf_parse.specs.Grammar.{Production, op_at}
use Rattle.nf_parse.specs.inner.Reading.{expression, paren}
use Rattle.nf_parse.proofs.ExpressionReaderLemmas.{expression_reader, paren_reader}
use Rattle.nf_parse.proofs.Public.WordLemmas.{Operator}
use Rattle.nf_parse.proofs.ExpressionWordLemmas as words
use Rattle.nf_parse.proofs.ExpressionWordLemmas.{IsChain, one, more, chain_cases, IsSingle, alone, pair, single_cases, IsUnary, unary_cases, IsPrimary, primary_cases}

-- the tree of an expression, by its parts
pub record IsByParts : Type 0 where
  pub truth : (b : Bool) → tree (node.Bool b) ≡ trees.Bool b
  pub number : (n : ℤ) → tree (node.Int n) ≡ trees.Int n
  pub text : (text : List ℕ) → tree (node.Text text) ≡ trees.Text text
  pub start : (label : List ℕ) → tree (node.Start label) ≡ trees.Start label
  pub stop : (label : List ℕ) → tree (node.Stop label) ≡ trees.Stop label
  pub key : (label key : List ℕ) → tree (node.Key label key) ≡ trees.Key label key
  pub minus : (x : Expr) → tree (node.Neg x) ≡ trees.Neg (tree x)
  pub inverted : (x : Expr) → tree (node.Not x) ≡ trees.Not (tree x)
  pub binary : (op : BinOp) (x y : Expr) → tree (node.Bin op x y) ≡ trees.Bin op (tree x) (tree y)

-- a tree that can stand where a level is wanted, at most so many parentheses deep
pub record IsFitting (depth wanted count : ℕ) (t : Tree) : Type 0 where
  pub used : operators t ≡ count
  pub low : open_parens t ≤ depth
  pub strict : level t < wanted → open_parens t < depth

opened_within : (b : Bool) (n depth : ℕ) → n ≤ depth → (b ≡ true → n < depth) → opened b n ≤ depth
opened_within true n depth l h = let m : n < depth = h refl in omega arith
opened_within false n depth l h = l

-- binary operators
module _ (depth : ℕ) (o : BinOp) (l r : Tree) where
  bin_fits : (m n : ℕ) → IsFitting depth (op_level o) m l → IsFitting depth (suc (op_level o)) n r
      → (left_in_parens o l ≡ true → open_parens l < depth)
      → IsFitting depth (op_level o) (suc (m + n)) (trees.Bin o l r)
  unfolding operators open_parens level
  bin_fits m n a b h = record {
    used = omega (arith, a.used, b.used);
    low =
        let x = opened_within (left_in_parens o l) (open_parens l) depth a.low h in
        let y = opened_within (right_in_parens o r) (open_parens r) depth b.low (λ e. b.strict (right_low e)) in
        omega arith;
    strict = λ e. absurd (omega (arith, e));
  }
    where
      right_low : right_in_parens o r ≡ true → level r < suc (op_level o)
      right_low e = omega (arith, leb-true (level r) (op_level o) e)

-- the operators of a level
abbrev pub number_of : Level → ℕ
number_of levels.Or = 1
number_of levels.And = 2
number_of levels.Compare = 3
number_of levels.Sum = 4
number_of levels.Product = 5

level_number : (l : Level) (k : Sym) (o : BinOp) → op_at l k ≡ Some o → op_level o ≡ number_of l
unfolding op_at op_level
level_number levels.Or kind.Or o h = let e : binary.Or ≡ o = cc in subst (λ z. op_level z ≡ 1) e refl
level_number levels.And kind.And o h = let e : binary.And ≡ o = cc in subst (λ z. op_level z ≡ 2) e refl
level_number levels.Compare kind.Equal o h = let e : binary.Eq ≡ o = cc in subst (λ z. op_level z ≡ 3) e refl
level_number levels.Compare kind.NotEqual o h = let e : binary.Ne ≡ o = cc in subst (λ z. op_level z ≡ 3) e refl
level_number levels.Compare kind.Less o h = let e : binary.Lt ≡ o = cc in subst (λ z. op_level z ≡ 3) e refl
level_number levels.Compare kind.LessEqual o h = let e : binary.Le ≡ o = cc in subst (λ z. op_level z ≡ 3) e refl
level_number levels.Compare kind.Greater o h = let e : binary.Gt ≡ o = cc in subst (λ z. op_level z ≡ 3) e refl
level_number levels.Compare kind.GreaterEqual o h = let e : binary.Ge ≡ o = cc in subst (λ z. op_level z ≡ 3) e refl
level_number levels.Sum kind.Plus o h = let e : binary.Add ≡ o = cc in subst (λ z. op_level z ≡ 4) e refl
level_number levels.Sum kind.Minus o h = let e : binary.Sub ≡ o = cc in subst (λ z. op_level z ≡ 4) e refl
level_number levels.Product kind.Star o h = let e : binary.Mul ≡ o = cc in subst (λ z. op_level z ≡ 5) e refl
level_number levels.Product kind.Slash o h = let e : binary.Div ≡ o = cc in subst (λ z. op_level z ≡ 5) e refl
level_number levels.Product kind.Percent o h = let e : binary.Rem ≡ o = cc in subst (λ z. op_level z ≡ 5) e refl
level_number l k o h = absurd (cc)

module _ (parts : IsByParts) (depth : ℕ) where
  -- what a production gives fits
  pub record Gives (wanted : ℕ) (R : Production Expr) : Type 0 where
    pub fits : (s t : State) (x : Expr) → R.word s x t
        → (used : ℕ) × (s.room ≡ used + t.room) × IsFitting depth wanted used (tree x)

  looser : (m n : ℕ) (R : Production Expr) → m ≤ n → Gives n R → Gives m R
  looser m n R l g = record { fits = λ s t x r. let f = g.fits s t x r in (f.0, f.1, record { used = f.2.used; low = f.2.low; strict = λ e. f.2.strict (omega (arith, e, l)) }) }

  module _ (l : Level) (R : Production Expr) (g : Gives (suc (number_of l)) R) where
    -- two operands that fit
    both : (s t w v : State) (x y : Expr) (o : BinOp) → Operator l w o v
        → (m : ℕ) → s.room ≡ m + w.room → IsFitting depth (number_of l) m (tree x)
        → (left_in_parens o (tree x) ≡ true → open_parens (tree x) < depth) → R.word v y t
        → (used : ℕ) × (s.room ≡ used + t.room) × IsFitting depth (number_of l) used (tree (node.Bin o x y))
    both s t w v x y o q m e a p r =
        let b = g.fits v t y r in
        let n = level_number l q.token.0 o q.gives in
        let c = bin_fits depth o (tree x) (tree y) m b.0 (subst (λ i. IsFitting depth i m (tree x)) (sym n) a) (subst (λ i. IsFitting depth (suc i) b.0 (tree y)) (sym n) b.2) p in
        (suc (m + b.0), omega (arith, e, q.room, b.1), subst (λ i. IsFitting depth i (suc (m + b.0)) (tree (node.Bin o x y))) n (subst (λ z. IsFitting depth (op_level o) (suc (m + b.0)) z) (sym (parts.binary o x y)) c))

    chain_left : (o : BinOp) (x : Expr) (m : ℕ) → op_level o ≡ number_of l → (number_of l ≡ 3 → ⊥)
        → IsFitting depth (number_of l) m (tree x) → left_in_parens o (tree x) ≡ true
        → open_parens (tree x) < depth
    chain_left o x m n z a h = ⊎_elim
        (λ e. a.strict (omega (arith, ltb-true (level (tree x)) (op_level o) e, n)))
        (λ e. absurd (z (omega (arith, eqb-true (op_level o) 3 (and_parts _ (prelude.nat_eq (op_level o) 3) e).1, n))))
        (or_cases (prelude.nat_lt (level (tree x)) (op_level o)) _ h)

    single_left : (o : BinOp) (x : Expr) (m : ℕ) → op_level o ≡ number_of l
        → IsFitting depth (suc (number_of l)) m (tree x) → left_in_parens o (tree x) ≡ true
        → open_parens (tree x) < depth
    single_left o x m n a h = ⊎_elim
        (λ e. a.strict (omega (arith, ltb-true (level (tree x)) (op_level o) e, n)))
        (λ e. let p = and_parts (prelude.nat_eq (level (tree x)) 3) (prelude.nat_eq (op_level o) 3) e in
        a.strict (omega (arith, eqb-true (level (tree x)) 3 p.0, eqb-true (op_level o) 3 p.1, n)))
        (or_cases (prelude.nat_lt (level (tree x)) (op_level o)) _ h)

    chain_fits : (number_of l ≡ 3 → ⊥) → (s t : State) (x : Expr) → IsChain l R s x t
        → (used : ℕ) × (s.room ≡ used + t.room) × IsFitting depth (number_of l) used (tree x)
    chain_fits z s t x (one r) = (looser (number_of l) (suc (number_of l)) R (omega arith) g).fits s t x r
    chain_fits z s t x (more {left = a} {right = b} {o} {t = w} {u = v} c q r) =
        let f = chain_fits z s w a c in
        both s t w v a b o q f.0 f.1 f.2 (chain_left o a f.0 (level_number l q.token.0 o q.gives) z f.2) r

    chain_gives : (number_of l ≡ 3 → ⊥) → Gives (number_of l) (grammar.chain l R)
    chain_gives z = record { fits = λ s t x w. chain_fits z s t x (chain_cases l R s t x w) }

    single_fits : (s t : State) (x : Expr) → IsSingle l R s x t
        → (used : ℕ) × (s.room ≡ used + t.room) × IsFitting depth (number_of l) used (tree x)
    single_fits s t x (alone r) = (looser (number_of l) (suc (number_of l)) R (omega arith) g).fits s t x r
    single_fits s t x (pair {left = a} {right = b} {o} {t = w} {u = v} c q r) =
        let f = g.fits s w a c in
        both s t w v a b o q f.0 f.1 (record { used = f.2.used; low = f.2.low; strict = λ e. f.2.strict (omega (arith, e)) }) (single_left o a f.0 (level_number l q.token.0 o q.gives) f.2) r

    single_gives : Gives (number_of l) (grammar.single l R)
    single_gives = record { fits = λ s t x w. single_fits s t x (single_cases l R s t x w) }

  -- signs
  sign_open : (a : Tree) (n : ℕ) → IsFitting depth 6 n a
      → opened (operand_in_parens a) (open_parens a) ≤ depth
  sign_open a n f = opened_within (operand_in_parens a) (open_parens a) depth f.low (λ e. f.strict (ltb-true (level a) 6 e))

  minus_fits : (a : Tree) (n : ℕ) → IsFitting depth 6 n a → IsFitting depth 6 (suc n) (trees.Neg a)
  unfolding operators open_parens level
  minus_fits a n f = record { used = omega (arith, f.used); low = sign_open a n f; strict = λ e. absurd (omega (arith, e)) }

  not_fits : (a : Tree) (n : ℕ) → IsFitting depth 6 n a → IsFitting depth 6 (suc n) (trees.Not a)
  unfolding operators open_parens level
  not_fits a n f = record { used = omega (arith, f.used); low = sign_open a n f; strict = λ e. absurd (omega (arith, e)) }

  unary_fits : (R : Production Expr) → Gives 7 R → (s t : State) (x : Expr) → IsUnary R s x t
      → (used : ℕ) × (s.room ≡ used + t.room) × IsFitting depth 6 used (tree x)
  unary_fits R g s t x (words.plain r) = (looser 6 7 R (omega arith) g).fits s t x r
  unary_fits R g s t x (words.minus {u} {x = y} q r) = let f = unary_fits R g u t y r in (suc f.0, omega (arith, q.room, f.1), subst (IsFitting depth 6 (suc f.0)) (sym (parts.minus y)) (minus_fits (tree y) f.0 f.2))
  unary_fits R g s t x (words.bang {u} {x = y} q r) = let f = unary_fits R g u t y r in (suc f.0, omega (arith, q.room, f.1), subst (IsFitting depth 6 (suc f.0)) (sym (parts.inverted y)) (not_fits (tree y) f.0 f.2))

  -- operands
  truth_fits : (b : Bool) → IsFitting depth 7 0 (trees.Bool b)
  unfolding operators open_parens level
  truth_fits b = record { used = refl; low = omega arith; strict = λ e. absurd (omega (arith, e)) }

  number_fits : (n : ℤ) → IsFitting depth 7 0 (trees.Int n)
  unfolding operators open_parens level
  number_fits n = record { used = refl; low = omega arith; strict = λ e. absurd (omega (arith, e)) }

  text_fits : (text : List ℕ) → IsFitting depth 7 0 (trees.Text text)
  unfolding operators open_parens level
  text_fits text = record { used = refl; low = omega arith; strict = λ e. absurd (omega (arith, e)) }

  start_fits : (label : List ℕ) → IsFitting depth 7 0 (trees.Start label)
  unfolding operators open_parens level
  start_fits label = record { used = refl; low = omega arith; strict = λ e. absurd (omega (arith, e)) }

  stop_fits : (label : List ℕ) → IsFitting depth 7 0 (trees.Stop label)
  unfolding operators open_parens level
  stop_fits label = record { used = refl; low = omega arith; strict = λ e. absurd (omega (arith, e)) }

  key_fits : (label key : List ℕ) → IsFitting depth 7 0 (trees.Key label key)
  unfolding operators open_parens level
  key_fits label key = record { used = refl; low = omega arith; strict = λ e. absurd (omega (arith, e)) }

  primary_fits : (P : Production Expr) → Gives 7 P → (s t : State) (x : Expr) → IsPrimary P s x t
      → (used : ℕ) × (s.room ≡ used + t.room) × IsFitting depth 7 used (tree x)
  primary_fits P g s t x (words.number r) = (0, omega (arith, r.room), subst (IsFitting depth 7 0) (sym (parts.number _)) (number_fits _))
  primary_fits P g s t x (words.text r) = (0, omega (arith, r.room), subst (IsFitting depth 7 0) (sym (parts.text _)) (text_fits _))
  primary_fits P g s t x (words.yes r) = (0, omega (arith, r.room), subst (IsFitting depth 7 0) (sym (parts.truth _)) (truth_fits _))
  primary_fits P g s t x (words.no r) = (0, omega (arith, r.room), subst (IsFitting depth 7 0) (sym (parts.truth _)) (truth_fits _))
  primary_fits P g s t x (words.key a b c) = (0, omega (arith, a.room, b.room, c.room), subst (IsFitting depth 7 0) (sym (parts.key _ _)) (key_fits _ _))
  primary_fits P g s t x (words.start a b c) = (0, omega (arith, a.room, b.room, c.room), subst (IsFitting depth 7 0) (sym (parts.start _)) (start_fits _))
  primary_fits P g s t x (words.stop a b c) = (0, omega (arith, a.room, b.room, c.room), subst (IsFitting depth 7 0) (sym (parts.stop _)) (stop_fits _))
  primary_fits P g s t x (words.paren r) = g.fits s t x r

  tower_gives : (P : Production Expr) → Gives 7 P → Gives 1 (grammar.expression P)
  tower_gives P g =
      let p : Gives 7 (grammar.primary P) = record { fits = λ s t x w. primary_fits P g s t x (primary_cases P s t x w) } in
      let u : Gives 6 (grammar.unary (grammar.primary P)) = record { fits = λ s t x w. unary_fits (grammar.primary P) p s t x (unary_cases (grammar.primary P) s t x w) } in
      let a = chain_gives levels.Product (grammar.unary (grammar.primary P)) u (λ e. omega (arith, e)) in
      let b = chain_gives levels.Sum (grammar.product P) a (λ e. omega (arith, e)) in
      let c = single_gives levels.Compare (grammar.sum P) b in
      let d = chain_gives levels.And (grammar.comparison P) c (λ e. omega (arith, e)) in
      chain_gives levels.Or (grammar.conjunction P) d (λ e. omega (arith, e))

  -- parentheses, in which the expression is one less deep
  inner_fits : (Gives 1 (grammar.expression (grammar.paren depth))) → (s t : State) (x : Expr)
      → (grammar.paren (suc depth)).word s x t
      → (used : ℕ) × (s.room ≡ used + t.room) × IsFitting (suc depth) 7 used (tree x)
  unfolding grammar.paren
  inner_fits g s t x r =
      let inside = r.rest in
      let closed = inside.rest in
      let f = g.fits r.middle inside.middle inside.given inside.first in
      let y : inside.given ≡ x = sym closed.rest.gives in
      let h : t.room ≡ inside.middle.room = ap (λ (u : State). u.room) closed.rest.stays ∙ closed.first.room in (
        f.0,
        omega (arith, f.1, h, r.first.room),
        subst (λ z. IsFitting (suc depth) 7 f.0 (tree z)) y
            (record { used = f.2.used; low = omega (arith, f.2.low); strict = λ e. omega (arith, f.2.low) }),
      )

module _ (parts : IsByParts) where
  paren_gives : (depth : ℕ) → Gives parts depth 7 (grammar.paren depth)
  unfolding grammar.paren
  paren_gives zero = record { fits = λ s t x r. absurd r }
  paren_gives (suc depth) = record { fits = inner_fits parts depth (tower_gives parts depth (grammar.paren depth) (paren_gives depth)) }

  pub expression_gives : (depth : ℕ)
      → Gives parts depth 1 (grammar.expression (grammar.paren depth))
  expression_gives depth = tower_gives parts depth (grammar.paren depth) (paren_gives depth)

  -- what is read within the limits is within them
  pub expression_limits : (s t : State) (x : Expr) → s.room ≤ 256
      → expression (paren 64) s ≡ Ok (x, t) → IsWithinLimits (tree x)
  expression_limits s t x l e =
      let f = (expression_gives 64).fits s t x ((expression_reader (paren_reader 64)).sound s t x e) in
      record { few_operators = omega (arith, f.1, f.2.used); few_parens = f.2.low }
