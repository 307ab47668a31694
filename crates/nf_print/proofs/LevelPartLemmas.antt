-- The parts of an expression by their levels.
use Rattle.std.proofs.Common.{◌≡◌, ℕ, zero, suc, ◌≤◌, false, ◌||◌, ◌&&◌, cond, eqb, ltb, leb, List, ◌∷◌, refl, sym, ap, subst, arith, ⊎_elim, codes}
use Rattle.std.proofs.lemmas.Bool.{cases_lt}
use Rattle.std.proofs.lemmas.Bool.Decides.{nat_tests}
use Rattle.nf_core.specs.Trees.{op_level}
use Rattle.nf_core.specs.declared.operators.BinOp.{BinOp}
use Rattle.nf_core.specs.declared.operators.BinOp.TheVariants as binary
use Rattle.nf_core.specs.declared.trees.Expr.{Expr}
use Rattle.nf_core.specs.declared.trees.Expr.TheVariants as e
use Rattle.nf_grammar.specs.State.{state}
use Rattle.nf_lex.specs.declared.token.TokenKind.{TokenKind}
use Rattle.nf_lex.specs.declared.token.TokenKind.TheVariants as tokens
use Rattle.nf_parse.specs.State.{Word, State, sym_of}
use Rattle.nf_parse.specs.Grammar.{Production, op_at, primary, unary, product, sum, comparison, conjunction, expression, paren}
use Rattle.nf_parse.proofs.Public.WordLemmas.{Token, Counted, token_word}
use Rattle.nf_parse.proofs.Public.ProductionLemmas.{or_level, and_level, compare_level, sum_level, product_level, chain_one, chain_more, single_alone, single_pair, unary_plain, paren_word}
use Rattle.nf_print.proofs.WordFrontLemmas.{word, mark}
use Rattle.nf_core.specs.Spelling.{mark_of}

-- the words of a level: those of its operators and of tighter ones
abbrev pub Part : Production Expr → ℕ → Production Expr
Part P zero = expression P
Part P (suc zero) = expression P
Part P (suc (suc zero)) = conjunction P
Part P (suc (suc (suc zero))) = comparison P
Part P (suc (suc (suc (suc zero)))) = sum P
Part P (suc (suc (suc (suc (suc zero))))) = product P
Part P (suc (suc (suc (suc (suc (suc zero)))))) = unary (primary P)
Part P (suc (suc (suc (suc (suc (suc (suc n))))))) = primary P

-- one word
pub one_word : (kind : TokenKind) (n m : ℕ) (bytes : List ℕ) (rest : List Word) → n ≡ m → Token (sym_of kind bytes) (state n (word kind bytes ∷ rest)) bytes (state m rest)
one_word kind n m bytes rest c = token_word (sym_of kind bytes) n m bytes rest (sym c)

-- a word of a level is one of each looser level
module _ (P : Production Expr) (s t : State) (x : Expr) where
  looser : (n : ℕ) → (Part P (suc n)).word s x t → (Part P n).word s x t
  looser zero w = w
  looser (suc zero) w = chain_one or_level (conjunction P) s t x w
  looser (suc (suc zero)) w = chain_one and_level (comparison P) s t x w
  looser (suc (suc (suc zero))) w = single_alone compare_level (sum P) s t x w
  looser (suc (suc (suc (suc zero)))) w = chain_one sum_level (product P) s t x w
  looser (suc (suc (suc (suc (suc zero))))) w = chain_one product_level (unary (primary P)) s t x w
  looser (suc (suc (suc (suc (suc (suc zero)))))) w = unary_plain (primary P) s t x w
  looser (suc (suc (suc (suc (suc (suc (suc n))))))) w = w

  pub loosest : (n m : ℕ) → n ≤ m → (Part P m).word s x t → (Part P n).word s x t
  loosest n zero l w = let e : zero ≡ n = omega arith in subst (λ k. (Part P k).word s x t) e w
  loosest n (suc m) l w = ⊎_elim
      (λ h. loosest n m (omega arith) (looser m w))
      (λ h. let e : suc m ≡ n = omega arith in subst (λ k. (Part P k).word s x t) e w)
      (cases_lt n (suc m))

-- the level that the left operand of an operator has without parentheses
abbrev pub left_level : ℕ → ℕ
left_level n = cond (eqb n 3) 4 n

pub left_free : (m n : ℕ) → (ltb m n || (eqb m 3 && eqb n 3)) ≡ false → left_level n ≤ m
left_free m n h = grind (arith, nat_tests)

pub left_small : (n : ℕ) → n ≤ 5 → left_level n ≤ 7
left_small n h = grind (arith, nat_tests)

pub right_free : (m n : ℕ) → leb m n ≡ false → suc n ≤ m
right_free m n h = grind (arith, nat_tests)

pub operand_free : (m n : ℕ) → ltb m n ≡ false → n ≤ m
operand_free m n h = grind (arith, nat_tests)

pub level_small : (o : BinOp) → op_level o ≤ 5
unfolding op_level
level_small binary.Or = omega arith
level_small binary.And = omega arith
level_small binary.Eq = omega arith
level_small binary.Ne = omega arith
level_small binary.Lt = omega arith
level_small binary.Le = omega arith
level_small binary.Gt = omega arith
level_small binary.Ge = omega arith
level_small binary.Add = omega arith
level_small binary.Sub = omega arith
level_small binary.Mul = omega arith
level_small binary.Div = omega arith
level_small binary.Rem = omega arith

-- an operator between its operands
pub bin_part : (P : Production Expr) (o : BinOp) (s t u v : State) (l r : Expr)
    → (Part P (left_level (op_level o))).word s l t → (c : Counted t u) → c.token.0 ≡ (mark (mark_of o)).0 → (Part P (suc (op_level o))).word u r v → (Part P (op_level o)).word s (e.Bin o l r) v
unfolding op_level mark_of sym_of op_at
bin_part P binary.Or s t u v l r a c k b = chain_more or_level (conjunction P) s t u v l r binary.Or a (record { token = c.token; first = c.words; gives = ap (op_at or_level) k; room = c.room }) b
bin_part P binary.And s t u v l r a c k b = chain_more and_level (comparison P) s t u v l r binary.And a (record { token = c.token; first = c.words; gives = ap (op_at and_level) k; room = c.room }) b
bin_part P binary.Eq s t u v l r a c k b = single_pair compare_level (sum P) s t u v l r binary.Eq a (record { token = c.token; first = c.words; gives = ap (op_at compare_level) k; room = c.room }) b
bin_part P binary.Ne s t u v l r a c k b = single_pair compare_level (sum P) s t u v l r binary.Ne a (record { token = c.token; first = c.words; gives = ap (op_at compare_level) k; room = c.room }) b
bin_part P binary.Lt s t u v l r a c k b = single_pair compare_level (sum P) s t u v l r binary.Lt a (record { token = c.token; first = c.words; gives = ap (op_at compare_level) k; room = c.room }) b
bin_part P binary.Le s t u v l r a c k b = single_pair compare_level (sum P) s t u v l r binary.Le a (record { token = c.token; first = c.words; gives = ap (op_at compare_level) k; room = c.room }) b
bin_part P binary.Gt s t u v l r a c k b = single_pair compare_level (sum P) s t u v l r binary.Gt a (record { token = c.token; first = c.words; gives = ap (op_at compare_level) k; room = c.room }) b
bin_part P binary.Ge s t u v l r a c k b = single_pair compare_level (sum P) s t u v l r binary.Ge a (record { token = c.token; first = c.words; gives = ap (op_at compare_level) k; room = c.room }) b
bin_part P binary.Add s t u v l r a c k b = chain_more sum_level (product P) s t u v l r binary.Add a (record { token = c.token; first = c.words; gives = ap (op_at sum_level) k; room = c.room }) b
bin_part P binary.Sub s t u v l r a c k b = chain_more sum_level (product P) s t u v l r binary.Sub a (record { token = c.token; first = c.words; gives = ap (op_at sum_level) k; room = c.room }) b
bin_part P binary.Mul s t u v l r a c k b = chain_more product_level (unary (primary P)) s t u v l r binary.Mul a (record { token = c.token; first = c.words; gives = ap (op_at product_level) k; room = c.room }) b
bin_part P binary.Div s t u v l r a c k b = chain_more product_level (unary (primary P)) s t u v l r binary.Div a (record { token = c.token; first = c.words; gives = ap (op_at product_level) k; room = c.room }) b
bin_part P binary.Rem s t u v l r a c k b = chain_more product_level (unary (primary P)) s t u v l r binary.Rem a (record { token = c.token; first = c.words; gives = ap (op_at product_level) k; room = c.room }) b

-- an expression between parentheses
pub paren_part : (d n m : ℕ) (ws rest : List Word) (x : Expr)
    → (expression (paren d)).word (state n ws) x (state m (mark (codes ")") ∷ rest)) → (paren (suc d)).word (state n (mark (codes "(") ∷ ws)) x (state m rest)
unfolding sym_of
paren_part d n m ws rest x w = paren_word d (state n (mark (codes "(") ∷ ws)) (state n ws) (state m (mark (codes ")") ∷ rest)) (state m rest) (codes "(") (codes ")") x
    (one_word tokens.Mark n n (codes "(") ws refl) w (one_word tokens.Mark m m (codes ")") rest refl)
