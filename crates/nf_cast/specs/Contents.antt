-- What the trees of a C text are made of.
use Rattle.std.specs.Prelude.{ℕ, suc, ℤ, max, List, [], ◌∷◌, ◌++◌, fold, option_to_list}
use Rattle.nf_cast.specs.declared.expressions.CExpr.{CExpr, CExpr-F, fold-CExpr}
use Rattle.nf_cast.specs.declared.expressions.CExpr.TheOpen as e
use Rattle.nf_cast.specs.declared.expressions.CRight.{CRight}
use Rattle.nf_cast.specs.declared.expressions.CRight.TheVariants as right
use Rattle.nf_cast.specs.declared.expressions.CBound.{CBound}
use Rattle.nf_cast.specs.declared.expressions.CBound.TheVariants as bound
use Rattle.nf_cast.specs.declared.statements.CStmt.{CStmt, CStmt-F, fold-CStmt}
use Rattle.nf_cast.specs.declared.statements.CStmt.TheOpen as s
use Rattle.nf_cast.specs.declared.statements.CBlock.{CBlock, CBlock-F, fold-CBlock}

-- a name, or a literal's number
pub data Leaf : Type 0 where
  name : List ℕ → Leaf
  literal : ℤ → Leaf

-- the names and literals of an expression, given those of its operands
abbrev pub leaves_layer : CExpr-F (List Leaf) → List Leaf
leaves_layer (e.Lit n) = literal n ∷ []
leaves_layer (e.Name x) = name x ∷ []
leaves_layer (e.Cell x i) = name x ∷ i
leaves_layer (e.Neg a) = a
leaves_layer (e.Not a) = a
leaves_layer (e.Bin op a b) = a ++ b

-- the names and literals of an expression, in their order
unfoldable pub leaves_of : CExpr → List Leaf
leaves_of = fold-CExpr (List Leaf) leaves_layer

-- what a statement is made of: the expressions that stand in no other one, the other names and literals, and how many blocks are open in it at once at most
pub record Contents : Type 0 where
  pub expressions : List CExpr
  pub leaves : List Leaf
  pub blocks : ℕ

-- no blocks, but these names and literals and these expressions
abbrev pub flat : List Leaf → List CExpr → Contents
flat leaves expressions = record { expressions = expressions; leaves = leaves; blocks = 0 }

-- the contents of one part and of another
abbrev pub with_part : Contents → Contents → Contents
with_part a b = record { expressions = a.expressions ++ b.expressions; leaves = a.leaves ++ b.leaves; blocks = max a.blocks b.blocks }

-- the contents of all of some parts
abbrev pub of_parts : List Contents → Contents
of_parts parts = fold with_part (flat [] []) parts

-- a call's name is no expression, and its arguments are
abbrev pub right_contents : List Leaf → CRight → Contents
right_contents leaves (right.Call f arguments) = flat (leaves ++ name f ∷ []) arguments
right_contents leaves (right.Value a) = flat leaves (a ∷ [])

-- the name or the literal that a loop goes up to
abbrev pub bound_leaf : CBound → Leaf
bound_leaf (bound.Lit n) = literal n
bound_leaf (bound.Name x) = name x

-- what a statement is made of, given what its blocks are made of
abbrev pub contents_layer : CStmt-F Contents Contents → Contents
contents_layer (s.Local constant x r) = right_contents (name x ∷ []) r
contents_layer (s.Assign x r) = right_contents (name x ∷ []) r
contents_layer (s.Store x i a) = flat (name x ∷ []) (i ∷ a ∷ [])
contents_layer (s.Call f arguments) = flat (name f ∷ []) arguments
contents_layer (s.If c a b) = of_parts (flat [] (c ∷ []) ∷ a ∷ option_to_list b)
contents_layer (s.For x b body) = with_part (flat (name x ∷ bound_leaf b ∷ []) []) body
contents_layer (s.Return a) = flat [] (option_to_list a)

-- a block is open while its statements stand in it
abbrev pub block_contents : CBlock-F Contents Contents → Contents
block_contents block = let all = of_parts block.stmts in record all { blocks = suc all.blocks }

-- what a statement is made of
unfoldable pub contents_of : CStmt → Contents
contents_of = fold-CStmt Contents Contents contents_layer block_contents

-- what a block is made of
unfoldable pub contents_of_block : CBlock → Contents
contents_of_block = fold-CBlock Contents Contents contents_layer block_contents
