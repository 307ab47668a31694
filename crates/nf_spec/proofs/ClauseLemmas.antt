-- What the expressions of a rule read and hold: how many keys, which keys, and which texts.
use Rattle.std.proofs.Common.{◌≡◌, ℕ, ◌+◌, ◌≤◌, Bool, true, false, List, [], ◌∷◌, ◌++◌, length, All, IsTrue, bytes_eq, ap, sym, subst, ◌∙◌, arith, if◌then◌else◌}
use Rattle.std.proofs.lemmas.List.{length-append}
use Rattle.std.proofs.lemmas.List.Elements.{All-nil, All-cons, All-append}
use Rattle.nf_core.specs.Identifiers.{is_identifier}
use Rattle.nf_core.specs.Texts.{IsPlain}
use Rattle.nf_core.specs.Trees as t
use Rattle.nf_core.specs.Trees.{Tree, tree, expr_of, operators, IsWrittenTree}
use Rattle.nf_core.specs.Written.{keys_read, keys_at_node, texts_in}
use Rattle.nf_core.specs.declared.trees.Expr.{Expr, fold-roll-Expr}
use Rattle.nf_core.specs.declared.trees.Expr.TheOpen as x
use Rattle.nf_core.specs.declared.trees.Expr.TheVariants as e

abbrev pub IsName : List ℕ → Type 0
IsName name = IsTrue (is_identifier name)

-- the keys that a tree reads under a label
abbrev keys_in_tree : List ℕ → Tree → List (List ℕ)
keys_in_tree label (t.Bool b) = []
keys_in_tree label (t.Int n) = []
keys_in_tree label (t.Text text) = []
keys_in_tree label (t.Start l) = []
keys_in_tree label (t.Stop l) = []
keys_in_tree label (t.Key l key) = if bytes_eq l label then key ∷ [] else []
keys_in_tree label (t.Neg a) = keys_in_tree label a
keys_in_tree label (t.Not a) = keys_in_tree label a
keys_in_tree label (t.Bin op a b) = keys_in_tree label a ++ keys_in_tree label b

-- the keys that an expression reads are those of its tree
keys_of_tree : (label : List ℕ) (a : Tree) → keys_read label (expr_of a) ≡ keys_in_tree label a
unfolding keys_read keys_at_node
keys_of_tree label (t.Bool b) = ap (keys_read label) (sym (e.rolls-Bool b)) ∙ fold-roll-Expr (List (List ℕ)) (keys_at_node label) (x.Bool b)
keys_of_tree label (t.Int n) = ap (keys_read label) (sym (e.rolls-Int n)) ∙ fold-roll-Expr (List (List ℕ)) (keys_at_node label) (x.Int n)
keys_of_tree label (t.Text text) = ap (keys_read label) (sym (e.rolls-Text text)) ∙ fold-roll-Expr (List (List ℕ)) (keys_at_node label) (x.Text text)
keys_of_tree label (t.Start l) = ap (keys_read label) (sym (e.rolls-Start l)) ∙ fold-roll-Expr (List (List ℕ)) (keys_at_node label) (x.Start l)
keys_of_tree label (t.Stop l) = ap (keys_read label) (sym (e.rolls-Stop l)) ∙ fold-roll-Expr (List (List ℕ)) (keys_at_node label) (x.Stop l)
keys_of_tree label (t.Key l key) = ap (keys_read label) (sym (e.rolls-Key l key)) ∙ fold-roll-Expr (List (List ℕ)) (keys_at_node label) (x.Key l key)
keys_of_tree label (t.Neg a) = ap (keys_read label) (sym (e.rolls-Neg (expr_of a))) ∙ fold-roll-Expr (List (List ℕ)) (keys_at_node label) (x.Neg (expr_of a)) ∙ keys_of_tree label a
keys_of_tree label (t.Not a) = ap (keys_read label) (sym (e.rolls-Not (expr_of a))) ∙ fold-roll-Expr (List (List ℕ)) (keys_at_node label) (x.Not (expr_of a)) ∙ keys_of_tree label a
keys_of_tree label (t.Bin op a b) =
    ap (keys_read label) (sym (e.rolls-Bin op (expr_of a) (expr_of b))) ∙ fold-roll-Expr (List (List ℕ)) (keys_at_node label) (x.Bin op (expr_of a) (expr_of b))
    ∙ (λ i. keys_of_tree label a i ++ keys_of_tree label b i)

-- a tree reads at most one key more than it has operators
few_in_tree : (label : List ℕ) (a : Tree) → length (keys_in_tree label a) ≤ operators a + 1
unfolding operators
few_in_tree label (t.Bool b) = omega arith
few_in_tree label (t.Int n) = omega arith
few_in_tree label (t.Text text) = omega arith
few_in_tree label (t.Start l) = omega arith
few_in_tree label (t.Stop l) = omega arith
few_in_tree label (t.Key l key) = at (bytes_eq l label)
  where
    at : (b : Bool) → length (if b then key ∷ [] else []) ≤ 0 + 1
    at true = omega arith
    at false = omega arith
few_in_tree label (t.Neg a) = omega (arith, few_in_tree label a)
few_in_tree label (t.Not a) = omega (arith, few_in_tree label a)
few_in_tree label (t.Bin op a b) = omega (arith, length-append (keys_in_tree label a) (keys_in_tree label b), few_in_tree label a, few_in_tree label b)

-- the keys that a written tree reads are identifiers
names_in_tree : (label : List ℕ) (a : Tree) → IsWrittenTree a → All IsName (keys_in_tree label a)
unfolding IsWrittenTree
names_in_tree label (t.Bool b) w = All-nil IsName
names_in_tree label (t.Int n) w = All-nil IsName
names_in_tree label (t.Text text) w = All-nil IsName
names_in_tree label (t.Start l) w = All-nil IsName
names_in_tree label (t.Stop l) w = All-nil IsName
names_in_tree label (t.Key l key) w = at (bytes_eq l label)
  where
    at : (b : Bool) → All IsName (if b then key ∷ [] else [])
    at true = All-cons IsName key [] w.1 (All-nil IsName)
    at false = All-nil IsName
names_in_tree label (t.Neg a) w = names_in_tree label a w
names_in_tree label (t.Not a) w = names_in_tree label a w
names_in_tree label (t.Bin op a b) w = All-append IsName (keys_in_tree label a) (keys_in_tree label b) (names_in_tree label a w.0) (names_in_tree label b w.1)

-- the texts of a written tree are plain
pub plain_texts : (a : Tree) → IsWrittenTree a → All IsPlain (texts_in a)
unfolding IsWrittenTree texts_in
plain_texts (t.Bool b) w = All-nil IsPlain
plain_texts (t.Int n) w = All-nil IsPlain
plain_texts (t.Text text) w = All-cons IsPlain text [] w.plain (All-nil IsPlain)
plain_texts (t.Start l) w = All-nil IsPlain
plain_texts (t.Stop l) w = All-nil IsPlain
plain_texts (t.Key l key) w = All-nil IsPlain
plain_texts (t.Neg a) w = plain_texts a w
plain_texts (t.Not a) w = plain_texts a w
plain_texts (t.Bin op a b) w = All-append IsPlain (texts_in a) (texts_in b) (plain_texts a w.0) (plain_texts b w.1)

-- every expression is that of its tree
abbrev pub AreBack : Type 0
AreBack = (a : Expr) → expr_of (tree a) ≡ a

keys_are : AreBack → (label : List ℕ) (a : Expr) → keys_read label a ≡ keys_in_tree label (tree a)
keys_are back label a = ap (keys_read label) (sym (back a)) ∙ keys_of_tree label (tree a)

-- an expression reads at most one key more than it has operators
pub few_read : AreBack → (label : List ℕ) (a : Expr) → length (keys_read label a) ≤ operators (tree a) + 1
few_read back label a = subst (λ keys. length keys ≤ operators (tree a) + 1) (sym (keys_are back label a)) (few_in_tree label (tree a))

-- the keys that a written expression reads are identifiers
pub names_read : AreBack → (label : List ℕ) (a : Expr) → IsWrittenTree (tree a) → All IsName (keys_read label a)
names_read back label a w = subst (All IsName) (sym (keys_are back label a)) (names_in_tree label (tree a) w)
