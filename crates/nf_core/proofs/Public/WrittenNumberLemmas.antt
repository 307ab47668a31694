-- The whole numbers of rules that can be written are ones that a value may be.
use Rattle.std.proofs.Common.{ℤ, pos, negsuc, [], All, rules, tests}
use Rattle.std.specs.Prelude.{◌≤ℤ◌}
use Rattle.std.proofs.lemmas.List.Elements.{All-nil, All-cons, All-append, All-weaker}
use Rattle.nf_core.specs.Texts.{IsI64, int_greatest}
use Rattle.nf_core.specs.Trees as t
use Rattle.nf_core.specs.Trees.{Tree, tree, expressions_of, IsWrittenTree, IsWritten}
use Rattle.nf_core.specs.Written.{numbers_in, HasValueNumbers}
use Rattle.nf_core.specs.declared.trees.Rule.{Rule}

written_number : (n : ℤ) → pos 0 ≤ℤ n → n ≤ℤ int_greatest → IsI64 n
written_number (pos k) h most = record { low = search (rules, tests); high = most }
written_number (negsuc k) h most = absurd h.le

-- a tree that can be written has such numbers
pub IsI64-numbers_in : (a : Tree) → IsWrittenTree a → All IsI64 (numbers_in a)
unfolding IsWrittenTree numbers_in
IsI64-numbers_in (t.Bool b) h = All-nil IsI64
IsI64-numbers_in (t.Int n) h = All-cons IsI64 n [] (written_number n h.0 h.1) (All-nil IsI64)
IsI64-numbers_in (t.Text text) h = All-nil IsI64
IsI64-numbers_in (t.Start label) h = All-nil IsI64
IsI64-numbers_in (t.Stop label) h = All-nil IsI64
IsI64-numbers_in (t.Key label key) h = All-nil IsI64
IsI64-numbers_in (t.Neg a) h = IsI64-numbers_in a h
IsI64-numbers_in (t.Not a) h = IsI64-numbers_in a h
IsI64-numbers_in (t.Bin op a b) h = All-append IsI64 (numbers_in a) (numbers_in b) (IsI64-numbers_in a h.0) (IsI64-numbers_in b h.1)

-- and so has a rule
pub HasValueNumbers-written : (rule : Rule) → IsWritten rule → HasValueNumbers rule
HasValueNumbers-written rule written = All-weaker (λ x. IsWrittenTree (tree x)) (λ x. All IsI64 (numbers_in (tree x))) (λ x. IsI64-numbers_in (tree x)) (expressions_of rule) written.expressions
