-- An expression has a kind over the labels that it may read exactly where it has no fault.
use Rattle.std.proofs.Common.{◌≡◌, ℕ, Bool, true, false, cond, List, [], ◌∷◌, bytes_eq, Option, Some, None, is_some, is_none, refl, sym, ap, ◌∙◌, true≢false}
use Rattle.std.specs.List.{list_any}
use Rattle.nf_core.specs.Kinds.{Kind, Number, Any, kind_of_negated, kind_of_inverted, kind_of_binary, kind_of_tree}
use Rattle.nf_core.specs.Trees.{Tree}
use Rattle.nf_core.specs.Trees as of
use Rattle.nf_core.specs.declared.operators.BinOp.{BinOp}
use Rattle.nf_typing.specs.declared.fault.KindFault.{KindFault}
use Rattle.nf_typing.specs.declared.fault.KindFault.TheVariants.{UnknownLabel, SecondLabel}
use Rattle.nf_typing.specs.Faults.{first, read_fault, operator_fault, expression_fault}

-- of a read
read_chosen : (b c : Bool) (k : Kind) → is_none (cond b None (cond c (Some SecondLabel) (Some UnknownLabel))) ≡ is_some (cond b (Some k) None)
read_chosen true c k = refl
read_chosen false true k = refl
read_chosen false false k = refl

of_read : (readable all : List (List ℕ)) (label : List ℕ) (k : Kind) → is_none (read_fault readable all label) ≡ is_some (cond (list_any (bytes_eq label) readable) (Some k) None)
unfolding read_fault
of_read readable all label k = read_chosen (list_any (bytes_eq label) readable) (list_any (bytes_eq label) all) k

-- of an operator alone
of_operator : (k : Option Kind) → is_none (first (operator_fault k ∷ [])) ≡ is_some k
of_operator None = refl
of_operator (Some k) = refl

-- of an operator behind its operand
behind_one : (f : Option Kind → Option Kind) → f None ≡ None → (e : Option KindFault) (k : Option Kind) → is_none e ≡ is_some k → is_none (first (e ∷ operator_fault (f k) ∷ [])) ≡ is_some (f k)
behind_one f strict None None h = absurd (true≢false h)
behind_one f strict None (Some k) h = of_operator (f (Some k))
behind_one f strict (Some fault) None h = sym (ap is_some strict)
behind_one f strict (Some fault) (Some k) h = absurd (true≢false (sym h))

-- of an operator behind its two operands
behind_two : (o : BinOp) (e d : Option KindFault) (k l : Option Kind) → is_none e ≡ is_some k → is_none d ≡ is_some l → is_none (first (e ∷ d ∷ operator_fault (kind_of_binary o k l) ∷ [])) ≡ is_some (kind_of_binary o k l)
unfolding kind_of_binary
behind_two o None d None l h g = absurd (true≢false h)
behind_two o None d (Some k) l h g = behind_one (kind_of_binary o (Some k)) refl d l g
behind_two o (Some fault) d None l h g = refl
behind_two o (Some fault) d (Some k) l h g = absurd (true≢false (sym h))

module _ (readable all : List (List ℕ)) where
  pub is_none_expression_fault : (a : Tree) → is_none (expression_fault readable all a) ≡ is_some (kind_of_tree readable a)
  unfolding expression_fault kind_of_tree kind_of_negated kind_of_inverted
  is_none_expression_fault (of.Bool b) = refl
  is_none_expression_fault (of.Int n) = refl
  is_none_expression_fault (of.Text t) = refl
  is_none_expression_fault (of.Start label) = of_read readable all label Number
  is_none_expression_fault (of.Stop label) = of_read readable all label Number
  is_none_expression_fault (of.Key label key) = of_read readable all label Any
  is_none_expression_fault (of.Neg a) = behind_one kind_of_negated refl (expression_fault readable all a) (kind_of_tree readable a) (is_none_expression_fault a)
  is_none_expression_fault (of.Not a) = behind_one kind_of_inverted refl (expression_fault readable all a) (kind_of_tree readable a) (is_none_expression_fault a)
  is_none_expression_fault (of.Bin o a b) = behind_two o (expression_fault readable all a) (expression_fault readable all b) (kind_of_tree readable a) (kind_of_tree readable b) (is_none_expression_fault a) (is_none_expression_fault b)

  none_of : (e : Option KindFault) → is_none e ≡ true → e ≡ None
  none_of None h = refl
  none_of (Some fault) h = absurd (true≢false (sym h))

  -- so an expression with a kind has no fault
  pub without_fault : (a : Tree) → is_some (kind_of_tree readable a) ≡ true → expression_fault readable all a ≡ None
  without_fault a h = none_of (expression_fault readable all a) (is_none_expression_fault a ∙ h)
