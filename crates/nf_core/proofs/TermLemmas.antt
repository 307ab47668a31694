-- An expression as a term has the same kind, as many operators, the same whole numbers and the same texts, and it reads keys of its members.
use Rattle.std.proofs.Common.{◌≡◌, ℕ, ◌+◌, ◌<◌, ◌≤◌, ◌&&◌, Bool, true, false, cond, nat_lt, Option, Some, None, ℤ, List, [], ◌∷◌, ◌++◌, length, map, All, IsTrue, Contains, bytes_eq, refl, sym, ap, subst, ◌∙◌, if◌then◌else◌, slice_index, arith}
use Rattle.std.specs.List.{list_any}
use Rattle.std.specs.Cmp.Lexicographic.{nat_list_eq_equiv}
use Rattle.std.proofs.lemmas.Bool.{cond-true, lt-ltb}
use Rattle.std.proofs.lemmas.List.{length-map, get_or-map}
use Rattle.std.proofs.lemmas.List.Elements.{Contains-get_or, Contains-append_left, Contains-append_right}
use Rattle.nf_core.specs.Texts.{IsI64, IsPlain}
use Rattle.nf_core.specs.Expressions.{reads_within, reads_within_node, operators_of, operators_of_node, numbers_of, numbers_at_node, texts_of, texts_at_node}
use Rattle.nf_core.specs.Kinds.{Kind, Number, Any, kind_of_term, kind_of_node, kind_of_tree, kind_of_negated, kind_of_inverted, kind_of_binary, is_map_value}
use Rattle.nf_core.specs.Plan.{Plan, IsTermOver, widths_of_names}
use Rattle.nf_core.specs.Trees as t
use Rattle.nf_core.specs.Trees.{Tree, tree, operators, atoms_of}
use Rattle.nf_core.specs.Written.{Member, members_of, number_under, keys_under, keys_at_node, keys_read, keys_of_name, place_of, term_of, term_at_node, numbers_in, texts_in}
use Rattle.nf_core.specs.declared.limits.TheConstants.{MOST_OPERATORS}
use Rattle.nf_core.specs.declared.operators.BinOp.{BinOp}
use Rattle.nf_core.specs.declared.terms.Term.{Term}
use Rattle.nf_core.specs.declared.trees.Atom.{Atom}
use Rattle.nf_core.specs.declared.trees.Body.{Body}
use Rattle.nf_core.specs.declared.trees.Expr.{Expr}
use Rattle.nf_core.specs.declared.trees.Rule.{Rule}
use Rattle.nf_core.proofs.Public.EachOnceLemmas.{place_of-lt}
use Rattle.nf_core.proofs.TermFoldLemmas.{fold_Bool, fold_Int, fold_Text, fold_Start, fold_Stop, fold_Key, fold_Neg, fold_Not, fold_Bin}
use Rattle.nf_core.proofs.TreeFoldLemmas.{fold_tree, fold_by_tree}
use Rattle.nf_core.proofs.MemberLemmas.{labels_in, IsMember}

one_more : (m n : ℕ) → m ≡ n → m + 1 ≡ 1 + n
one_more m n e = omega arith

more : (k l m n : ℕ) → k ≡ m → l ≡ n → k + l + 1 ≡ 1 + m + n
more k l m n e f = omega arith

less : (k l m n : ℕ) → k ≡ m → l ≡ n → m < n → nat_lt k l ≡ true
less k l m n e f h = lt-ltb k l (omega arith)

-- where an operator has a kind, its operands have one
passed : (b : Bool) (k : Kind) → IsTrue (is_map_value (if b then Some k else None)) → b ≡ true
passed true k h = refl
passed false k h = h

negated : (o : Option Kind) → IsTrue (is_map_value (kind_of_negated o)) → IsTrue (is_map_value o)
unfolding kind_of_negated
negated None h = h
negated (Some k) h = refl

inverted : (o : Option Kind) → IsTrue (is_map_value (kind_of_inverted o)) → IsTrue (is_map_value o)
unfolding kind_of_inverted
inverted None h = h
inverted (Some k) h = refl

binary : (op : BinOp) (o p : Option Kind) → IsTrue (is_map_value (kind_of_binary op o p)) → IsTrue (is_map_value o) × IsTrue (is_map_value p)
unfolding kind_of_binary
binary op None p h = absurd (cc)
binary op (Some k) None h = (refl, h)
binary op (Some k) (Some l) h = (refl, refl)

module _ (members : List Member) where
  -- a tree as a term
  abbrev pub numbered : Tree → Term
  numbered = fold_tree (term_at_node members)

  pub term_of-tree : (x : Expr) → term_of members x ≡ numbered (tree x)
  unfolding term_of
  term_of-tree x = fold_by_tree (term_at_node members) x

  pub operators_of-numbered : (a : Tree) → operators_of (numbered a) ≡ operators a
  unfolding operators_of operators_of_node operators term_at_node
  operators_of-numbered (t.Bool b) = fold_Bool ℕ operators_of_node b
  operators_of-numbered (t.Int n) = fold_Int ℕ operators_of_node n
  operators_of-numbered (t.Text text) = fold_Text ℕ operators_of_node text
  operators_of-numbered (t.Start label) = fold_Start ℕ operators_of_node (number_under members label)
  operators_of-numbered (t.Stop label) = fold_Stop ℕ operators_of_node (number_under members label)
  operators_of-numbered (t.Key label key) = fold_Key ℕ operators_of_node (number_under members label) (place_of (keys_under members label) key)
  operators_of-numbered (t.Neg a) = fold_Neg ℕ operators_of_node (numbered a) ∙ one_more _ _ (operators_of-numbered a)
  operators_of-numbered (t.Not a) = fold_Not ℕ operators_of_node (numbered a) ∙ one_more _ _ (operators_of-numbered a)
  operators_of-numbered (t.Bin op a b) = fold_Bin ℕ operators_of_node op (numbered a) (numbered b) ∙ more _ _ _ _ (operators_of-numbered a) (operators_of-numbered b)

  pub numbers_of-numbered : (a : Tree) → numbers_of (numbered a) ≡ numbers_in a
  unfolding numbers_of numbers_at_node numbers_in term_at_node
  numbers_of-numbered (t.Bool b) = fold_Bool (List ℤ) numbers_at_node b
  numbers_of-numbered (t.Int n) = fold_Int (List ℤ) numbers_at_node n
  numbers_of-numbered (t.Text text) = fold_Text (List ℤ) numbers_at_node text
  numbers_of-numbered (t.Start label) = fold_Start (List ℤ) numbers_at_node (number_under members label)
  numbers_of-numbered (t.Stop label) = fold_Stop (List ℤ) numbers_at_node (number_under members label)
  numbers_of-numbered (t.Key label key) = fold_Key (List ℤ) numbers_at_node (number_under members label) (place_of (keys_under members label) key)
  numbers_of-numbered (t.Neg a) = fold_Neg (List ℤ) numbers_at_node (numbered a) ∙ numbers_of-numbered a
  numbers_of-numbered (t.Not a) = fold_Not (List ℤ) numbers_at_node (numbered a) ∙ numbers_of-numbered a
  numbers_of-numbered (t.Bin op a b) = fold_Bin (List ℤ) numbers_at_node op (numbered a) (numbered b) ∙ (λ i. numbers_of-numbered a i ++ numbers_of-numbered b i)

  pub texts_of-numbered : (a : Tree) → texts_of (numbered a) ≡ texts_in a
  unfolding texts_of texts_at_node texts_in term_at_node
  texts_of-numbered (t.Bool b) = fold_Bool (List (List ℕ)) texts_at_node b
  texts_of-numbered (t.Int n) = fold_Int (List (List ℕ)) texts_at_node n
  texts_of-numbered (t.Text text) = fold_Text (List (List ℕ)) texts_at_node text
  texts_of-numbered (t.Start label) = fold_Start (List (List ℕ)) texts_at_node (number_under members label)
  texts_of-numbered (t.Stop label) = fold_Stop (List (List ℕ)) texts_at_node (number_under members label)
  texts_of-numbered (t.Key label key) = fold_Key (List (List ℕ)) texts_at_node (number_under members label) (place_of (keys_under members label) key)
  texts_of-numbered (t.Neg a) = fold_Neg (List (List ℕ)) texts_at_node (numbered a) ∙ texts_of-numbered a
  texts_of-numbered (t.Not a) = fold_Not (List (List ℕ)) texts_at_node (numbered a) ∙ texts_of-numbered a
  texts_of-numbered (t.Bin op a b) = fold_Bin (List (List ℕ)) texts_at_node op (numbered a) (numbered b) ∙ (λ i. texts_of-numbered a i ++ texts_of-numbered b i)

  module _ (labels : List (List ℕ)) where
    kind_of-numbered : (a : Tree) → IsTrue (is_map_value (kind_of_tree labels a)) → kind_of_term (numbered a) ≡ kind_of_tree labels a
    unfolding kind_of_term kind_of_node kind_of_tree term_at_node
    kind_of-numbered (t.Bool b) h = fold_Bool (Option Kind) kind_of_node b
    kind_of-numbered (t.Int n) h = fold_Int (Option Kind) kind_of_node n
    kind_of-numbered (t.Text text) h = fold_Text (Option Kind) kind_of_node text
    kind_of-numbered (t.Start label) h = fold_Start (Option Kind) kind_of_node (number_under members label) ∙ sym (cond-true (list_any (bytes_eq label) labels) (Some Number) None (passed (list_any (bytes_eq label) labels) Number h))
    kind_of-numbered (t.Stop label) h = fold_Stop (Option Kind) kind_of_node (number_under members label) ∙ sym (cond-true (list_any (bytes_eq label) labels) (Some Number) None (passed (list_any (bytes_eq label) labels) Number h))
    kind_of-numbered (t.Key label key) h = fold_Key (Option Kind) kind_of_node (number_under members label) (place_of (keys_under members label) key) ∙ sym (cond-true (list_any (bytes_eq label) labels) (Some Any) None (passed (list_any (bytes_eq label) labels) Any h))
    kind_of-numbered (t.Neg a) h = fold_Neg (Option Kind) kind_of_node (numbered a) ∙ ap kind_of_negated (kind_of-numbered a (negated (kind_of_tree labels a) h))
    kind_of-numbered (t.Not a) h = fold_Not (Option Kind) kind_of_node (numbered a) ∙ ap kind_of_inverted (kind_of-numbered a (inverted (kind_of_tree labels a) h))
    kind_of-numbered (t.Bin op a b) h =
        let each = binary op (kind_of_tree labels a) (kind_of_tree labels b) h in
        fold_Bin (Option Kind) kind_of_node op (numbered a) (numbered b) ∙ (λ i. kind_of_binary op (kind_of-numbered a each.0 i) (kind_of-numbered b each.1 i))

    -- the term of an expression that has a kind has it too
    pub kind_of-term_of : (x : Expr) → IsTrue (is_map_value (kind_of_tree labels (tree x))) → kind_of_term (term_of members x) ≡ kind_of_tree labels (tree x)
    kind_of-term_of x h = ap kind_of_term (term_of-tree x) ∙ kind_of-numbered (tree x) h

-- an expression of a rule whose labels are those of some of the body's atoms
module _ (rules : List Rule) (body : Body) (atoms : List Atom) (found : (label : List ℕ) → list_any (bytes_eq label) (labels_in atoms) ≡ true → IsMember (keys_of_name rules) label atoms (atoms_of body)) where
  abbrev members : List Member
  members = members_of rules body

  abbrev width : Atom → ℕ
  width atom = length (keys_of_name rules atom.name)

  -- the keys that a tree reads from an atom are keys of its name
  abbrev AreKeysKnown : Tree → Type 0
  AreKeysKnown a = (atom : Atom) → Contains (atoms_of body) atom → (key : List ℕ) → Contains (fold_tree (keys_at_node atom.label) a) key → Contains (keys_of_name rules atom.name) key

  is_there : (label : List ℕ) → list_any (bytes_eq label) (labels_in atoms) ≡ true → nat_lt (number_under members label) (length (map width atoms)) ≡ true
  is_there label h = less _ _ _ _ refl (length-map atoms width) (found label h).within

  has_key : (label key : List ℕ) → list_any (bytes_eq label) (labels_in atoms) ≡ true → AreKeysKnown (t.Key label key) → nat_lt (place_of (keys_under members label) key) (slice_index (map width atoms) (number_under members label)) ≡ true
  unfolding keys_at_node
  has_key label key h known =
      let m = found label h in
      let read : Contains (if bytes_eq label m.atom.label then key ∷ [] else []) key = subst (λ b. Contains (cond b (key ∷ []) []) key) (sym (ap (bytes_eq label) (sym m.labelled) ∙ nat_list_eq_equiv.refl label)) (Contains-get_or (key ∷ []) 0 key (omega arith)) in
      less _ _ (place_of (keys_of_name rules m.atom.name) key) (width m.atom) (ap (λ ks. place_of ks key) m.keyed) (get_or-map width atoms (number_under members label) m.atom 0 m.within ∙ ap width (m.at m.atom))
      (place_of-lt (keys_of_name rules m.atom.name) key (known m.atom m.there key read))

  reads-numbered : (a : Tree) → IsTrue (is_map_value (kind_of_tree (labels_in atoms) a)) → AreKeysKnown a → reads_within (map width atoms) (numbered members a) ≡ true
  unfolding reads_within reads_within_node kind_of_tree term_at_node keys_at_node
  reads-numbered (t.Bool b) h known = fold_Bool Bool (reads_within_node (map width atoms)) b
  reads-numbered (t.Int n) h known = fold_Int Bool (reads_within_node (map width atoms)) n
  reads-numbered (t.Text text) h known = fold_Text Bool (reads_within_node (map width atoms)) text
  reads-numbered (t.Start label) h known = fold_Start Bool (reads_within_node (map width atoms)) (number_under members label) ∙ is_there label (passed _ Number h)
  reads-numbered (t.Stop label) h known = fold_Stop Bool (reads_within_node (map width atoms)) (number_under members label) ∙ is_there label (passed _ Number h)
  reads-numbered (t.Key label key) h known = fold_Key Bool (reads_within_node (map width atoms)) (number_under members label) (place_of (keys_under members label) key) ∙ has_key label key (passed _ Any h) known
  reads-numbered (t.Neg a) h known = fold_Neg Bool (reads_within_node (map width atoms)) (numbered members a) ∙ reads-numbered a (negated (kind_of_tree (labels_in atoms) a) h) known
  reads-numbered (t.Not a) h known = fold_Not Bool (reads_within_node (map width atoms)) (numbered members a) ∙ reads-numbered a (inverted (kind_of_tree (labels_in atoms) a) h) known
  reads-numbered (t.Bin op a b) h known =
      let each = binary op (kind_of_tree (labels_in atoms) a) (kind_of_tree (labels_in atoms) b) h in
      let left : AreKeysKnown a = λ atom there key read. known atom there key (Contains-append_left (fold_tree (keys_at_node atom.label) a) (fold_tree (keys_at_node atom.label) b) key read) in
      let right : AreKeysKnown b = λ atom there key read. known atom there key (Contains-append_right (fold_tree (keys_at_node atom.label) a) (fold_tree (keys_at_node atom.label) b) key read) in
      fold_Bin Bool (reads_within_node (map width atoms)) op (numbered members a) (numbered members b) ∙ (λ i. reads-numbered a each.0 left i && reads-numbered b each.1 right i)

  pub IsTermOver-term_of : (plan : Plan) (names : List ℕ) → widths_of_names plan names ≡ map width atoms → (x : Expr) → IsTrue (is_map_value (kind_of_tree (labels_in atoms) (tree x)))
      → operators (tree x) ≤ MOST_OPERATORS → All IsI64 (numbers_in (tree x)) → All IsPlain (texts_in (tree x))
      → ((atom : Atom) → Contains (atoms_of body) atom → (key : List ℕ) → Contains (keys_read atom.label x) key → Contains (keys_of_name rules atom.name) key) → IsTermOver plan names (term_of members x)
  unfolding keys_read
  IsTermOver-term_of plan names widths x kind few numbers plain known =
      let is = term_of-tree members x in
      record {
        reads = (λ i. reads_within (widths i) (is i)) ∙ reads-numbered (tree x) kind (λ atom there key read. known atom there key (subst (λ keys. Contains keys key) (sym (fold_by_tree (keys_at_node atom.label) x)) read));
        few = let count = ap operators_of is ∙ operators_of-numbered members (tree x) in subst (λ n. n ≤ MOST_OPERATORS) (sym count) few;
        numbers = subst (All IsI64) (sym (ap numbers_of is ∙ numbers_of-numbered members (tree x))) numbers;
        plain = subst (All IsPlain) (sym (ap texts_of is ∙ texts_of-numbered members (tree x))) plain;
      }
