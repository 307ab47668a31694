-- The labels of a body by the atoms at its places.
use Rattle.std.proofs.Common.{◌≡◌, ℕ, Bool, ◌||◌, true, false, List, [], ◌∷◌, map, take, bytes_eq, Some, slice_get, refl, sym, ap, ◌∙◌, ◌⊎◌, inl, inr}
use Rattle.std.specs.List.{list_any}
use Rattle.nf_core.specs.Trees.{atoms_of}
use Rattle.nf_core.specs.Kinds.{labels_of}
use Rattle.nf_core.specs.declared.trees.Atom.{Atom}
use Rattle.nf_core.specs.declared.trees.Body.{Body}
use Rattle.nf_core.specs.declared.trees.Body.TheVariants as body
use Rattle.nf_core.specs.Texts.{text_eq}
use Rattle.nf_core.specs.declared.operators.Op.{Op}
use Rattle.nf_core.specs.declared.operators.Xop.{Xop}
use Rattle.nf_typing.specs.Faults.{has_same_label}

one_alone : (b : Bool) → (b || false) ≡ b
one_alone true = refl
one_alone false = refl

pub one_label : (b : Body) (first : Atom) → b ≡ body.One first → has_same_label (atoms_of b) ≡ false
one_label b first e = ap (λ c. has_same_label (atoms_of c)) e

-- of two atoms, the second may have the label of the first
two : (b : Bool) → ((b || false) || (false || false)) ≡ b
two true = refl
two false = refl

pub two_labels : (b : Body) (first second : Atom) → ((op : Op) × (b ≡ body.Pair first op second)) ⊎ ((xop : Xop) × (b ≡ body.Unless first xop second))
    → has_same_label (atoms_of b) ≡ text_eq first.label second.label
two_labels b first second (inl pair) = ap (λ c. has_same_label (atoms_of c)) pair.1 ∙ two (text_eq first.label second.label)
two_labels b first second (inr unless) = ap (λ c. has_same_label (atoms_of c)) unless.1 ∙ two (text_eq first.label second.label)

first_of : (atoms : List Atom) (label : List ℕ) (x : Atom) → slice_get atoms 0 ≡ Some x → bytes_eq label x.label ≡ list_any (bytes_eq label) (take 1 (map (λ (atom : Atom). atom.label) atoms))
first_of [] label x e = absurd cc
first_of (a ∷ atoms) label x e = let p : a ≡ x = cc in ap (λ (y : Atom). bytes_eq label y.label) (sym p) ∙ sym (one_alone (bytes_eq label a.label))

pub first_label : (b : Body) (label : List ℕ) (x : Atom) → slice_get (atoms_of b) 0 ≡ Some x → bytes_eq label x.label ≡ list_any (bytes_eq label) (take 1 (labels_of b))
first_label b = first_of (atoms_of b)
