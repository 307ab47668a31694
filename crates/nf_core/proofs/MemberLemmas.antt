-- The member that an expression reads under a label: that of the first atom with the label.
use Rattle.std.proofs.Common.{◌≡◌, ℕ, suc, ◌+◌, ◌<◌, ◌||◌, Bool, true, false, cond, List, [], ◌∷◌, ◌++◌, length, get_or, map, Contains, bytes_eq, refl, sym, ap, ◌∙◌, not, arith}
use Rattle.std.specs.List.{list_any}
use Rattle.std.proofs.lemmas.Bool.{false≢true}
use Rattle.std.proofs.lemmas.List.Elements.{Contains-get_or, Contains-append_right}
use Rattle.nf_core.specs.Trees.{atoms_of}
use Rattle.nf_core.specs.Kinds.{result_labels}
use Rattle.nf_core.specs.Written.{Member, member_by, number_under, keys_under}
use Rattle.nf_core.specs.declared.trees.Atom.{Atom}
use Rattle.nf_core.specs.declared.trees.Body.{Body}
use Rattle.nf_core.specs.declared.trees.Body.TheVariants as body
use Rattle.nf_core.proofs.Public.EachOnceLemmas.{same}

-- the labels of some atoms
abbrev pub labels_in : List Atom → List (List ℕ)
labels_in atoms = map (λ (atom : Atom). atom.label) atoms

module _ (keys : List ℕ → List (List ℕ)) (label : List ℕ) where
  -- some atoms as members
  abbrev pub members : List Atom → List Member
  members atoms = map (member_by keys) atoms

  -- one of the first atoms has the label: its number leads to it, and the keys under the label are those of its name
  pub record IsMember (firsts all : List Atom) : Type 0 where
    pub atom : Atom
    pub there : Contains all atom
    pub labelled : label ≡ atom.label
    pub within : number_under (members all) label < length firsts
    pub at : (d : Atom) → get_or firsts (number_under (members all) label) d ≡ atom
    pub keyed : keys_under (members all) label ≡ keys atom.name

  pub is_member : (firsts rest : List Atom) → list_any (bytes_eq label) (labels_in firsts) ≡ true → IsMember firsts (firsts ++ rest)
  is_member [] rest found = absurd (false≢true found)
  is_member (x ∷ xs) rest found = by (bytes_eq label x.label) refl (is_member xs rest)
    where
      by : (b : Bool) → bytes_eq label x.label ≡ b → (list_any (bytes_eq label) (labels_in xs) ≡ true → IsMember xs (xs ++ rest)) → IsMember (x ∷ xs) (x ∷ xs ++ rest)
      by true e more =
          let here : number_under (members (x ∷ xs ++ rest)) label ≡ 0 = ap (λ b. cond (not b) (1 + number_under (members (xs ++ rest)) label) 0) e in
          record {
            atom = x;
            there = Contains-get_or (x ∷ xs ++ rest) 0 x (omega arith);
            labelled = same label x.label e;
            within = omega (arith, here);
            at = λ d. ap (λ n. get_or (x ∷ xs) n d) here;
            keyed = ap (λ b. cond b (keys x.name) (keys_under (members (xs ++ rest)) label)) e;
          }
      by false e more =
          let next : number_under (members (x ∷ xs ++ rest)) label ≡ suc (number_under (members (xs ++ rest)) label) = ap (λ b. cond (not b) (1 + number_under (members (xs ++ rest)) label) 0) e ∙ omega arith in
          let m = more (sym (ap (λ b. b || list_any (bytes_eq label) (labels_in xs)) e) ∙ found) in
          record {
            atom = m.atom;
            there = Contains-append_right (x ∷ []) (xs ++ rest) m.atom m.there;
            labelled = m.labelled;
            within = omega (arith, next, m.within);
            at = λ d. ap (λ n. get_or (x ∷ xs) n d) next ∙ m.at d;
            keyed = ap (λ b. cond b (keys x.name) (keys_under (members (xs ++ rest)) label)) e ∙ m.keyed;
          }

-- the atoms whose members a rule's result is made of
abbrev pub result_atoms : Body → List Atom
result_atoms (body.One first) = first ∷ []
result_atoms (body.Pair first op second) = first ∷ second ∷ []
result_atoms (body.Unless first xop second) = first ∷ []

pub result_labels_are : (b : Body) → result_labels b ≡ labels_in (result_atoms b)
result_labels_are (body.One first) = refl
result_labels_are (body.Pair first op second) = refl
result_labels_are (body.Unless first xop second) = refl

module _ (keys : List ℕ → List (List ℕ)) (label : List ℕ) where
  -- each label of a body is that of a member
  pub member_of_body : (b : Body) → list_any (bytes_eq label) (labels_in (atoms_of b)) ≡ true → IsMember keys label (atoms_of b) (atoms_of b)
  member_of_body (body.One first) found = is_member keys label (first ∷ []) [] found
  member_of_body (body.Pair first op second) found = is_member keys label (first ∷ second ∷ []) [] found
  member_of_body (body.Unless first xop second) found = is_member keys label (first ∷ second ∷ []) [] found

  -- and each label that the result may read
  pub member_of_result : (b : Body) → list_any (bytes_eq label) (labels_in (result_atoms b)) ≡ true → IsMember keys label (result_atoms b) (atoms_of b)
  member_of_result (body.One first) found = is_member keys label (first ∷ []) [] found
  member_of_result (body.Pair first op second) found = is_member keys label (first ∷ second ∷ []) [] found
  member_of_result (body.Unless first xop second) found = is_member keys label (first ∷ []) (second ∷ []) found
