-- The keys that a rule reads from an atom, and those that it maps, are keys of the atom's name and of the head.
use Rattle.std.proofs.Common.{ℕ, List, [], ◌++◌, map, flat_map, cond, Contains, bytes_eq, sym, subst, if◌then◌else◌}
use Rattle.std.specs.Cmp.Lexicographic.{nat_list_eq_equiv}
use Rattle.std.proofs.lemmas.List.Elements.{Contains-append_left, Contains-append_right}
use Rattle.nf_lemmas.proofs.ListLemmas.{Contains-flat_map, Contains-map}
use Rattle.nf_core.specs.Trees.{atoms_of, expressions_of}
use Rattle.nf_core.specs.Written.{keys_read, keys_read_in, keys_mapped_in, keys_of_name}
use Rattle.nf_core.specs.declared.trees.Atom.{Atom}
use Rattle.nf_core.specs.declared.trees.Entry.{Entry}
use Rattle.nf_core.specs.declared.trees.Expr.{Expr}
use Rattle.nf_core.specs.declared.trees.Rule.{Rule}
use Rattle.nf_core.proofs.InsertionLemmas.{Contains-ascending}

Contains-passed : {A : Type 0} (text : List ℕ) (xs : List A) (x : A) → Contains xs x → Contains (if bytes_eq text text then xs else []) x
Contains-passed text xs x there = subst (λ b. Contains (cond b xs []) x) (sym (nat_list_eq_equiv.refl text)) there

module _ (rules : List Rule) (rule : Rule) (there : Contains rules rule) where
  pub Contains-key_read : (x : Expr) → Contains (expressions_of rule) x → (atom : Atom) → Contains (atoms_of rule.body) atom → (key : List ℕ) → Contains (keys_read atom.label x) key → Contains (keys_of_name rules atom.name) key
  Contains-key_read x of_rule atom in_body key read =
      let keys : Contains (keys_read_in atom.name rule atom) key = Contains-passed atom.name (flat_map (keys_read atom.label) (expressions_of rule)) key (Contains-flat_map (keys_read atom.label) (expressions_of rule) x key of_rule read) in
      let both : Contains (flat_map (keys_read_in atom.name rule) (atoms_of rule.body) ++ keys_mapped_in atom.name rule) key = Contains-append_left (flat_map (keys_read_in atom.name rule) (atoms_of rule.body)) (keys_mapped_in atom.name rule) key (Contains-flat_map (keys_read_in atom.name rule) (atoms_of rule.body) atom key in_body keys) in
      Contains-ascending _ key (Contains-flat_map (λ (r : Rule). flat_map (keys_read_in atom.name r) (atoms_of r.body) ++ keys_mapped_in atom.name r) rules rule key there both)

  pub Contains-key_mapped : (entry : Entry) → Contains rule.entries entry → Contains (keys_of_name rules rule.head) entry.key
  Contains-key_mapped entry of_rule =
      let keys : Contains (keys_mapped_in rule.head rule) entry.key = Contains-passed rule.head (map (λ (e : Entry). e.key) rule.entries) entry.key (Contains-map (λ (e : Entry). e.key) rule.entries entry of_rule) in
      let both : Contains (flat_map (keys_read_in rule.head rule) (atoms_of rule.body) ++ keys_mapped_in rule.head rule) entry.key = Contains-append_right (flat_map (keys_read_in rule.head rule) (atoms_of rule.body)) (keys_mapped_in rule.head rule) entry.key keys in
      Contains-ascending _ entry.key (Contains-flat_map (λ (r : Rule). flat_map (keys_read_in rule.head r) (atoms_of r.body) ++ keys_mapped_in rule.head r) rules rule entry.key there both)
