use Rattle.std.proofs.Common.{◌≡◌, List, [], ◌∷◌, sym, ap, ◌∙◌}
use Rattle.std.proofs.lemmas.Result.{on_ok_weaker}
use Rattle.nf_core.specs.Trees.{Rule, atoms_of}
use Rattle.nf_core.specs.declared.trees.Atom.{Atom}
use Rattle.nf_core.proofs.CollectedKeyLemmas.{known_atoms, given_by_two, atoms_of-two}
use Rattle.nf_core.proofs.key_places.add_read_keys.Goals as goal

-- the atoms of the rule that is looked at
read_in : (seen rule : Rule) (atoms : List Atom) → seen ≡ rule → atoms_of seen.body ≡ atoms → atoms_of rule.body ≡ atoms
read_in seen rule atoms is e = sym (ap (λ (r : Rule). atoms_of r.body) is) ∙ e

-- src/key_places.rt:94:29
pub add_atom-requires-clause-known : goal.add_atom-requires-clause-known
add_atom-requires-clause-known c =
    (known_atoms c.args.names.now c.args.rule.now (c.in-One.first ∷ []) (read_in _ _ _ c.rule.view_is (ap atoms_of c.in-One.is)) c.requires.known).0

-- src/key_places.rt:96:13
pub add_atom-requires-in-Pair-clause-known : goal.add_atom-requires-in-Pair-clause-known
add_atom-requires-in-Pair-clause-known c =
    (known_atoms c.args.names.now c.args.rule.now (c.in-Pair.first ∷ c.in-Pair.second ∷ []) (read_in _ _ _ c.rule.view_is (atoms_of-two _ _ _ c.in-Pair.is)) c.requires.known).0

-- src/key_places.rt:97:13
pub add_atom-requires-in-Pair-2-clause-known : goal.add_atom-requires-in-Pair-2-clause-known
add_atom-requires-in-Pair-2-clause-known c =
    (known_atoms c.args.names.now c.args.rule.now (c.in-Pair.first ∷ c.in-Pair.second ∷ []) (read_in _ _ _ c.rule.view_is (atoms_of-two _ _ _ c.in-Pair.is)) c.requires.known).1.0

-- src/key_places.rt:81:1
pub returns-in_ok-add_atom-in-Pair : goal.returns-in_ok-add_atom-in-Pair
returns-in_ok-add_atom-in-Pair c =
    on_ok_weaker c.add_atom-in-Pair-2.result
    (given_by_two c.args.names.now c.args.rule.now c.in-Pair.first c.in-Pair.second c.args.keys.now c.add_atom-in-Pair.new.keys c.add_atom-in-Pair-2.new.keys (read_in _ _ _ c.rule.view_is (atoms_of-two _ _ _ c.in-Pair.is)) c.in_ok-add_atom-in-Pair.ensures)
    c.add_atom-in-Pair-2.ensures
