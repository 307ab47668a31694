use Rattle.std.proofs.Common.{◌≡◌, fold, map, take}
use Rattle.std.specs.BTreeSet.{insert_key}
use Rattle.nf_core.specs.Texts.{text_cmp}
use Rattle.nf_core.specs.declared.trees.Entry.{Entry}
use Rattle.nf_core.proofs.key_places.add_mapped.Given as goal

-- the keys of the entries so far are in
abbrev pub invariant-loop-entry : goal.invariant-loop-entry
invariant-loop-entry l = l.keys ≡ fold (insert_key text_cmp) l.fn.keys (map (λ (entry : Entry). entry.key) (take l.entry-index l.entry-items))
