use Rattle.std.proofs.Common.{◌≡◌, fold, flat_map, map, take}
use Rattle.std.specs.BTreeSet.{insert_key}
use Rattle.nf_core.specs.Texts.{text_cmp}
use Rattle.nf_core.specs.Written.{keys_read}
use Rattle.nf_core.specs.declared.trees.Entry.{Entry}
use Rattle.nf_core.proofs.key_places.add_reads_of_map.Given as goal

-- the keys that the values so far read are in
abbrev pub invariant-loop-entry : goal.invariant-loop-entry
invariant-loop-entry l = l.keys ≡ fold (insert_key text_cmp) l.fn.keys (flat_map (keys_read l.label) (map (λ (entry : Entry). entry.value) (take l.entry-index l.entry-items)))
