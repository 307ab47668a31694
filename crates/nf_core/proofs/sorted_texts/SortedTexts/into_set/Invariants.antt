use Rattle.std.proofs.Common.{◌≡◌}
use Rattle.indexmap.specs.IndexSet.{insert_all}
use Rattle.nf_core.specs.Texts.{text_eq}
use Rattle.nf_core.specs.Written.{each_once}
use Rattle.nf_core.proofs.sorted_texts.SortedTexts.into_set.Given as goal

-- the texts that are left, put in, make the set
abbrev pub invariant-loop-text : goal.invariant-loop-text
invariant-loop-text l = insert_all text_eq l.set l.text-iterator ≡ each_once l.fn.self
