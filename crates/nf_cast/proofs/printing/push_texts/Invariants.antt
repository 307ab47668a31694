use Rattle.std.proofs.Common.{◌≡◌, ◌++◌, take}
use Rattle.std.specs.Prelude.{flat_map}
use Rattle.nf_cast.specs.Text.{text_line}
use Rattle.nf_cast.proofs.printing.push_texts.Given as goal

abbrev pub invariant-loop-text : goal.invariant-loop-text
invariant-loop-text l = l.lines ≡ l.initial.lines ++ flat_map text_line (take l.text-index l.texts)
