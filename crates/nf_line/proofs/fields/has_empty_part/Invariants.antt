use Rattle.std.proofs.Common.{◌≡◌, drop}
use Rattle.std.specs.List.{list_any}
use Rattle.nf_text.specs.Fields.{fields_of}
use Rattle.nf_line.specs.Lines.{is_empty}
use Rattle.nf_line.specs.inner.FieldTexts.{has_empty}
use Rattle.nf_line.proofs.fields.has_empty_part.Given as goal

abbrev pub invariant-loop-byte : goal.invariant-loop-byte
invariant-loop-byte l =
    list_any is_empty (fields_of 59 l.bytes) ≡ has_empty l.behind_mark (fields_of 59 (drop l.byte-index l.bytes))
