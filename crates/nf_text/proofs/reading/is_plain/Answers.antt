use Rattle.std.proofs.Common.{◌≡◌, false, not, ap, ◌∙◌, refl, rules}
use Rattle.std.specs.List.{list_any}
use Rattle.nf_text.specs.Value.{is_plain, is_separator}
use Rattle.nf_text.proofs.PlainTextLemmas.{plain_tested, plain_of_words}
use Rattle.nf_text.proofs.reading.is_plain.Goals as goal

pub returns-in-Text-clause-plain : goal.returns-in-Text-clause-plain
returns-in-Text-clause-plain c =
    plain_tested c.args.text.now (not c.has_separator.result)
    (plain_of_words c.args.text.now _ c.has_separator.result c.in-Text.ensures.spelling refl (c.has_separator.ensures ∙ ap (list_any is_separator) c.as_bytes.ensures.value))

pub returns-in_default : goal.returns-in_default
unfolding is_plain
returns-in_default c = let no : false ≡ is_plain c.args.text.now = search rules in record { value = no; plain = plain_tested c.args.text.now false no }
