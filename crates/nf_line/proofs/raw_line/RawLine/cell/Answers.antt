use Rattle.std.proofs.Common.{ap, sym, ◌∙◌, reverse, bytes_eq}
use Rattle.std.specs.Map.{lookup}
use Rattle.std.specs.Option.{option_copied}
use Rattle.nf_line.proofs.PlainTextLemmas.{found_without_separators}
use Rattle.nf_line.proofs.raw_line.RawLine.cell.Goals as goal

pub value-requires : goal.value-requires
value-requires c =
    let found = sym (c.last_value.ensures ∙ ap (λ pairs. lookup (bytes_eq c.args.key.now) (reverse pairs)) c.of.ensures) ∙ ap option_copied c.in-Some.is in
    (c.plain_texts.ensures.bytes c.in-Some.text.now).0
    (found_without_separators c.args.key.now c.self.inside.keys.now c.self.inside.values.now c.in-Some.text.now c.self.invariant.unmarked found)
