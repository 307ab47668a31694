use Rattle.std.proofs.Common.{refl, sym}
use Rattle.nf_line.proofs.rows.value.Goals as goal

pub returns-in_ok-new-in-Text-clause-plain : goal.returns-in_ok-new-in-Text-clause-plain
returns-in_ok-new-in-Text-clause-plain c =
    let same = c.spellings_are_apart.ensures.words c.args.text.now c.in-Text.text.now (sym c.in-Text.ensures.spelling) in
    rw (c.in_ok-new-in-Text.ensures, same) (c.in-Text.ensures.plain c.requires refl)
