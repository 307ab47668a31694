use Rattle.nf_announce.proofs.SpellingLemmas.{number_read, no_number_read}
use Rattle.nf_announce.proofs.line_parts.read_number.Goals as goal

pub returns-in-Int-clause-some : goal.returns-in-Int-clause-some
returns-in-Int-clause-some c =
    let law = c.printed_numbers_are_read.ensures in
    number_read (record { read = law.read; canonical = law.canonical; within = law.within }) c.args.text.now c.in-Int.number c.in-Int.ensures.spelling

pub returns-in_default : goal.returns-in_default
returns-in_default c =
    let law = c.printed_numbers_are_read.ensures in
    record { some = tt; none = λ e n h. no_number_read (record { read = law.read; canonical = law.canonical; within = law.within }) c.args.text.now c.read_value.result c.in_default.not-Int c.read_value.ensures.spelling n h }
