use Rattle.std.proofs.Common.{sym, subst, ◌∙◌, true≢false, rules}
use Rattle.nf_core.specs.Texts.{IsPlain}
use Rattle.nf_announce.proofs.SpellingLemmas.{truth_read, whole_read, no_value}
use Rattle.nf_announce.proofs.row_texts.read_cell.Goals as goal

pub returns-in-Bool-clause-some : goal.returns-in-Bool-clause-some
returns-in-Bool-clause-some c =
    let law = c.spellings_are_apart.ensures in
    truth_read (record { truth = law.truth; falsehood = law.falsehood; words = law.words }) c.args.text.now c.in-Bool.truth c.in-Bool.ensures.spelling

pub returns-in-Int-clause-some : goal.returns-in-Int-clause-some
returns-in-Int-clause-some c =
    let law = c.printed_numbers_are_read.ensures in
    whole_read (record { read = law.read; canonical = law.canonical; within = law.within }) c.args.text.now c.in-Int.number c.in-Int.ensures.spelling

pub returns-in_ok-new-in-Text-clause-some : goal.returns-in_ok-new-in-Text-clause-some
returns-in_ok-new-in-Text-clause-some c =
    let copied = c.in_ok-new-in-Text.ensures in
    let plain = c.is_plain.ensures.plain.0 (search rules) in
    record {
      proper = subst IsPlain (sym copied) plain;
      text_is = copied ∙ c.spellings_are_apart.ensures.words c.args.text.now c.in-Text.text.now (sym c.in-Text.ensures.spelling);
    }

pub returns-then-not-is_plain-clause-none : goal.returns-then-not-is_plain-clause-none
returns-then-not-is_plain-clause-none c e x h =
    let law = c.printed_numbers_are_read.ensures in
    let same = c.spellings_are_apart.ensures.words c.args.text.now c.in-Text.text.now (sym c.in-Text.ensures.spelling) in
    no_value (record { read = law.read; canonical = law.canonical; within = law.within }) c.args.text.now c.in-Text.text.now c.in-Text.ensures.spelling same
    (λ plain. true≢false (sym (c.is_plain.ensures.plain.1 plain) ∙ c.if-not-is_plain.true)) x h
