use Rattle.std.proofs.Common.{◌≡◌, sym, rules}
use Rattle.nf_text.specs.Value.{Words, spelling_of}
use Rattle.nf_text.proofs.PlainTextLemmas.{plain_answer}
use Rattle.nf_text.proofs.reading.read_value.Goals as goal

pub returns-in-None-clause-plain : goal.returns-in-None-clause-plain
unfolding spelling_of
returns-in-None-clause-plain c =
    let e : spelling_of c.args.text.now ≡ Words c.args.text.now = search rules in
    plain_answer c.args.text.now (Words c.args.text.now) (sym e)
