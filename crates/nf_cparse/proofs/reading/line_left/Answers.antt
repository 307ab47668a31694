-- The words before the place were gone past.
use Rattle.std.proofs.Common.{◌<◌, ◌≤◌, length, sym, ap, ◌∙◌, arith}
use Rattle.nf_grammar.specs.State.{next_of}
use Rattle.nf_cparse.specs.Lexing.{word_at}
use Rattle.nf_cparse.specs.Reading.{line_of}
use Rattle.nf_cparse.proofs.SourceLemmas.{past_next, past_all}
use Rattle.nf_cparse.proofs.reading.line_left.Goals as goal

pub words-preserved : goal.words-preserved
words-preserved c =
    let l : c.args.left < length c.words.words = omega (arith, c.words-test.true, c.left.ensures.count) in
    past_next (λ token. word_at token.sym token.text.now token.line) c.next.result c.args.words c.args.left c.words.words c.next.new.self c.words.invariant l c.next.ensures.next

pub returns-in-Some : goal.returns-in-Some
returns-in-Some c =
    let l : length c.words.words ≤ c.args.left = omega (arith, c.words-test.false, c.left.ensures.count) in
    ap (line_of c.args.last) (sym (ap next_of c.in-Some.ensures.next) ∙ past_all c.args.words c.args.left c.words.words c.words.invariant l)

pub returns-in-None : goal.returns-in-None
returns-in-None c =
    let l : length c.words.words ≤ c.args.left = omega (arith, c.words-test.false, c.left.ensures.count) in
    ap (line_of c.args.last) (sym (ap next_of c.in-None.ensures.next.0) ∙ past_all c.args.words c.args.left c.words.words c.words.invariant l)
