use Rattle.std.proofs.Common.{◌≡◌, inr, ap, sym, ◌∙◌, subst, Ok, Err}
use Rattle.nf_core.specs.declared.limits.TheConstants.{MOST_OPERATORS}
use Rattle.nf_grammar.specs.State.{state}
use Rattle.nf_parse.specs.State.{words_of}
use Rattle.nf_parse.specs.inner.FileReading.{outcome_of, halted_at}
use Rattle.nf_parse.proofs.LimitLemmas.{IsByParts}
use Rattle.nf_parse.proofs.SourceModuleLemmas.{IsWrittenToken, reads_source, given_written, given_few}
use Rattle.nf_parse.proofs.AnswerLemmas.{OrNoMemory, modules_answer, stop_answer}
use Rattle.nf_parse.proofs.parsing.modules_of.Goals as goal

pub returns-in-Ok : goal.returns-in-Ok
returns-in-Ok c =
    let source = c.args.source.now in
    let tokens = c.args.tokens.now in
    let at : c.new-reader.result ≡ state MOST_OPERATORS (words_of source tokens) = c.new-reader.ensures ∙ ap (λ found. state MOST_OPERATORS (words_of source found)) c.as_slice-tokens.ensures in
    let read : outcome_of source tokens ≡ Ok (c.in-Ok.modules, c.file.new.reader) =
    reads_source source tokens c.new-reader.result c.file.new.reader at c.file.result c.file.ensures.reads (Ok c.in-Ok.modules) c.in-Ok.is in
    let law = c.trees_by_parts.ensures in
    let parts : IsByParts = record { truth = law.truth; number = law.number; text = law.text; start = law.start; stop = law.stop; key = law.key; minus = law.minus; inverted = law.inverted; binary = law.binary } in
    let words : IsWrittenToken = record { identifier = c.tokens_are_written.ensures.identifier; text = c.tokens_are_written.ensures.text } in
    record {
      parses = inr (modules_answer source tokens c.requires.divides c.in-Ok.modules c.file.new.reader read);
      written = given_written parts words source tokens c.requires.each c.in-Ok.modules c.file.new.reader read;
      few = given_few source tokens c.requires.laid_out c.in-Ok.modules c.file.new.reader read;
    }

pub returns-in-Err-clause-parses : goal.returns-in-Err-clause-parses
returns-in-Err-clause-parses c =
    let source = c.args.source.now in
    let tokens = c.args.tokens.now in
    let at : c.new-reader.result ≡ state MOST_OPERATORS (words_of source tokens) = c.new-reader.ensures ∙ ap (λ found. state MOST_OPERATORS (words_of source found)) c.as_slice-tokens.ensures in
    let is : c.halted_at.result ≡ halted_at source tokens c.in-Err.halt = c.halted_at.ensures ∙ ap (λ found. halted_at source found c.in-Err.halt) c.as_slice-tokens.ensures in
    subst (λ fault. OrNoMemory source (Err fault)) (sym is)
    (stop_answer source tokens c.requires.divides c.in-Err.halt c.file.new.reader
    (reads_source source tokens c.new-reader.result c.file.new.reader at c.file.result c.file.ensures.reads (Err c.in-Err.halt) c.in-Err.is))
