-- The answers come in the order of refusals.
use Rattle.std.proofs.Common.{◌≡◌, ◌+◌, inr, take, count_by, Ok, Err, ap, subst, ◌∙◌}
use Rattle.nf_lex.specs.Bytes.{is_newline}
use Rattle.nf_cparse.specs.declared.fault.CFault.TheVariants as fault
use Rattle.nf_cparse.specs.Lexing.{LexesText, line_behind}
use Rattle.nf_cparse.specs.Reading.{lexical}
use Rattle.nf_cparse.proofs.SourceLemmas.{only_answer, lexed_behind, passed_on, manifest_answer}
use Rattle.nf_cparse.proofs.reading.read_c.Goals as goal

pub returns-in_err-manifest-clause-reads : goal.returns-in_err-manifest-clause-reads
returns-in_err-manifest-clause-reads c =
    let e = c.in_err-manifest.field-0.0 in
    manifest_answer c.args.source.now c.from_residual.result e (passed_on c.from_residual.result e c.from_residual.ensures) c.in_err-manifest.ensures.fault

pub program_of-requires : goal.program_of-requires
program_of-requires c =
    let source = c.args.source.now in
    let place = c.in_ok-manifest.place in
    let line : 1 + c.newlines.result ≡ line_behind 1 (take place source) = ap (λ n. 1 + n) (c.newlines.ensures.count ∙ ap (count_by is_newline) c.split_at.ensures.front) in
    lexed_behind source c.in_ok-manifest.manifest place c.in_ok-manifest.ensures.within c.in_ok-manifest.ensures.found (1 + c.newlines.result) (Ok c.in-Ok.words) line
    (subst (λ bytes. LexesText (1 + c.newlines.result) bytes (Ok c.in-Ok.words)) c.split_at.ensures.back c.in-Ok.ensures.tokens)

pub returns-in-Ok-clause-only : goal.returns-in-Ok-clause-only
returns-in-Ok-clause-only c = only_answer c.args.source.now c.program_of.result c.program_of.ensures

pub returns-in-Err-clause-reads : goal.returns-in-Err-clause-reads
returns-in-Err-clause-reads c =
    let source = c.args.source.now in
    let place = c.in_ok-manifest.place in
    let line : 1 + c.newlines.result ≡ line_behind 1 (take place source) = ap (λ n. 1 + n) (c.newlines.ensures.count ∙ ap (count_by is_newline) c.split_at.ensures.front) in
    inr (lexical (lexed_behind source c.in_ok-manifest.manifest place c.in_ok-manifest.ensures.within c.in_ok-manifest.ensures.found (1 + c.newlines.result) (Err c.in-Err.line) line
    (subst (λ bytes. LexesText (1 + c.newlines.result) bytes (Err c.in-Err.line)) c.split_at.ensures.back c.in-Err.ensures.fault)))

pub returns-in-Err-clause-only : goal.returns-in-Err-clause-only
returns-in-Err-clause-only c =
    let source = c.args.source.now in
    let place = c.in_ok-manifest.place in
    let line : 1 + c.newlines.result ≡ line_behind 1 (take place source) = ap (λ n. 1 + n) (c.newlines.ensures.count ∙ ap (count_by is_newline) c.split_at.ensures.front) in
    only_answer source (Err (fault.Lex c.in-Err.line))
    (inr (lexical (lexed_behind source c.in_ok-manifest.manifest place c.in_ok-manifest.ensures.within c.in_ok-manifest.ensures.found (1 + c.newlines.result) (Err c.in-Err.line) line
    (subst (λ bytes. LexesText (1 + c.newlines.result) bytes (Err c.in-Err.line)) c.split_at.ensures.back c.in-Err.ensures.fault))))
