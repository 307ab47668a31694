-- What the words, the items and the rules answer is the answer to the source.
use Rattle.std.proofs.Common.{◌≡◌, ◌+◌, map, Ok, Err, sym, ap, subst, ◌∙◌}
use Rattle.nf_grammar.specs.Places.{Answers}
use Rattle.nf_cast.specs.Placed.{strip_item}
use Rattle.nf_cast.specs.Program.{program_from, needs_of, IsSpelled, KeepsLimits}
use Rattle.nf_cast.specs.Rules.{breach_of}
use Rattle.nf_cparse.specs.Grammar.{c_text_grammar}
use Rattle.nf_cparse.specs.Reading.{limits, last_line, fault_at}
use Rattle.nf_cparse.proofs.SourceLemmas.{OrNoMemory, refused_answer, broken_answer, program_answer, can_be_written}
use Rattle.nf_cparse.proofs.reading.program_of.Goals as goal

pub returns-in-Err-At : goal.returns-in-Err-At
returns-in-Err-At c =
    let source = c.args.source.now in
    let words = c.args.words in
    let at = c.in-Err-At.at in
    let answers = subst (λ ws. Answers c_text_grammar limits ws (Err at)) c.again.ensures (c.in-Err-At.ensures.refused at (ap Err c.in-Err-At.field-0-is)) in
    let last : 1 + c.newlines-last.result ≡ last_line source = ap (λ n. 1 + n) c.newlines-last.ensures.count in
    let is : c.fault_at.result ≡ fault_at (last_line source) words at = c.fault_at.ensures ∙ ap (λ a. fault_at (1 + c.newlines-last.result) words a) c.in-Err-At.at-is ∙ ap (λ n. fault_at n words at) last in
    subst (λ f. OrNoMemory source (Err f)) (sym is)
    (refused_answer source c.args.manifest words c.requires at answers)

pub of_text-requires-clause-spelled : goal.of_text-requires-clause-spelled
of_text-requires-clause-spelled c =
    let answers = subst (λ ws. Answers c_text_grammar limits ws (Ok c.in-Ok.items)) c.again.ensures c.in-Ok.ensures.items in
    subst (λ xs. IsSpelled (map strip_item xs)) (sym c.as_slice-in-None.ensures)
    (can_be_written c.args.source.now c.args.manifest c.args.words c.requires c.in-Ok.items answers).spelled

pub of_text-requires-clause-limits : goal.of_text-requires-clause-limits
of_text-requires-clause-limits c =
    let answers = subst (λ ws. Answers c_text_grammar limits ws (Ok c.in-Ok.items)) c.again.ensures c.in-Ok.ensures.items in
    subst (λ xs. KeepsLimits (map strip_item xs)) (sym c.as_slice-in-None.ensures)
    (can_be_written c.args.source.now c.args.manifest c.args.words c.requires c.in-Ok.items answers).limits

pub returns-in-Some : goal.returns-in-Some
returns-in-Some c =
    let source = c.args.source.now in
    let m = c.args.manifest in
    let items = c.in-Ok.items in
    let answers = subst (λ ws. Answers c_text_grammar limits ws (Ok items)) c.again.ensures c.in-Ok.ensures.items in
    let last : 1 + c.newlines-last.result ≡ last_line source = ap (λ n. 1 + n) c.newlines-last.ensures.count in
    let asked = c.in_ok-breach.ensures ∙ ap (λ n. breach_of n (1 + c.newlines-last.result) c.as_slice.result.now) c.needs_of.ensures
    ∙ ap (λ n. breach_of (needs_of m) n c.as_slice.result.now) last ∙ ap (breach_of (needs_of m) (last_line source)) c.as_slice.ensures in
    broken_answer source m c.args.words c.requires items answers c.in-Some.breach (sym asked ∙ c.in-Some.is)

pub returns-in_ok-of_text-in-None : goal.returns-in_ok-of_text-in-None
returns-in_ok-of_text-in-None c =
    let source = c.args.source.now in
    let m = c.args.manifest in
    let items = c.in-Ok.items in
    let answers = subst (λ ws. Answers c_text_grammar limits ws (Ok items)) c.again.ensures c.in-Ok.ensures.items in
    let last : 1 + c.newlines-last.result ≡ last_line source = ap (λ n. 1 + n) c.newlines-last.ensures.count in
    let asked = c.in_ok-breach.ensures ∙ ap (λ n. breach_of n (1 + c.newlines-last.result) c.as_slice.result.now) c.needs_of.ensures
    ∙ ap (λ n. breach_of (needs_of m) n c.as_slice.result.now) last ∙ ap (breach_of (needs_of m) (last_line source)) c.as_slice.ensures in
    subst (λ p. OrNoMemory source (Ok p)) (sym (c.in_ok-of_text-in-None.ensures ∙ ap (λ xs. program_from m (map strip_item xs)) c.as_slice-in-None.ensures))
    (program_answer source m c.args.words c.requires items answers (sym asked ∙ c.in-None.is))
