use Rattle.std.proofs.Common.{◌≡◌, Some, true, false, ◌&&◌, sym, ◌∙◌, rules}
use Rattle.nfer_cli.specs.Words.{are_file_words, is_trace_word, no_options, follow_options}
use Rattle.nfer_cli.specs.inner.Options.{given_by, taken}
use Rattle.nfer_cli.proofs.InferWordLemmas.{infer_read, infer_refused, infer_taken}
use Rattle.nfer_cli.proofs.command.parse_infer.Goals as goal
use Rattle.nfer_cli.proofs.command.parse_infer.Goals.{then-not-are_file_words-via-then-not-are_file_words, then-not-are_file_words-via-else-not-are_file_words+then-not-is_trace_word}

pub returns-then-not-are_file_words : goal.returns-then-not-are_file_words
returns-then-not-are_file_words c =
    let options = given_by c.in_ok-options.options in
    let from : Some (options, c.in_ok-options.rest.now) ≡ taken follow_options no_options c.args.words.now = search rules in
    let read = infer_read c.args.words.now c.in_ok-options.rest.now c.in_ok-trace.files.now options c.as_str-trace.result.now from (search rules) in
    let refused : (are_file_words c.in_ok-trace.files.now && is_trace_word c.as_str-trace.result.now) ≡ false = elim c.then-not-are_file_words.branch [
      | then-not-are_file_words-via-then-not-are_file_words w ↦ search rules
      | then-not-are_file_words-via-else-not-are_file_words+then-not-is_trace_word w ↦ search rules
    ] in
    sym (read ∙ infer_refused options c.in_ok-trace.files.now c.as_str-trace.result.now refused)

pub returns : goal.returns
returns c =
    let options = given_by c.in_ok-options.options in
    let from : Some (options, c.in_ok-options.rest.now) ≡ taken follow_options no_options c.args.words.now = search rules in
    let read = infer_read c.args.words.now c.in_ok-options.rest.now c.in_ok-trace.files.now options c.as_str-trace.result.now from (search rules) in
    let taken : (are_file_words c.in_ok-trace.files.now && is_trace_word c.as_str-trace.result.now) ≡ true = search rules in
    sym (read ∙ infer_taken options c.in_ok-trace.files.now c.as_str-trace.result.now taken)
