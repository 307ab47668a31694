use Rattle.std.proofs.Common.{◌≡◌, ◌<◌, Bool, true, false, Option, Some, None, bytes_eq, decimal, sym, ◌∙◌, subst, arith, rules}
use Rattle.std.specs.Result.{result_ok}
use Rattle.std.proofs.lemmas.Slice.Eq.{bytes_eq-Decides}
use Rattle.nfer_cli.proofs.CountLemmas.{IsCount, count_none, count_read, most_is}
use Rattle.nfer_cli.proofs.line_count.parse_lines.Goals as goal
use Rattle.nfer_cli.proofs.line_count.parse_lines.Goals.{then-lines-eq0-via-then-lines-eq0, then-lines-eq0-via-else-lines-eq0+then-lines-gt-MOST_DRILL_LINES, then-lines-eq0-via-else-lines-eq0+else-lines-gt-MOST_DRILL_LINES+then-not-is_decimal_of}

pub returns-in_err-lines : goal.returns-in_err-lines
returns-in_err-lines c =
    let unread : result_ok c.parse.result ≡ None = search rules in
    let none = count_none c.args.word.now c.parse.result c.parse.ensures.value.0 (λ lines read count. let same : None ≡ Some lines = sym unread ∙ read in cc) in
    let is : c.from_residual.result ≡ None = search rules in
    is ∙ sym none

pub returns-then-lines-eq0 : goal.returns-then-lines-eq0
returns-then-lines-eq0 c =
    let read : result_ok c.parse.result ≡ Some c.in_ok-lines.lines = search rules in
    let never : IsCount c.args.word.now c.in_ok-lines.lines → ⊥ = λ count. elim c.then-lines-eq0.branch [
      | then-lines-eq0-via-then-lines-eq0 w ↦ omega (arith, w.if-lines-eq0.true, count.some)
      | then-lines-eq0-via-else-lines-eq0+then-lines-gt-MOST_DRILL_LINES w ↦ omega (arith, w.if-lines-gt-MOST_DRILL_LINES.true, count.few, most_is)
      | then-lines-eq0-via-else-lines-eq0+else-lines-gt-MOST_DRILL_LINES+then-not-is_decimal_of w ↦
          let differs : bytes_eq (decimal c.in_ok-lines.lines) c.args.word.now ≡ false = search rules in
          let same : bytes_eq (decimal c.in_ok-lines.lines) c.args.word.now ≡ true = (bytes_eq-Decides (decimal c.in_ok-lines.lines) c.args.word.now).1 (sym count.spelled) in
          cc
    ] in
    sym (count_none c.args.word.now c.parse.result c.parse.ensures.value.0 (λ lines is count.
    let some : Some lines ≡ Some c.in_ok-lines.lines = sym is ∙ read in
    let same : lines ≡ c.in_ok-lines.lines = cc in
    never (subst (λ n. IsCount c.args.word.now n) same count)))

pub returns : goal.returns
returns c =
    let same : bytes_eq (decimal c.in_ok-lines.lines) c.args.word.now ≡ true = search rules in
    sym (count_read c.args.word.now c.in_ok-lines.lines (record {
      some = omega (arith, c.if-lines-eq0.false);
      few = omega (arith, c.if-lines-gt-MOST_DRILL_LINES.false, most_is);
      spelled = sym ((bytes_eq-Decides (decimal c.in_ok-lines.lines) c.args.word.now).0 same);
    }))
