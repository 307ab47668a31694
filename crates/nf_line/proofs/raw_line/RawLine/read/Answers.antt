use Rattle.std.proofs.Common.{◌≡◌, sym, Some, int_lt, true}
use Rattle.std.proofs.lemmas.Result.{err_from_is_err_and}
use Rattle.nf_text.specs.Fields.{fields_of}
use Rattle.nf_line.specs.Line.{parts_of, time_in}
use Rattle.nf_line.specs.inner.FieldTexts.{lacks_fields, parts_in, stop_text}
use Rattle.nf_line.proofs.LineLemmas.{time_read, span_read}
use Rattle.nf_line.proofs.raw_line.RawLine.read.Goals as goal

pub returns-in_err-times-clause-line : goal.returns-in_err-times-clause-line
returns-in_err-times-clause-line c =
    let line = c.args.line.now in
    let fields = c.in_ok-fields.fields in
    let is : parts_of (fields_of 124 line) ≡ Some (parts_in fields) = rw c.in_ok-text.ensures.text at c.in_ok-fields.ensures.parts in
    let some : lacks_fields (parts_of (fields_of 124 line)) ≡ _ = rw c.in_ok-text.ensures.text at c.in_ok-fields.ensures.test in
    let fault = err_from_is_err_and c.from_residual-in_err-times.result c.from_residual-in_err-times.ensures.1 in
    rw (fault.1, fault.2, c.in_err-times.ensures.test.1)
    (sym (time_read line c.requires.some fields.name.now fields.start.now (stop_text fields.start.now fields.stop) fields.keys.now fields.values.now c.in_ok-text.ensures.test is some c.in_err-times.ensures.test.0))

pub returns-in_err-test_span-clause-line : goal.returns-in_err-test_span-clause-line
returns-in_err-test_span-clause-line c =
    let line = c.args.line.now in
    let fields = c.in_ok-fields.fields in
    let is : parts_of (fields_of 124 line) ≡ Some (parts_in fields) = rw c.in_ok-text.ensures.text at c.in_ok-fields.ensures.parts in
    let some : lacks_fields (parts_of (fields_of 124 line)) ≡ _ = rw c.in_ok-text.ensures.text at c.in_ok-fields.ensures.test in
    let falls : int_lt (time_in (stop_text fields.start.now fields.stop)) (time_in fields.start.now) ≡ true = rw (c.in_ok-times.ensures.start, c.in_ok-times.ensures.stop) at c.in_err-test_span.ensures.0 in
    let fault = err_from_is_err_and c.from_residual-in_err-test_span.result c.from_residual-in_err-test_span.ensures.1 in
    rw (fault.1, fault.2, c.in_err-test_span.ensures.1)
    (sym (span_read line c.requires.some fields.name.now fields.start.now (stop_text fields.start.now fields.stop) fields.keys.now fields.values.now c.in_ok-text.ensures.test is some c.in_ok-times.ensures.test falls))
