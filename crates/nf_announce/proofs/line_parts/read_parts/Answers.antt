use Rattle.std.proofs.Common.{refl, sym, subst}
use Rattle.std.specs.Str.{IsUtf8}
use Rattle.nf_announce.proofs.LinePartLemmas.{text_behind, utf8_behind, read_of, wrong_count, no_start, no_stop, not_in_time, parts_read}
use Rattle.nf_announce.proofs.line_parts.read_parts.Goals as goal

pub returns-in_err-text-clause-none : goal.returns-in_err-text-clause-none
returns-in_err-text-clause-none c e other h =
    c.in_err-text.ensures.none refl (subst IsUtf8 (sym (text_behind c.args.line.now c.in_ok-added.added c.in_ok-added.text.now c.in_ok-added.ensures.some other h)) (utf8_behind c.args.line.now other h))

pub returns-in_err-fields-clause-none : goal.returns-in_err-fields-clause-none
returns-in_err-fields-clause-none c e other h =
    wrong_count c.args.line.now c.in_ok-added.added c.in_ok-text.text.now (read_of c.args.line.now c.in_ok-added.added c.in_ok-added.text.now c.in_ok-text.text.now c.in_ok-added.ensures.some c.in_ok-text.ensures.some)
    (c.in_err-fields.ensures.none refl) other h

pub returns-in_err-start-clause-none : goal.returns-in_err-start-clause-none
returns-in_err-start-clause-none c e other h =
    no_start c.args.line.now c.in_ok-added.added c.in_ok-text.text.now (read_of c.args.line.now c.in_ok-added.added c.in_ok-added.text.now c.in_ok-text.text.now c.in_ok-added.ensures.some c.in_ok-text.ensures.some)
    c.in_ok-fields.fields.name.now c.in_ok-fields.fields.start.now c.in_ok-fields.fields.stop.now c.in_ok-fields.fields.keys.now c.in_ok-fields.fields.values.now c.in_ok-fields.ensures.some
    (c.in_err-start.ensures.none refl) other h

pub returns-in_err-stop-clause-none : goal.returns-in_err-stop-clause-none
returns-in_err-stop-clause-none c e other h =
    no_stop c.args.line.now c.in_ok-added.added c.in_ok-text.text.now (read_of c.args.line.now c.in_ok-added.added c.in_ok-added.text.now c.in_ok-text.text.now c.in_ok-added.ensures.some c.in_ok-text.ensures.some)
    c.in_ok-fields.fields.name.now c.in_ok-fields.fields.start.now c.in_ok-fields.fields.stop.now c.in_ok-fields.fields.keys.now c.in_ok-fields.fields.values.now c.in_ok-fields.ensures.some
    (c.in_err-stop.ensures.none refl) other h

pub returns-then-start-stop-clause-none : goal.returns-then-start-stop-clause-none
returns-then-start-stop-clause-none c e other h =
    not_in_time c.args.line.now c.in_ok-added.added c.in_ok-text.text.now (read_of c.args.line.now c.in_ok-added.added c.in_ok-added.text.now c.in_ok-text.text.now c.in_ok-added.ensures.some c.in_ok-text.ensures.some)
    c.in_ok-fields.fields.name.now c.in_ok-fields.fields.start.now c.in_ok-fields.fields.stop.now c.in_ok-fields.fields.keys.now c.in_ok-fields.fields.values.now c.in_ok-fields.ensures.some
    c.in_ok-start.start c.in_ok-stop.stop c.in_ok-start.ensures.some c.in_ok-stop.ensures.some c.if-start-stop.true other h

pub returns-clause-some : goal.returns-clause-some
returns-clause-some c =
    parts_read c.args.line.now c.in_ok-added.added c.in_ok-text.text.now (read_of c.args.line.now c.in_ok-added.added c.in_ok-added.text.now c.in_ok-text.text.now c.in_ok-added.ensures.some c.in_ok-text.ensures.some)
    c.in_ok-fields.fields.name.now c.in_ok-fields.fields.start.now c.in_ok-fields.fields.stop.now c.in_ok-fields.fields.keys.now c.in_ok-fields.fields.values.now c.in_ok-fields.ensures.some
    c.in_ok-start.start c.in_ok-stop.stop c.in_ok-start.ensures.some c.in_ok-stop.ensures.some c.if-start-stop.false
