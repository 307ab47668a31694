use Rattle.std.proofs.Common.{◌≡◌, ◌∷◌, ◌∙◌, sym, refl}
use Rattle.nfer_cli.specs.inner.Options.{given_by, taken, words_by}
use Rattle.nfer_cli.proofs.TakenOptionLemmas.{none_taken, nothing_taken, among_as}
use Rattle.nfer_cli.proofs.options.take_options.Goals as goal

pub returns-then-not-is_among : goal.returns-then-not-is_among
returns-then-not-is_among c =
    let names = words_by c.args.names.now in
    let among = among_as c.in-Some.word.now c.as_str.result.now c.args.names.now c.is_among.result c.as_str.ensures c.is_among.ensures ∙ c.if-not-is_among.true in
    sym (c.options.invariant ∙ rw c.in-Some.ensures.cases.0 (none_taken names (given_by c.options.options) c.in-Some.word.now c.in-Some.others.now among))

pub returns-in_err-more : goal.returns-in_err-more
returns-in_err-more c =
    let names = words_by c.args.names.now in
    let among = among_as c.as_str-in-Some.result.now c.as_str.result.now c.args.names.now c.is_among.result (c.as_str.ensures ∙ sym c.as_str-in-Some.ensures) c.is_among.ensures ∙ c.if-not-is_among.false in
    let first : taken names (given_by c.options.options) c.options.rest.now ≡ taken names (given_by c.options.options) (c.as_str-in-Some.result.now ∷ c.in-Some.others.now) = rw (c.in-Some.ensures.cases.0, c.as_str-in-Some.ensures) refl in
    rw c.from_residual.ensures (sym (c.options.invariant ∙ first ∙ c.in_err-more.ensures.taken names among))

pub options-preserved : goal.options-preserved
options-preserved c =
    let names = words_by c.args.names.now in
    let among = among_as c.as_str-in-Some.result.now c.as_str.result.now c.args.names.now c.is_among.result (c.as_str.ensures ∙ sym c.as_str-in-Some.ensures) c.is_among.ensures ∙ c.if-not-is_among.false in
    let first : taken names (given_by c.options.options) c.options.rest.now ≡ taken names (given_by c.options.options) (c.as_str-in-Some.result.now ∷ c.in-Some.others.now) = rw (c.in-Some.ensures.cases.0, c.as_str-in-Some.ensures) refl in
    c.options.invariant ∙ first ∙ c.in_ok-more.ensures.taken names among

pub returns : goal.returns
returns c = sym (c.options.invariant ∙ nothing_taken (words_by c.args.names.now) (given_by c.options.options) c.options.rest.now c.in_default.ensures.cases)
