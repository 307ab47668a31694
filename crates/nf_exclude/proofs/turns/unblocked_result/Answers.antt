use Rattle.std.proofs.Common.{◌≡◌, sym, ap, ◌∙◌, None, option_to_list, arith}
use Rattle.std.proofs.lemmas.Result.{IfOk-weaker}
use Rattle.nf_model.specs.Results.{built_from}
use Rattle.nf_tally.specs.Numbers.{number, often}
use Rattle.nf_exclude.specs.inner.Turns.{worth}
use Rattle.nf_exclude.proofs.TurnLemmas.{worth_blocked, worth_free}
use Rattle.nf_exclude.proofs.turns.unblocked_result.Goals as goal

pub returns-then-number-gt0-clause-value : goal.returns-then-number-gt0-clause-value
returns-then-number-gt0-clause-value g c = λ q. sym (worth_blocked c.args.rule.now (number c.args.blockers.now) q c.args.first.now (omega arith))

pub returns-clause-value : goal.returns-clause-value
returns-clause-value g c =
    IfOk-weaker c.build.result (λ r. r ≡ built_from c.args.rule.now c.args.first.now None)
    (λ r. (q : _) → often (option_to_list r) q ≡ worth c.args.rule.now (number c.args.blockers.now) q c.args.first.now)
    (λ r built q. ap (λ o. often (option_to_list o) q) built ∙ sym (worth_free c.args.rule.now (number c.args.blockers.now) q c.args.first.now (omega arith)))
    c.build.ensures.value
