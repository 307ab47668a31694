use Rattle.std.proofs.Common.{ap, ◌∙◌, take, drop}
use Rattle.nf_cparse.proofs.ValueLemmas.{AreDigitsOf, literal_digits}
use Rattle.nf_cparse.proofs.literals.digits_of.Goals as goal

found : (c : goal.After-digits-1) → AreDigitsOf c.args.text.now c.split_at-3.result.0.now
found c = literal_digits c.args.text.now c.split_at.result.1.now c.split_at-2.result.1.now c.split_at-3.result.0.now c.requires
    c.split_at.ensures.back
    (c.split_at-2.ensures.back ∙ ap (λ n. drop n c.split_at.result.1.now) c.others_len.ensures.len)
    (c.split_at-3.ensures.front ∙ ap (λ n. take n c.split_at-2.result.1.now) c.digits_len.ensures.len)

pub returns-clause-value : goal.returns-clause-value
returns-clause-value c = (found c).value

pub returns-clause-digits : goal.returns-clause-digits
returns-clause-digits c = (found c).all

pub returns-clause-some : goal.returns-clause-some
returns-clause-some c = (found c).some

pub returns-clause-small : goal.returns-clause-small
returns-clause-small c = (found c).small
