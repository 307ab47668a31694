use Rattle.std.proofs.Common.{refl, inr, ap, drop, ◌∙◌}
use Rattle.nf_cparse.proofs.PartLemmas.{no_line_at}
use Rattle.nf_cparse.proofs.parts.line_at.Goals as goal

pub returns-in-None-clause-err : goal.returns-in-None-clause-err
returns-in-None-clause-err c = inr (refl, no_line_at c.args.bytes.now (λ rest e. c.in-None.ensures rest (c.split_at.ensures.back ∙ ap (λ n. drop n c.args.bytes.now) c.line_len.ensures.len ∙ e)))
