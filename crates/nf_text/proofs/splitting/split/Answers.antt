use Rattle.std.proofs.Common.{ap, eqb, length, ◌∙◌}
use Rattle.std.specs.List.{join_with_byte}
use Rattle.std.proofs.lemmas.List.Splits.{length-slice_split, join_with_byte-slice_split}
use Rattle.nf_text.proofs.splitting.split.Goals as goal

pub returns-clause-count : goal.returns-clause-count
returns-clause-count c = ap length c.of.ensures ∙ length-slice_split (λ b. eqb b c.args.mark) c.args.text.now

pub returns-clause-joined : goal.returns-clause-joined
returns-clause-joined c = ap (join_with_byte c.args.mark) c.of.ensures ∙ join_with_byte-slice_split c.args.mark c.args.text.now
