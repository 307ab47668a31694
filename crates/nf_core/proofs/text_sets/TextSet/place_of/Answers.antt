use Rattle.std.proofs.Common.{unwrap_or, bytes_eq, ◌∙◌}
use Rattle.nf_lemmas.proofs.MapLemmas.{position-or_len}
use Rattle.nf_core.proofs.text_sets.TextSet.place_of.Goals as goal

pub returns-clause-place : goal.returns-clause-place
returns-clause-place c =
    c.unwrap_or.ensures ∙ (λ i. unwrap_or (c.find.ensures i) (c.len.ensures i)) ∙ position-or_len (bytes_eq c.args.text.now) c.args.self.now
