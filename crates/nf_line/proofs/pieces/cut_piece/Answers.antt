use Rattle.std.proofs.Common.{sym, ◌∙◌, eqb}
use Rattle.nf_line.proofs.LineFeedLemmas.{any_found, none_found}
use Rattle.nf_line.proofs.pieces.cut_piece.Goals as goal

pub returns-in-Some-clause-has_feed : goal.returns-in-Some-clause-has_feed
returns-in-Some-clause-has_feed c = sym (any_found (λ b. eqb b 10) c.args.piece.now c.in-Some.place 0 (sym c.feed_place.ensures ∙ c.in-Some.is))

pub returns-in-None-clause-has_feed : goal.returns-in-None-clause-has_feed
returns-in-None-clause-has_feed c = sym (none_found (λ b. eqb b 10) c.args.piece.now (sym c.feed_place.ensures ∙ c.in-None.is))

pub returns-in-None-clause-none : goal.returns-in-None-clause-none
returns-in-None-clause-none c = none_found (λ b. eqb b 10) c.args.piece.now (sym c.feed_place.ensures ∙ c.in-None.is)
