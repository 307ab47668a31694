use Rattle.std.proofs.Common.{ap, map, not, ◌∙◌, ℕ, List}
use Rattle.nf_cparse.proofs.DistinctLemmas.{not_in_texts, texts_in_more}
use denote.Ref.{Bor}
use Rattle.nf_cparse.proofs.distinct.add.Goals as goal

pub returns-clause-texts : goal.returns-clause-texts
returns-clause-texts c = ap (map (λ (key : Bor (List ℕ)). key.now)) c.in_ok-insert.ensures.keys ∙ texts_in_more c.args.seen.now.keys c.args.text

pub returns-clause-added : goal.returns-clause-added
returns-clause-added c = c.in_ok-insert.ensures.added ∙ ap not (not_in_texts c.args.seen.now.keys c.args.text)
