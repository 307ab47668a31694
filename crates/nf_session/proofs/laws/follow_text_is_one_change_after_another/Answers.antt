use Rattle.nf_session.proofs.FollowTextLemmas.{follow_text-is}
use Rattle.nf_session.proofs.laws.follow_text_is_one_change_after_another.Goals as goal

pub returns : goal.returns
returns c = follow_text-is
