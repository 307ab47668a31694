use Rattle.nf_session.proofs.following.follow.Goals as goal

pub returns-clause-ends : goal.returns-clause-ends
returns-clause-ends g c = λ bytes told. let was = c.in_ok-run_session.ensures.ends bytes told in record { ends = was.ends; writes = was.writes; left = was.left }
