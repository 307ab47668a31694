use Rattle.std.proofs.Common.{List, ℕ, [], None, sym, ap, subst}
use Rattle.nf_line.specs.Cutting as cutting
use Rattle.nf_session.specs.Followers.{StandsFor}
use Rattle.nf_session.proofs.StandingLemmas.{stands_first}
use Rattle.nf_session.proofs.follower.Follow.new.Goals as goal

pub returns-clause-stands : goal.returns-clause-stands
returns-clause-stands g c =
    let content = g.I.Inferer.content c.args.inferer in
    let thrifty = g.I.Inferer.is_thrifty c.args.inferer in
    subst (λ (kept : List ℕ). StandsFor c.args.plan content.full [] (record { content = content; lines = 0; last = None; kept = kept; thrifty = thrifty })) (sym (ap (λ (k : cutting.Content). k.kept) c.new.ensures))
    (stands_first c.args.plan content.full content thrifty c.requires)
