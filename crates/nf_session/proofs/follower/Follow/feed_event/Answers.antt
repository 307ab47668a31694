use Rattle.std.proofs.Common.{◌≡◌, sym, ◌∙◌, ap, rules}
use Rattle.nf_session.specs.Followers.{Follower}
use Rattle.nf_session.specs.inner.Ends.{follow_end_of}
use Rattle.nf_session.specs.inner.Progress.{Stops, more_read, standing_of}
use Rattle.nf_session.proofs.EnteringLemmas.{gone_named, come_named}
use Rattle.nf_session.proofs.FeedLemmas.{failed_stops, taken_fed}
use Rattle.nf_session.proofs.follower.Follow.feed_event.Goals as goal

pub returns-in_err-follow-clause-stops : goal.returns-in_err-follow-clause-stops
returns-in_err-follow-clause-stops g c =
    let why = c.in_err-follow.field-0.0 in
    let told = (g.O.Sink.tells c.args.out.now).taken in
    let stops : Stops (follow_end_of why) c.args.self.content (more_read (standing_of c.args.self) c.args.piece.now) told told = c.in_err-follow.ensures.halts told in
    search (rules, stops)

pub announce-requires-clause-gone : goal.announce-requires-clause-gone
announce-requires-clause-gone g c =
    gone_named c.follow.inside.plan c.args.self.content c.in_ok-follow.field-0.follow.content _ c.in_ok-follow.ensures.change
    (sym c.in_ok-follow.ensures.plan ∙ sym (ap (λ (s : Follower). s.content.plan) c.follow.view_is) ∙ c.follow.invariant.0)

pub announce-requires-clause-come : goal.announce-requires-clause-come
announce-requires-clause-come g c =
    come_named c.follow.inside.plan c.args.self.content c.in_ok-follow.field-0.follow.content _ c.in_ok-follow.ensures.change
    (sym c.in_ok-follow.ensures.plan ∙ sym (ap (λ (s : Follower). s.content.plan) c.follow.view_is) ∙ c.follow.invariant.0)

pub returns-in_err-announce-clause-stops : goal.returns-in_err-announce-clause-stops
returns-in_err-announce-clause-stops g c =
    let end = c.in_err-announce.field-0.0 in
    let same : c.follow.inside.plan ≡ c.args.self.content.plan = sym c.follow.invariant.0 ∙ ap (λ (s : Follower). s.content.plan) c.follow.view_is ∙ c.in_ok-follow.ensures.plan in
    let stops : Stops end c.args.self.content (more_read (standing_of c.args.self) c.args.piece.now) (g.O.Sink.tells c.args.out.now).taken (g.O.Sink.tells c.announce.new.out).taken =
    failed_stops c.follow.inside.plan c.args.self c.args.piece.now _ _ _ _ _ c.in_ok-follow.ensures.takes same end c.in_err-announce.ensures.failed in
    search (rules, stops)

pub returns-clause-fed : goal.returns-clause-fed
returns-clause-fed g c =
    let same : c.follow.inside.plan ≡ c.args.self.content.plan = sym c.follow.invariant.0 ∙ ap (λ (s : Follower). s.content.plan) c.follow.view_is ∙ c.in_ok-follow.ensures.plan in
    taken_fed c.follow.inside.plan c.args.self c.args.piece.now _ _ _ _ _ c.in_ok-follow.ensures.takes same c.in_ok-announce.ensures.taken
