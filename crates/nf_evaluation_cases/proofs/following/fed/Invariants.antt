use Rattle.std.proofs.Common.{◌≤◌, List, ℕ, length}
use Rattle.nf_session.specs.Followers.{StandsFor}
use Rattle.nf_evaluation_cases.proofs.following.fed.Given as goal

-- the follower stands for bytes of which there are no more than were counted
abbrev pub invariant-pieces : goal.invariant-pieces
invariant-pieces g l = (bytes : List ℕ) × (StandsFor l.plan l.fn.follower.content.full bytes l.follower) × (length bytes ≤ l.count) × (l.count ≤ 1048576)
