-- What a follower stands for: no more lines than bytes, under its plan.
use Rattle.std.proofs.Common.{◌≡◌, ℕ, ◌≤◌, Bool, List, [], ◌∷◌, length, fold, Option, Some, None, refl, ◌∙◌, ap, bytes_eq, arith}
use Rattle.std.specs.Prelude.{◌==◌, position}
use Rattle.std.proofs.lemmas.List.Sums.{count_by-le-length}
use Rattle.nf_core.specs.Plan.{Plan}
use Rattle.nf_line.specs.Trace.{Event, trace_so_far}
use Rattle.nf_model.specs.Changes.{Content, no_inputs}
use Rattle.nf_session.specs.Follow.{content_after, entered, entered_at}
use Rattle.nf_session.specs.Followers.{Follower, StandsFor}

entered_plan : (content : Content) (event : Event) (n : Option ℕ) → (entered_at content event n).plan ≡ content.plan
entered_plan content event None = refl
entered_plan content event (Some n) = refl

same_plan : (content : Content) (events : List Event) → (fold entered content events).plan ≡ content.plan
same_plan content [] = refl
same_plan content (event ∷ events) =
    same_plan (entered content event) events ∙ entered_plan content event (position (bytes_eq event.name) content.plan.names)

plan_after : (plan : Plan) (full : Bool) (events : List Event) → (content_after plan full events).plan ≡ plan
unfolding content_after
plan_after plan full events = same_plan (no_inputs plan full) events

module _ (plan : Plan) (full : Bool) (bytes : List ℕ) (follower : Follower) (s : StandsFor plan full bytes follower) where
  pub few_lines : follower.lines ≤ length bytes
  few_lines = omega (arith, s.counted, count_by-le-length (λ byte. byte == 10) bytes)

  pub its_plan : follower.content.plan ≡ plan
  its_plan = ap (λ (c : Content). c.plan) s.content_is ∙ plan_after plan full (trace_so_far bytes).events
