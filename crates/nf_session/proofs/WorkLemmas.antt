-- The work of the events of lines, one after the other.
use Rattle.std.proofs.Common.{◌≡◌, ◌≤◌, ℕ, ◌+◌, List, [], ◌∷◌, ◌++◌, fold, Option, Some, None, refl, sym, ◌∙◌, ap, subst, arith}
use Rattle.nf_core.specs.declared.intervals.Change.{Change}
use Rattle.nf_core.specs.declared.intervals.Named.{Named}
use Rattle.nf_line.specs.Trace.{Event}
use Rattle.nf_model.specs.Changes.{Content}
use Rattle.nf_model.specs.Work.{work_between}
use Rattle.nf_session.specs.Costs.{work_from}
use Rattle.nf_session.specs.Follow.{entered}
use Rattle.nf_session.specs.inner.Events.{after_event, change_made}
use Rattle.nf_session.specs.inner.Progress.{work_made}
use Rattle.nf_session.specs.inner.Spending.{event_work}

-- the work of some events and then of others
pub work_from-append : (content : Content) (events more : List Event) → work_from content (events ++ more) ≡ work_from content events + work_from (fold entered content events) more
unfolding work_from
work_from-append content [] more = omega arith
work_from-append content (event ∷ events) more = omega (arith, work_from-append (entered content event) events more)

-- the work of one event
pub work_from-once : (content : Content) (event : Event) → work_from content (event ∷ []) ≡ work_between content (entered content event)
unfolding work_from
work_from-once content event = omega arith

-- an event's work is that of what was made of it
pub event_worth : (content now : Content) (event : Event) (made : Option Change) → now ≡ entered content event → work_made made content now ≤ work_from content (event ∷ [])
event_worth content now event None is = omega arith
event_worth content now event (Some change) is = omega (arith, ap (work_between content) is, work_from-once content event)

pub made_work : (content : Content) (event : Option Named) → event_work content event ≡ work_made (change_made content event) content (after_event content event)
made_work content None = refl
made_work content (Some event) = refl

-- what was made after events of which nothing was made
pub worth_then : (from to next : Content) (events more : List Event) (made : Option Change) → to ≡ fold entered from events → to ≡ from → work_made made to next ≤ work_from to more
    → work_made made from next ≤ work_from from (events ++ more)
worth_then from to next events more made is same worth =
    let first : work_made made from next ≡ work_made made to next = ap (λ content. work_made made content next) (sym same) in
    let rest : work_from (fold entered from events) more ≡ work_from to more = ap (λ content. work_from content more) (sym is) in
    omega (arith, first, rest, worth, work_from-append from events more)
