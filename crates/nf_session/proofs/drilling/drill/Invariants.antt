use Rattle.std.proofs.Common.{◌≡◌, ◌+◌, ◌≤◌, IsTrue}
use Rattle.nf_session.specs.Costs.{work_of}
use Rattle.nf_session.specs.Drill.{drill_events}
use Rattle.nf_session.specs.inner.Drilling.{HasDrilled}
use Rattle.nf_session.proofs.drilling.drill.Given as goal

-- the lines so far were entered and counted, within their work
abbrev pub invariant-loop-line : goal.invariant-loop-line
invariant-loop-line g l =
    let content = g.I.Inferer.content l.drilled.inferer in
    let full = (g.I.Inferer.content l.fn.inferer).full in record {
      drilled : HasDrilled l.plan full l._line content l.drilled.maker l.drilled.counts;
      plan : content.plan ≡ l.plan;
      thrifty : g.I.Inferer.is_thrifty l.drilled.inferer ≡ g.I.Inferer.is_thrifty l.fn.inferer;
      work : IsTrue (g.I.Inferer.is_thrifty l.fn.inferer)
          → l.steps ≤ l.fn.steps + work_of l.plan full (drill_events l._line);
    }
