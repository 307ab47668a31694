-- The name of the first rule that is due has its turn.
use Rattle.std.proofs.Common.{◌≤◌, ◌<◌, ◌+◌, arith}
use Rattle.nf_engine.specs.inner.Queues.{rank}
use Rattle.nf_engine.specs.inner.Rounds.{IsDueIn, work_left}
use Rattle.nf_engine.specs.inner.Running.{whole_work, rules_left}
use Rattle.nf_engine.proofs.EnterLemmas.{head_named, turn_begins, no_more_left, fewer_left}
use Rattle.nf_engine.proofs.QueueLemmas.{first_is}
use Rattle.nf_engine.proofs.StartLemmas.{left_of_whole}
use Rattle.nf_engine.proofs.running.run.Goals as goal

pub loop-due-init : goal.loop-due-init
loop-due-init g c =
    let started = c.requires.1.1.1 in
    let most : work_left c.args.plan.now g.passage started.frontier c.args.round.now.queue ≤ whole_work c.args.plan.now g.passage =
    left_of_whole c.args.plan.now g.passage started.frontier c.args.round.now in
    record {
      frontier = started.frontier;
      between = started.between;
      cost = omega (arith, most);
    }

pub turn-requires : goal.turn-requires
turn-requires g c κs below =
    let now = c.loop-due.invariant in (
      below,
      (
        c.requires.1.0,
        (
          c.requires.1.1.0,
          (
            head_named c.args.plan.now g.passage c.requires.1.0 now.frontier c.loop-due.round c.in-Some.due now.between c.in-Some.ensures.some,
            turn_begins c.args.plan.now g.passage c.requires.1.0 now.frontier c.loop-due.round c.in-Some.due now.between c.in-Some.ensures.some,
          ),
        ),
      ),
    )

pub loop-due-smaller : goal.loop-due-smaller
loop-due-smaller g c =
    let now = c.loop-due.invariant in
    let less : rules_left c.args.plan.now c.turn.new.round.queue < rules_left c.args.plan.now c.loop-due.round.queue =
    fewer_left c.args.plan.now c.loop-due.round.queue c.turn.new.round.queue c.in-Some.due now.frontier c.in-Some.ensures.some.first
    (first_is (IsDueIn c.args.plan.now now.frontier) c.loop-due.round.queue c.in-Some.due c.in-Some.ensures.some.first now.between.due) c.in_ok-turn.ensures.between.due in
    less

pub loop-due-preserved : goal.loop-due-preserved
loop-due-preserved g c =
    let now = c.loop-due.invariant in
    let no_more : work_left c.args.plan.now g.passage (rank c.args.plan.now c.in-Some.due.head + 1) c.loop-due.round.queue ≤ work_left c.args.plan.now g.passage now.frontier c.loop-due.round.queue =
    no_more_left c.args.plan.now g.passage c.requires.1.0 now.frontier c.loop-due.round c.in-Some.due now.between c.in-Some.ensures.some in
    record {
      frontier = rank c.args.plan.now c.in-Some.due.head + 1;
      between = c.in_ok-turn.ensures.between;
      cost = omega (arith, no_more, now.cost, c.in_ok-turn.ensures.cost);
    }

pub returns-in_err-turn-clause-cost : goal.returns-in_err-turn-clause-cost
returns-in_err-turn-clause-cost g c =
    let now = c.loop-due.invariant in
    let no_more : work_left c.args.plan.now g.passage (rank c.args.plan.now c.in-Some.due.head + 1) c.loop-due.round.queue ≤ work_left c.args.plan.now g.passage now.frontier c.loop-due.round.queue =
    no_more_left c.args.plan.now g.passage c.requires.1.0 now.frontier c.loop-due.round c.in-Some.due now.between c.in-Some.ensures.some in
    omega (arith, no_more, now.cost, c.in_err-turn.ensures.bound)
