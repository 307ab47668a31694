-- The name takes what was gathered, and the rules that read it are due.
use Rattle.std.proofs.Common.{◌≡◌, ◌<◌, length, refl, arith}
use Rattle.nf_engine.proofs.TurnLemmas.{enough_at, settled_between, settled_left, settled_nothing}
use Rattle.nf_engine.proofs.turns.settle.Goals as goal

pub apply_at-requires-clause-place : goal.apply_at-requires-clause-place
apply_at-requires-clause-place g c =
    let each : length c.args.round.now.names.items ≡ length c.args.plan.now.names = c.requires.1.1.1.0.each_name in
    let named : c.args.head < length c.args.plan.now.names = c.requires.1.1.0 in
    omega arith

pub apply_at-requires-clause-enough : goal.apply_at-requires-clause-enough
apply_at-requires-clause-enough g c = enough_at c.args.plan.now g.passage c.args.head c.args.gathered c.args.round.now c.requires.1.1.1.0 c.requires.1.1.0

pub record-requires-clause-valid : goal.record-requires-clause-valid
record-requires-clause-valid g c = c.requires.0.valid

pub returns-clause-between : goal.returns-clause-between
returns-clause-between g c =
    settled_between c.args.plan.now g.passage c.requires.0 c.args.readers.now c.requires.1.0 c.args.head c.requires.1.1.0 c.args.gathered c.in_ok-delta.delta c.args.round.now _ c.record.new.round
    c.requires.1.1.1.0 c.requires.1.1.1.1 c.in_ok-delta.ensures refl refl refl c.in_ok-record.ensures

pub returns-clause-cost : goal.returns-clause-cost
returns-clause-cost g c =
    settled_left c.args.plan.now g.passage c.requires.0 c.args.readers.now c.requires.1.0 c.args.head c.requires.1.1.0 c.args.gathered c.in_ok-delta.delta c.args.round.now _ c.record.new.round
    c.requires.1.1.1.0 c.requires.1.1.1.1 c.in_ok-delta.ensures refl refl refl c.in_ok-record.ensures

pub returns-then-is_nothing-clause-between : goal.returns-then-is_nothing-clause-between
returns-then-is_nothing-clause-between g c =
    settled_nothing c.args.plan.now g.passage c.args.head c.args.gathered c.args.round.now (c.is_nothing.ensures c.if-is_nothing.true) c.requires.1.1.1.0 c.requires.1.1.1.1
