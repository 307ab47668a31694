-- What is gathered is settled.
use Rattle.std.proofs.Common.{arith}
use Rattle.nf_engine.proofs.turns.turn.Goals as goal

pub returns-clause-between : goal.returns-clause-between
returns-clause-between g c = c.in_ok-settle.ensures.between

pub returns-clause-cost : goal.returns-clause-cost
returns-clause-cost g c = omega (arith, c.in_ok-gathered.ensures.cost, c.in_ok-settle.ensures.cost)

pub returns-clause-bound : goal.returns-clause-bound
returns-clause-bound g c = c.in_ok-gathered.ensures.bound

pub returns-in_err-gathered-clause-bound : goal.returns-in_err-gathered-clause-bound
returns-in_err-gathered-clause-bound g c = c.in_err-gathered.ensures.bound

pub returns-in_err-settle-clause-bound : goal.returns-in_err-settle-clause-bound
returns-in_err-settle-clause-bound g c = c.in_ok-gathered.ensures.bound
