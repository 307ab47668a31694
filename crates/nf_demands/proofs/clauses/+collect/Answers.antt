-- What the operands of `&` demand, and what a part demands, is put behind what was there.
use Rattle.std.proofs.Common.{◌≡◌, ◌++◌, rules}
use Rattle.nf_demands.specs.Demands.{demands_of}
use Rattle.nf_demands.proofs.PartLemmas.{both_collected, other_demands}
use Rattle.nf_demands.proofs.clauses.+collect.Goals as goal

pub returns-in_ok-collect-in-And-2 : goal.returns-in_ok-collect-in-And-2
returns-in_ok-collect-in-And-2 t c =
    let first : c.collect.new.found ≡ c.args.found.now ++ demands_of c.get.result.now = search rules in
    let second : c.collect-in-And.new.found ≡ c.collect.new.found ++ demands_of c.get-in-And.result.now = search rules in
    both_collected _ _ _ c.in-Bin.op c.get.result.now c.get-in-And.result.now c.args.clause.now (search rules) c.in-And.is first second

pub returns-in_default-op : goal.returns-in_default-op
returns-in_default-op t c =
    let is = other_demands c.in-Bin.op _ _ c.args.clause.now c.in-Bin.is c.in_default-op.not-And in
    rw is c.add.ensures
