use Rattle.std.proofs.Common.{length, ◌∙◌, arith}
use Rattle.nf_order.proofs.CycleLemmas.{above_within}
use Rattle.nf_order.proofs.ReversedGraphLemmas.{turn_more}
use Rattle.nf_order.proofs.graph.turned.Goals as goal

pub loop-number-preserved : goal.loop-number-preserved
loop-number-preserved c =
    let put = rw c.below.ensures.below at c.in_ok-put_below.ensures in record {
      each = put.each ∙ c.loop-number.invariant.each;
      within = put.within (length c.args.graph.now) (omega arith) c.loop-number.invariant.within;
      turned = turn_more c.args.graph.now c.loop-number.above.items c.put_below.new.lists.items c.loop-number.number put c.loop-number.invariant.turned;
    }

pub returns-clause-reversed : goal.returns-clause-reversed
returns-clause-reversed c = record {
  each = c.loop-number.invariant.each;
  turned = λ n m step. c.loop-number.invariant.turned n m (omega (arith, above_within c.args.graph.now n m step, c.loop-number-test.false, c.len-number-end.ensures.count)) step;
}
