use Rattle.std.proofs.Common.{◌≡◌, rules, w64, to_z, of_z}
use Rattle.nfer_cli.specs.Messages.{trace_message}
use Rattle.nfer_cli.proofs.messages.write_trace_fault.Goals as goal

pub returns-in-Long-clause-message : goal.returns-in-Long-clause-message
unfolding trace_message
returns-in-Long-clause-message g c = rw c.in-Long.is c.write_at_trace_line.ensures.line

pub returns-in-Line-clause-message : goal.returns-in-Line-clause-message
unfolding trace_message
returns-in-Line-clause-message g c = rw (c.in-Line.is, ← c.line_text.ensures) c.write_at_trace_line-in-Line.ensures.line

pub returns-in-Order-clause-message : goal.returns-in-Order-clause-message
unfolding trace_message
returns-in-Order-clause-message g c =
    let kept : to_z w64 (of_z w64 c.in-Order.kept) ≡ c.in-Order.kept = search rules in
    let found : to_z w64 (of_z w64 c.in-Order.found) ≡ c.in-Order.found = search rules in
    rw c.in-Order.is (rw (kept, found) at c.write_order.ensures.order)

pub returns-in-TooLong-clause-message : goal.returns-in-TooLong-clause-message
unfolding trace_message
returns-in-TooLong-clause-message g c = rw c.in-TooLong.is c.write_texts.ensures.texts
