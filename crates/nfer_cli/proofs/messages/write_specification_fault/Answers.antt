use Rattle.std.proofs.Common.{rules}
use Rattle.nfer_cli.specs.Messages.{specification_message}
use Rattle.nfer_cli.proofs.ReportLemmas.{same_text}
use Rattle.nfer_cli.proofs.messages.write_specification_fault.Goals as goal

pub returns-in-TooLong-clause-message : goal.returns-in-TooLong-clause-message
unfolding specification_message
returns-in-TooLong-clause-message g c = same_text _ _ _ _ (rw c.in-TooLong.is (search rules)) c.write_texts.ensures.texts

pub returns-in-NoModule-clause-message : goal.returns-in-NoModule-clause-message
unfolding specification_message
returns-in-NoModule-clause-message g c = same_text _ _ _ _ (rw (c.in-NoModule.is, ← c.as_str.ensures) (search rules)) c.write_texts-in-NoModule.ensures.texts

pub returns-in-SameModule-clause-message : goal.returns-in-SameModule-clause-message
unfolding specification_message
returns-in-SameModule-clause-message g c = same_text _ _ _ _ (rw (c.in-SameModule.is, ← c.as_str-in-SameModule.ensures) (search rules)) c.write_texts-in-SameModule.ensures.texts

pub returns-in-Kinds-clause-message : goal.returns-in-Kinds-clause-message
unfolding specification_message
returns-in-Kinds-clause-message g c = rw (c.in-Kinds.is, ← c.kind_text.ensures) c.write_at_rule.ensures.rule

pub returns-in-Cycle-clause-message : goal.returns-in-Cycle-clause-message
unfolding specification_message
returns-in-Cycle-clause-message g c = same_text _ _ _ _ (rw c.in-Cycle.is (search rules)) c.write_texts-in-Cycle.ensures.texts

pub returns-in-NoMemory-clause-message : goal.returns-in-NoMemory-clause-message
unfolding specification_message
returns-in-NoMemory-clause-message g c = same_text _ _ _ _ (rw c.in-NoMemory.is (search rules)) c.write_texts-in-NoMemory.ensures.texts
