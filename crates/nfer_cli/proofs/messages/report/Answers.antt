use Rattle.std.proofs.Common.{rules}
use Rattle.nfer_cli.specs.Messages.{message}
use Rattle.nfer_cli.proofs.ReportLemmas.{same_text}
use Rattle.nfer_cli.proofs.messages.report.Goals as goal

pub returns-in-Usage-clause-message : goal.returns-in-Usage-clause-message
unfolding message
returns-in-Usage-clause-message g c = same_text _ _ _ _ (rw c.in-Usage.is (search rules)) c.write_texts-written.ensures.texts

pub returns-in-ReadFault-clause-message : goal.returns-in-ReadFault-clause-message
unfolding message
returns-in-ReadFault-clause-message g c = same_text _ _ _ _ (rw (c.in-ReadFault.is, ← c.file_word.ensures) (search rules)) c.write_texts-written-in-ReadFault.ensures.texts

pub returns-in-WriteFault-clause-message : goal.returns-in-WriteFault-clause-message
unfolding message
returns-in-WriteFault-clause-message g c = same_text _ _ _ _ (rw c.in-WriteFault.is (search rules)) c.write_texts-written-in-WriteFault.ensures.texts

pub returns-in-NoMemory-clause-message : goal.returns-in-NoMemory-clause-message
unfolding message
returns-in-NoMemory-clause-message g c = same_text _ _ _ _ (rw c.in-NoMemory.is (search rules)) c.write_texts-written-in-NoMemory.ensures.texts
