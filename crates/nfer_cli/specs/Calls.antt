-- All that a call promises that answers words over a shelf and an output.
use Rattle.std.specs.Prelude.{◌≡◌, ◌↔◌, ◌<◌, [], length, Option, None, IfSome}
use Rattle.nf_io.specs.Causes.{Rose}
use Rattle.nf_io.specs.Tells.{ShelfTells, SinkTells}
use Rattle.nfer_cli.specs.Answers.{Answers, AsksWithin, CannotReadAt, Defines, IfReadFault, IsCompleteFor, ReadsTo, Replays, WroteLast, is_read_fault}
use Rattle.nfer_cli.specs.Words.{Asked, file_words, specification_words}
use Rattle.nfer_cli.specs.declared.status.Status.{Status}
use Rattle.nfer_cli.specs.declared.status.Status.TheVariants as status

-- a call carried out what is asked, and ended with a status: what a shelf told before and tells now, and what an
-- output told before and tells now
pub record CarriesOut (question : Option Asked) (result : Status)
    (shelf shelf_now : ShelfTells) (out out_now : SinkTells) : Type 0 where
  -- words that ask for nothing, and only those, are refused as such
  pub usage : (result ≡ status.Usage) ↔ (question ≡ None)
  -- where the shelf tells its files, the status and the text are those of a defined answer, unless a fault or
  -- want of memory came first: then a prefix of its text was written
  pub answer : IfSome shelf.files (λ files.
      Answers question files result shelf_now.rest out.taken out_now.taken)
  -- where reading stood: a read that fails comes before any byte past the allowed ones of a specification was read,
  -- and before the refusal of a line was known, so no read that may fail is made after a refusal is known; at a
  -- refusal at most 65,536 bytes stand behind a place where none was known. At the end of the trace it was read whole
  pub reads : IfSome shelf.files (λ files.
      ReadsTo question result files shelf.asked shelf.rest shelf_now.asked shelf_now.rest)
  -- the file that is asked for last is one of the command's, or still that of before the call
  pub asks : IfSome shelf.files (λ files.
      AsksWithin (file_words question) files shelf.asked shelf_now.asked)
  -- a read fault names a file of the command that couldn't be read in this call
  pub read_fault : IfReadFault result (λ place.
      CannotReadAt (file_words question) place shelf shelf_now)
  -- where files are read, the last call of the shelf failed exactly where a read fault is answered
  pub failed : 0 < length (file_words question) → shelf_now.failed ≡ is_read_fault result
  -- a write fault comes only where the output failed in this call
  pub write_fault : result ≡ status.WriteFault → Rose out.faults out_now.faults
  -- what `infer` wrote it wrote once its trace was accepted and read to its end
  pub written_last : IfSome shelf.files (λ files. WroteLast question files result shelf_now.rest)
  -- at the end of its trace or at a refusal, what `follow` announced, read back after each accepted line, is what
  -- is shown, and no line is shown twice
  pub replayed : IfSome shelf.files (λ files. Replays question files result)
  -- nothing is written before the specification was read, so at a read fault of one of its files nothing was
  pub unread : IfReadFault result (λ place.
      place < length (specification_words question) → out_now.taken ≡ out.taken)
  -- with no fault of the shelf or of the output the answer is a defined one, or want of memory
  pub completes : ¬ Rose shelf.faults shelf_now.faults → ¬ Rose out.faults out_now.faults
      → IfSome shelf.files (λ files. IsCompleteFor (Defines question files) result)
  -- words that name no file leave the shelf as it was: those that ask for nothing, and `drill`
  pub untouched : file_words question ≡ [] → shelf_now ≡ shelf
