-- The one message that standard error gets at each status.
use Rattle.std.specs.Prelude.{ℕ, ℤ, List, [], ◌++◌, codes, decimal}
use Rattle.std.specs.Fmt.{signed_decimal}
use Rattle.nf_io.specs.Bytes.{Took, TookPrefix}
use Rattle.nf_io.specs.Causes.{Rose}
use Rattle.nf_io.specs.Tells.{SinkTells}
use Rattle.nf_lex.specs.declared.fault.LexFault.{LexFault}
use Rattle.nf_lex.specs.declared.fault.LexFault.TheVariants as lexical
use Rattle.nf_line.specs.declared.fault.LineFault.{LineFault}
use Rattle.nf_line.specs.declared.fault.LineFault.TheVariants as line_fault
use Rattle.nf_line.specs.declared.fault.TraceFault.{TraceFault}
use Rattle.nf_line.specs.declared.fault.TraceFault.TheVariants as trace_fault
use Rattle.nf_spec.specs.declared.fault.SpecFault.{SpecFault}
use Rattle.nf_spec.specs.declared.fault.SpecFault.TheVariants as fault
use Rattle.nf_typing.specs.declared.fault.KindFault.{KindFault}
use Rattle.nf_typing.specs.declared.fault.KindFault.TheVariants as kind
use Rattle.nfer_cli.specs.Words.{word_at}
use Rattle.nfer_cli.specs.declared.status.Status.{Status}
use Rattle.nfer_cli.specs.declared.status.Status.TheVariants as status

-- what is shown of a lexical fault
abbrev pub fault_text : LexFault → List ℕ
fault_text (lexical.BadByte line) = codes "bad byte"
fault_text (lexical.BadText line) = codes "bad text"
fault_text (lexical.OpenText line) = codes "open text"
fault_text (lexical.OpenComment line) = codes "open comment"
fault_text (lexical.BigNumber line) = codes "big number"
fault_text lexical.NoMemory = codes "no memory"

-- the line of a lexical fault
abbrev pub fault_line : LexFault → ℕ
fault_line (lexical.BadByte line) = line
fault_line (lexical.BadText line) = line
fault_line (lexical.OpenText line) = line
fault_line (lexical.OpenComment line) = line
fault_line (lexical.BigNumber line) = line
fault_line lexical.NoMemory = 0

-- a refusal at a line of a file, by the file's word
abbrev pub at_line : List ℕ → ℕ → List ℕ → List ℕ
at_line file line what =
    codes "nfer: " ++ file ++ codes ":" ++ decimal line ++ codes ": " ++ what ++ codes "\n"

-- what is shown of a rule's kinds
abbrev pub kind_text : KindFault → List ℕ
kind_text kind.UnknownLabel = codes "unknown label"
kind_text kind.SameLabel = codes "same label"
kind_text kind.WrongKind = codes "wrong kind"
kind_text kind.SecondLabel = codes "second label"
kind_text kind.SameKey = codes "same key"

-- a refusal of a rule, by its number
abbrev pub at_rule : ℕ → List ℕ → List ℕ
at_rule number what = codes "nfer: rule " ++ decimal number ++ codes ": " ++ what ++ codes "\n"

-- what is shown of a line's fault
abbrev pub line_text : LineFault → List ℕ
line_text line_fault.NotText = codes "not text"
line_text line_fault.Fields = codes "fields"
line_text line_fault.Time = codes "time"
line_text line_fault.Span = codes "span"
line_text line_fault.Key = codes "key"
line_text line_fault.Counts = codes "counts"

-- a refusal of a line of the trace, by its number
abbrev pub at_trace_line : ℕ → List ℕ → List ℕ
at_trace_line number what =
    codes "nfer: line " ++ decimal number ++ codes ": " ++ what ++ codes "\n"

-- what is shown of a time that is less than the one before it
abbrev pub fall_text : ℤ → ℤ → List ℕ
fall_text kept found =
    codes "time " ++ signed_decimal found ++ codes " after " ++ signed_decimal kept

-- the message of a refused trace
unfoldable pub trace_message : TraceFault → List ℕ
trace_message (trace_fault.Long number) = at_trace_line number (codes "long")
trace_message (trace_fault.Line number fault) = at_trace_line number (line_text fault)
trace_message (trace_fault.Order number kept found) = at_trace_line number (fall_text kept found)
trace_message trace_fault.TooLong = codes "nfer: input too long\n"

-- the message of a refused specification, whose files are given by their places among the file words of the command
unfoldable pub specification_message : List (List ℕ) → SpecFault → List ℕ
specification_message names fault.TooLong = codes "nfer: specification too long\n"
specification_message names (fault.Lex place why) =
    at_line (word_at names place) (fault_line why) (fault_text why)
specification_message names (fault.Grammar place line) =
    at_line (word_at names place) line (codes "grammar")
specification_message names (fault.TooDeep place line) =
    at_line (word_at names place) line (codes "too deep")
specification_message names (fault.NoModule name) = codes "nfer: no module " ++ name ++ codes "\n"
specification_message names (fault.SameModule name) =
    codes "nfer: module " ++ name ++ codes " twice\n"
specification_message names (fault.Kinds number why) = at_rule number (kind_text why)
specification_message names (fault.Cycle head) = codes "nfer: cycle at " ++ head ++ codes "\n"
specification_message names fault.NoMemory = codes "nfer: no memory\n"

-- the message of a status, by the file words of the command, and nothing where all is done
unfoldable pub message : List (List ℕ) → Status → List ℕ
message names status.Done = []
message names status.Usage = codes "nfer: usage\n"
message names (status.Specification why) = specification_message names why
message names (status.Trace why) = trace_message why
message names (status.ReadFault place) =
    codes "nfer: cannot read " ++ word_at names place ++ codes "\n"
message names status.WriteFault = codes "nfer: cannot write\n"
message names status.NoMemory = codes "nfer: no memory\n"

-- a sink got a text: the whole of it unless the sink failed, and a prefix of it in any case
pub record Reports (before now : SinkTells) (text : List ℕ) : Type 0 where
  pub whole : ¬ Rose before.faults now.faults → Took before.taken now.taken text
  pub part : TookPrefix before.taken now.taken text
