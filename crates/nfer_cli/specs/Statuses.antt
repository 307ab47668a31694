-- The exit status of each answer.
use Rattle.std.specs.Prelude.{ℕ}
use Rattle.nfer_cli.specs.declared.status.Status.{Status}
use Rattle.nfer_cli.specs.declared.status.Status.TheVariants as status

-- 0 done, 1 usage, 2 a specification refused, 3 a trace refused, 4 no reading, 5 no writing, 6 no memory
abbrev pub code_of : Status → ℕ
code_of status.Done = 0
code_of status.Usage = 1
code_of (status.Specification why) = 2
code_of (status.Trace why) = 3
code_of (status.ReadFault place) = 4
code_of status.WriteFault = 5
code_of status.NoMemory = 6
