-- The fault of a source without tokens.
use Rattle.nf_lex.specs.declared.fault.LexFault.{LexFault}
use Rattle.nf_lex.specs.declared.fault.LexFault.TheVariants as lexical
use Rattle.nf_parse.specs.declared.fault.ParseFault.{ParseFault}
use Rattle.nf_parse.specs.declared.fault.ParseFault.TheVariants as fault

-- want of memory stays what it is
abbrev pub of_lexical : LexFault → ParseFault
of_lexical lexical.NoMemory = fault.NoMemory
of_lexical error = fault.Lex error
