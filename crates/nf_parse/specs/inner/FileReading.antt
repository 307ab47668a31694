-- What is read of the tokens of a source, and the fault of a reader that stops there.
use Rattle.std.specs.Prelude.{ℕ, List}
use Rattle.nf_core.specs.declared.limits.TheConstants.{MOST_OPERATORS}
use Rattle.nf_core.specs.declared.trees.Module.{Module}
use Rattle.nf_lex.specs.declared.token.Token.{Token}
use Rattle.nf_grammar.specs.State.{state}
use Rattle.nf_grammar.specs.declared.fault.Halt.{Halt}
use Rattle.nf_grammar.specs.declared.fault.Halt.TheVariants as halt
use Rattle.nf_parse.specs.declared.fault.ParseFault.{ParseFault}
use Rattle.nf_parse.specs.declared.fault.ParseFault.TheVariants as fault
use Rattle.nf_parse.specs.State.{words_of}
use Rattle.nf_parse.specs.Parses.{fault_at}
use Rattle.nf_parse.specs.inner.Parsers.{Outcome}
use Rattle.nf_parse.specs.inner.RuleReading.{file, limited}

-- what is read of the words of tokens, within the limits
unfoldable pub outcome_of : List ℕ → List Token → Outcome (List Module)
outcome_of source tokens = file limited (state MOST_OPERATORS (words_of source tokens))

-- the fault of a reader that stops among the tokens of a source
abbrev pub halted_at : List ℕ → List Token → Halt → ParseFault
halted_at source tokens halt.NoMemory = fault.NoMemory
halted_at source tokens (halt.At at) = fault_at source tokens at
