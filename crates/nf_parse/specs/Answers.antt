-- What a source spells.
use Rattle.std.specs.Prelude.{ℕ, ◌+◌, List, length, flat_map, Ok}
use Rattle.nf_core.specs.declared.limits.TheConstants.{MOST_OPERATORS, MOST_OPEN}
use Rattle.nf_core.specs.declared.trees.Entry.{Entry}
use Rattle.nf_core.specs.declared.trees.Rule.{Rule}
use Rattle.nf_core.specs.declared.trees.Module.{Module}
use Rattle.nf_lex.specs.declared.token.Token.{Token}
use Rattle.nf_lex.specs.Division.{Divides}
use Rattle.nf_grammar.specs.Places.{Limits, IsText}
use Rattle.nf_parse.specs.State.{words_of}
use Rattle.nf_parse.specs.Grammar.{file}

-- the limits of one expression: parentheses that are open at once, and operators
abbrev pub limits : Limits
limits = record { depth = MOST_OPEN; room = MOST_OPERATORS }

-- a source has tokens, and their words are a file within the limits that gives these modules
pub record Spells (source : List ℕ) (modules : List Module) : Type 0 where
  pub tokens : List Token
  pub divides : Divides source 0 (Ok tokens)
  pub text : IsText file limits (words_of source tokens) modules

-- the rules of modules, in order
abbrev pub rules_in : List Module → List Rule
rules_in modules = flat_map (λ (m : Module). m.rules) modules

-- the entries of the maps of rules, in order
abbrev pub entries_in : List Rule → List Entry
entries_in rules = flat_map (λ (rule : Rule). rule.entries) rules

-- how many rules and entries of maps modules have
abbrev pub size_of : List Module → ℕ
size_of modules = length (rules_in modules) + length (entries_in (rules_in modules))
