use Rattle.std.proofs.Common.{Ok, Err}
use Rattle.std.proofs.lemmas.Result.{err_from_is_err_and}
use Rattle.nf_parse.specs.declared.fault.ParseFault.TheVariants as fault
use Rattle.nf_parse.specs.Parses as parses
use Rattle.nf_parse.proofs.AnswerLemmas.{modules_given, only_given, lexical_given, grammar_given, deep_given, lexical_answer}
use Rattle.nf_parse.proofs.parsing.parse.Goals as goal

pub returns-in_err-tokens-clause-parses : goal.returns-in_err-tokens-clause-parses
returns-in_err-tokens-clause-parses c =
    let p = err_from_is_err_and c.from_residual.result c.from_residual.ensures.1 in
    rw (p.1, p.2) (lexical_answer c.args.source.now c.in_err-tokens.field-0.0 c.in_err-tokens.ensures.fault)

pub returns-clause-modules : goal.returns-clause-modules
returns-clause-modules c = modules_given c.args.source.now c.modules_of.result c.modules_of.ensures.parses

pub returns-clause-only : goal.returns-clause-only
returns-clause-only c = λ modules v. only_given c.division_is_one.ensures.one c.args.source.now c.modules_of.result c.modules_of.ensures.parses (Ok modules) (parses.modules v)

pub returns-clause-lexical : goal.returns-clause-lexical
returns-clause-lexical c = lexical_given c.args.source.now c.modules_of.result c.modules_of.ensures.parses

pub returns-clause-every_lexical : goal.returns-clause-every_lexical
returns-clause-every_lexical c = λ f d. only_given c.division_is_one.ensures.one c.args.source.now c.modules_of.result c.modules_of.ensures.parses (Err (fault.Lex f)) (parses.lexical d)

pub returns-clause-grammar : goal.returns-clause-grammar
returns-clause-grammar c = grammar_given c.args.source.now c.modules_of.result c.modules_of.ensures.parses

pub returns-clause-too_deep : goal.returns-clause-too_deep
returns-clause-too_deep c = deep_given c.args.source.now c.modules_of.result c.modules_of.ensures.parses

pub returns-clause-every_refused : goal.returns-clause-every_refused
returns-clause-every_refused c = λ f w. only_given c.division_is_one.ensures.one c.args.source.now c.modules_of.result c.modules_of.ensures.parses (Err f) (parses.refused w)
