use Rattle.std.proofs.Common.{subst}
use Rattle.std.specs.Int.{w64}
use Rattle.std.specs.Str.Parse.{ParsesSigned}
use Rattle.nf_parse.proofs.WordByteLemmas.{number_shown}
use Rattle.nf_parse.proofs.literals.number_of.Goals as goal

pub returns : goal.returns
returns c = number_shown c.args.word.now c.parse.result c.in-Ok-parse.number c.requires (subst (λ bytes. ParsesSigned w64 10 bytes c.parse.result) c.in-Ok.ensures.cases.0 c.parse.ensures.value.0) c.in-Ok-parse.is
