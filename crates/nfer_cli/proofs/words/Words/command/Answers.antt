use Rattle.std.proofs.Common.{◌≡◌, Option, subst, sym, rules}
use Rattle.std.specs.Prelude.{option_map}
use Rattle.nfer_cli.specs.Words.{Asked, AsksFor}
use Rattle.nfer_cli.specs.inner.Commands.{asked, asked_by}
use Rattle.nfer_cli.proofs.AskedLemmas.{asks_for}
use Rattle.nfer_cli.proofs.words.Words.command.Goals as goal

pub returns : goal.returns
returns c =
    let is : option_map asked_by c.parse.result ≡ asked c.args.self.now = search rules in
    subst (λ (question : Option Asked). AsksFor c.args.self.now question) (sym is) (asks_for c.args.self.now)
