use Rattle.std.proofs.Common.{rules}
use Rattle.nfer_cli.specs.inner.Options.{given_by}
use Rattle.nfer_cli.proofs.CallLemmas.{check_printed, check_unspecified}
use Rattle.nfer_cli.proofs.checking.check.Goals as goal

pub returns-in_err-made : goal.returns-in_err-made
returns-in_err-made g c =
    let carried = check_unspecified c.every_specification_has_one_answer.ensures.some c.args.files.now (given_by c.args.options) c.in_err-made.field-0.0 (g.F.Shelf.tells c.args.shelf.now) (g.F.Shelf.tells c.read_specification.new.shelf) (g.O.Sink.tells c.args.out.now)
    c.requires.some c.in_err-made.ensures.fails c.in_err-made.ensures.failed c.read_specification.ensures.asks in
    search (rules, carried)

pub returns : goal.returns
returns g c =
    check_printed c.args.files.now (given_by c.args.options) c.in_ok-made.made c.print_rules.result (g.F.Shelf.tells c.args.shelf.now) (g.F.Shelf.tells c.read_specification.new.shelf) (g.O.Sink.tells c.args.out.now) (g.O.Sink.tells c.print_rules.new.out)
    c.requires.some c.in_ok-made.ensures.accepted c.in_ok-made.ensures.end c.in_ok-made.ensures.failed c.read_specification.ensures.asks c.print_rules.ensures
