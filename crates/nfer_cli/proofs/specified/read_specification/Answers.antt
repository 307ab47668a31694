use Rattle.std.proofs.Common.{rules}
use Rattle.std.specs.Option.{option_copied}
use Rattle.nfer_cli.proofs.SpecificationEndLemmas.{unread_fails, refused_fails}
use Rattle.nfer_cli.proofs.specified.read_specification.Goals as goal

pub returns-in_err-sources-clause-fails : goal.returns-in_err-sources-clause-fails
returns-in_err-sources-clause-fails g c =
    let why = unread_fails c.args.names.now (option_copied c.args.root) c.in_err-sources.field-0.0 (g.F.Shelf.tells c.args.shelf.now) (g.F.Shelf.tells c.read_sources.new.shelf) c.in_err-sources.ensures.fails in
    search (rules, why)

pub returns-in_err-compile-clause-fails : goal.returns-in_err-compile-clause-fails
returns-in_err-compile-clause-fails g c =
    let why = refused_fails c.every_specification_has_one_answer.ensures.too_long c.args.names.now c.in_ok-sources.sources (option_copied c.args.root) c.in_err-compile.field-0.0
    (g.F.Shelf.tells c.args.shelf.now) (g.F.Shelf.tells c.read_sources.new.shelf) c.in_ok-sources.ensures.fits c.in_ok-sources.ensures.sources c.in_err-compile.ensures.specifies c.in_ok-sources.ensures.end in
    search (rules, why)
