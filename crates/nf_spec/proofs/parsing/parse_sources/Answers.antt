use Rattle.std.proofs.Common.{◌≡◌, length, sym, subst, arith, Ok}
use Rattle.nf_spec.specs.Sources.{AreParsed}
use Rattle.nf_spec.proofs.ParsedSourceLemmas.{parsed_all}
use Rattle.nf_spec.proofs.parsing.parse_sources.Goals as goal

pub returns-clause-parsed : goal.returns-clause-parsed
returns-clause-parsed c =
    let end : c.sources.place ≡ length c.args.sources.now = omega arith in
    subst (λ modules. AreParsed c.args.sources.now (Ok modules)) (sym c.from_vec.ensures) (parsed_all c.args.sources.now c.sources.place c.sources.modules.items end c.sources.invariant.parsed)
