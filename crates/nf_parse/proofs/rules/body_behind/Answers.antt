use Rattle.std.proofs.Common.{sym}
use Rattle.std.proofs.lemmas.Result.{err_from_is_err_and}
use Rattle.nf_grammar.proofs.Public.OutcomeLemmas.{stop_reads}
use Rattle.nf_parse.specs.inner.RuleReading as spec
use Rattle.nf_parse.proofs.PartStepLemmas.{pair_read, pair_stops}
use Rattle.nf_parse.proofs.rules.body_behind.Goals as goal

pub returns-in_err-second-clause-reads : goal.returns-in_err-second-clause-reads
returns-in_err-second-clause-reads c =
    let p = err_from_is_err_and c.from_residual.result c.from_residual.ensures.1 in
    rw (p.1, p.2) (stop_reads (spec.atom c.op.new.reader) _ _ c.atom.new.reader _
    (λ f e. pair_stops c.args.first c.args.reader.now c.op.new.reader c.in-Some.op (sym c.in-Some.ensures.is) c.in-Some.ensures.behind f e)
    c.in_err-second.ensures.reads)

pub returns-in_ok-second-clause-reads : goal.returns-in_ok-second-clause-reads
returns-in_ok-second-clause-reads c =
    pair_read c.args.first c.args.reader.now c.op.new.reader c.in-Some.op (sym c.in-Some.ensures.is) c.in-Some.ensures.behind c.in_ok-second.second c.atom.new.reader c.in_ok-second.ensures.reads
