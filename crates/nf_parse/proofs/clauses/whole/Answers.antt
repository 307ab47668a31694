use Rattle.nf_parse.proofs.LimitLemmas.{expression_limits}
use Rattle.nf_parse.proofs.clauses.whole.Goals as goal

pub returns-clause-limits : goal.returns-clause-limits
returns-clause-limits c =
    let law = c.trees_by_parts.ensures in
    expression_limits (record { truth = law.truth; number = law.number; text = law.text; start = law.start; stop = law.stop; key = law.key; minus = law.minus; inverted = law.inverted; binary = law.binary })
    c.args.reader.now c.expression.new.reader c.in_ok-x.x c.requires c.in_ok-x.ensures.reads
