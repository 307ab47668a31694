use Rattle.std.proofs.Common.{rules}
use Rattle.std.specs.Prelude.{codes}
use Rattle.nf_cast.specs.Text.{header_start}
use Rattle.nf_cast.proofs.PrefixLemmas.{name_twice}
use Rattle.nf_cast.proofs.statement_text.push_start.Goals as goal

pub returns : goal.returns
unfolding header_start
returns c =
    let e = name_twice c.args.lines.now c.push_between.new.lines c.args.name.now (codes "for (int64_t ") (codes " = INT64_C(0); ") (codes " < ") c.in_ok-push_between.ensures in
    search (rules, e)
