use Rattle.std.proofs.Common.{List, ap, sym, ◌∙◌}
use Rattle.nf_core.specs.Intervals.{Interval}
use Rattle.nf_tally.specs.Numbers.{Numbers, number, often}
use Rattle.nf_exclude.proofs.NetLemmas.{no_results}
use Rattle.nf_exclude.proofs.exclusions.Exclude.new.Goals as goal

pub returns-clause-stands : goal.returns-clause-stands
returns-clause-stands c = record {
  blockers = λ q. ap (λ (ns : Numbers). number ns q) c.new.ensures;
  counts = λ q. ap (λ (ns : Numbers). number ns q) c.new-2.ensures ∙ sym (ap (λ (is : List Interval). often is q) (no_results c.in_ok-copy.field-0 c.in_ok-copy.field-0.link));
}
