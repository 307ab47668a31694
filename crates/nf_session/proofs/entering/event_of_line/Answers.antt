use Rattle.std.proofs.Common.{◌≡◌, ◌∙◌, Some, ap, length, rules}
use Rattle.std.proofs.lemmas.List.{length-map}
use Rattle.std.specs.Prelude.{position, bytes_eq}
use Rattle.nf_core.specs.Intervals.{Interval}
use Rattle.nf_session.proofs.EnteringLemmas.{narrow_name}
use Rattle.nf_session.proofs.entering.event_of_line.Goals as goal

pub returns-in_ok-interval-in-Some-clause-fits : goal.returns-in_ok-interval-in-Some-clause-fits
returns-in_ok-interval-in-Some-clause-fits c =
    let found : Some c.in-Some.name ≡ position (bytes_eq c.args.raw.now.name) c.args.plan.now.names = search rules in
    record {
      within = search rules;
      narrow = narrow_name c.args.plan.now c.args.raw.now.name c.in-Some.name found c.requires.narrow;
      row = ap (λ (i : Interval). length i.row) c.in_ok-interval-in-Some.ensures ∙ length-map _ _;
    }
