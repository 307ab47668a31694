use Rattle.std.proofs.Common.{◌≡◌, ◌+◌, ◌*◌, ◌/◌, ◌%◌, ◌^◌, ◌∙◌, ap}
use Rattle.nf_session.specs.Drill.{drill_bits, drill_number}
use Rattle.nf_session.proofs.DrillLemmas.{eighth, next_number, next_time}
use Rattle.nf_session.proofs.making.Maker.next.Goals as goal

pub returns : goal.returns
returns c = λ i stands.
    let number = next_number i c.args.self.number stands.number_is in
    record {
      number_is = number;
      time_is = next_time i c.args.self.time _ stands.time_is (ap (λ n. n / 9223372036854775808) number ∙ eighth (drill_number (i + 1)));
    }
