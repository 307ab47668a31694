use Rattle.std.proofs.Common.{refl}
use Rattle.nf_session.specs.Drill.{drill_number, drill_time}
use Rattle.nf_session.proofs.making.Maker.new.Goals as goal

pub returns : goal.returns
unfolding drill_number drill_time
returns c = record { number_is = refl; time_is = refl }
