use Rattle.std.proofs.Common.{sym, ◌∙◌}
use Rattle.nf_cparse.proofs.PickLemmas.{value_read}
use Rattle.nf_cparse.proofs.reader.Reader.skip_value.Goals as goal

pub returns-clause-reads : goal.returns-clause-reads
returns-clause-reads c = record { word = _; is = value_read c.args.value _ c.args.self.now c.advance.new.self c.advance.ensures.past (sym c.is_at_value.ensures ∙ c.if-not-is_at_value.false) }
