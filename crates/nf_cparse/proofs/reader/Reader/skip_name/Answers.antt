use Rattle.std.proofs.Common.{sym, ◌∙◌}
use Rattle.nf_cparse.proofs.PickLemmas.{name_read}
use Rattle.nf_cparse.proofs.reader.Reader.skip_name.Goals as goal

pub returns-clause-reads : goal.returns-clause-reads
returns-clause-reads c = record { word = _; is = name_read c.args.name.now _ c.args.self.now c.advance.new.self c.advance.ensures.past (sym c.is_at_name.ensures ∙ c.if-not-is_at_name.false) }
