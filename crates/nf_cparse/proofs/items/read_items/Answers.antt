use Rattle.nf_cparse.proofs.AnswerLemmas.{items_answer, items_refused}
use Rattle.nf_cparse.proofs.items.read_items.Goals as goal

pub returns-clause-items : goal.returns-clause-items
returns-clause-items c = items_answer c.args.words c.new-reader.result c.new-reader.ensures c.text.result c.text.new.reader c.text.ensures.reads

pub returns-clause-refused : goal.returns-clause-refused
returns-clause-refused c = items_refused c.args.words c.new-reader.result c.new-reader.ensures c.text.result c.text.new.reader c.text.ensures.reads
