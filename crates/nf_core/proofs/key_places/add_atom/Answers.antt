use Rattle.std.proofs.Common.{flat_map}
use Rattle.std.proofs.lemmas.Result.{on_ok_weaker}
use Rattle.nf_core.specs.Trees.{expressions_of}
use Rattle.nf_core.specs.Written.{keys_read}
use Rattle.nf_core.proofs.CollectedKeyLemmas.{given_at}
use Rattle.nf_core.proofs.key_places.add_atom.Goals as goal

pub returns : goal.returns
returns c =
    on_ok_weaker c.add_reads.result
    (λ put. given_at c.args.names.now c.args.atom.now.name (flat_map (keys_read c.args.atom.now.label) (expressions_of c.args.rule.now)) c.args.keys.now c.number_of-number.result c.index-keys-number.result c.add_reads.new.keys
    c.requires.distinct c.requires.known c.number_of-number.ensures.number put)
    c.add_reads.ensures
