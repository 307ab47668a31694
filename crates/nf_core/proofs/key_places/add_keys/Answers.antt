use Rattle.std.proofs.Common.{Contains}
use Rattle.std.proofs.lemmas.List.Elements.{All-head}
use Rattle.std.proofs.lemmas.Result.{on_ok_weaker}
use Rattle.nf_core.specs.Written.{keys_read_by, keys_mapped_in}
use Rattle.nf_core.proofs.CollectedKeyLemmas.{given_then}
use Rattle.nf_core.proofs.key_places.add_keys.Goals as goal

-- src/key_places.rt:77:5
pub add_mapped_keys-requires-clause-known : goal.add_mapped_keys-requires-clause-known
add_mapped_keys-requires-clause-known c = All-head (Contains c.args.names.now) c.args.rule.now.head _ c.requires.known

-- src/key_places.rt:64:1
pub returns : goal.returns
returns c =
    on_ok_weaker c.add_mapped_keys.result
    (given_then c.args.names.now (keys_read_by c.args.rule.now) (λ name. keys_mapped_in name c.args.rule.now) c.args.keys.now c.add_read_keys.new.keys c.add_mapped_keys.new.keys c.in_ok-add_read_keys.ensures)
    c.add_mapped_keys.ensures
