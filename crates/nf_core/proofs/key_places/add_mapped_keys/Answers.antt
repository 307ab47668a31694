use Rattle.std.proofs.Common.{map, slice_set, Contains, sym, subst}
use Rattle.std.proofs.lemmas.Result.{on_ok_weaker}
use Rattle.nf_core.specs.Trees.{Rule}
use Rattle.nf_core.specs.inner.Collected.{AreGiven}
use Rattle.nf_core.specs.Written.{keys_mapped_in}
use Rattle.nf_core.specs.declared.trees.Entry.{Entry}
use Rattle.nf_core.proofs.CollectedKeyLemmas.{given_at}
use Rattle.nf_core.proofs.key_places.add_mapped_keys.Goals as goal

pub returns : goal.returns
returns c =
    on_ok_weaker c.add_mapped.result
    (λ put. subst (λ (rule : Rule). AreGiven c.args.names.now (λ name. keys_mapped_in name rule) c.args.keys.now (slice_set c.args.keys.now c.number_of-number.result c.add_mapped.new.keys)) c.rule.view_is
    (given_at c.args.names.now c.rule.inside.head (map (λ (entry : Entry). entry.key) c.rule.inside.entries) c.args.keys.now c.number_of-number.result c.index-keys-number.result c.add_mapped.new.keys c.requires.distinct
    (subst (λ (rule : Rule). Contains c.args.names.now rule.head) (sym c.rule.view_is) c.requires.known) c.number_of-number.ensures.number put))
    c.add_mapped.ensures
