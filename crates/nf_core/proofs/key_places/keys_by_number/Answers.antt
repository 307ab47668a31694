use Rattle.std.proofs.Common.{◌≡◌, [], ◌++◌, length, take, drop, replicate, Contains, sym, ap, subst, ◌∙◌, arith}
use Rattle.std.specs.List.{IsDistinct}
use Rattle.std.proofs.lemmas.Grind.{common_steps}
use Rattle.std.proofs.lemmas.List.Elements.{All-from_recursion}
use Rattle.nf_core.specs.Texts.{text_eq}
use Rattle.nf_core.specs.Written.{names_in}
use Rattle.nf_core.proofs.CollectedKeyLemmas.{none_collected, collected_more}
use Rattle.nf_core.proofs.Public.NameLemmas.{IsDistinct-names_of}
use Rattle.nf_core.proofs.NumberingLemmas.{known_item}
use Rattle.nf_core.proofs.key_places.keys_by_number.Goals as goal

-- src/key_places.rt:35:5
pub loop-rule-init : goal.loop-rule-init
loop-rule-init c = c.in_ok-keys.ensures ∙ ap (λ n. replicate n []) c.len.ensures ∙ none_collected c.args.names.now

-- src/key_places.rt:36:9
pub add_keys-requires-clause-distinct : goal.add_keys-requires-clause-distinct
add_keys-requires-clause-distinct c = subst (IsDistinct text_eq) (sym c.requires.named) (IsDistinct-names_of c.args.rules.now)

-- src/key_places.rt:36:9
pub add_keys-requires-clause-known : goal.add_keys-requires-clause-known
add_keys-requires-clause-known c =
    All-from_recursion (Contains c.args.names.now) (names_in c.rule-item.result) (known_item c.args.names.now c.args.rules.now c.as_slice-rule-items.result.now c.rule-item.result c.loop-rule.rule-index c.requires.named c.as_slice-rule-items.ensures (omega arith) c.rule-item.is)

-- src/key_places.rt:35:5
pub loop-rule-preserved : goal.loop-rule-preserved
loop-rule-preserved c =
    let whole : take c.loop-rule.keys.len (c.add_keys.new.keys ++ drop (length c.add_keys.new.keys) c.loop-rule.keys.items) ≡ c.add_keys.new.keys = grind (arith, common_steps) in
    whole
    ∙ collected_more c.args.names.now c.as_slice-rule-items.result.now c.loop-rule.rule-index c.rule-item.result c.as_mut_slice.result.now c.add_keys.new.keys (omega arith) c.rule-item.is
    (c.as_mut_slice.ensures.value ∙ c.loop-rule.invariant) c.in_ok-add_keys.ensures
