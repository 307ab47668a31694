-- The number is put into the lists of both names.
use Rattle.std.proofs.Common.{◌≡◌, ℕ, ◌<◌, List, [], ◌∷◌, ◌++◌, length, slice_set, true, ap, sym, subst, ◌∙◌, arith}
use Rattle.std.proofs.lemmas.List.{get_or_read, length-set}
use Rattle.nf_engine.specs.inner.Readers.{readers_of}
use Rattle.nf_engine.specs.inner.Rounds.{reads}
use Rattle.nf_engine.proofs.IndexLemmas.{first_named, second_named, rule_indexed}
use Rattle.nf_engine.proofs.PartLemmas.{reads_first, reads_second}
use Rattle.nf_engine.proofs.beginnings.index_rule.Goals as goal

pub index_mut-requires-2 : goal.index_mut-requires-2
index_mut-requires-2 c =
    let each : length c.args.readers.now.items ≡ length c.args.plan.now.names = c.requires.each in
    let named = second_named c.args.plan.now c.args.number c.rule-rule.result.now c.requires.valid c.rule-rule.ensures c.second_number-second.result c.second_number-second.ensures in
    omega (arith, each, named)

pub returns : goal.returns
returns c =
    let rule = c.rule-rule.result.now in
    let old : List (List ℕ) = c.args.readers.now.items in
    let each : length old ≡ length c.args.plan.now.names = c.requires.each in
    let first : rule.first < length c.args.plan.now.names = first_named c.args.plan.now c.args.number rule c.requires.valid c.rule-rule.ensures in
    let other : c.second_number-second.result < length c.args.plan.now.names =
    second_named c.args.plan.now c.args.number rule c.requires.valid c.rule-rule.ensures c.second_number-second.result c.second_number-second.ensures in
    let first_within : rule.first < length old = omega (arith, each, first) in
    let mid : List (List ℕ) = slice_set old rule.first c.push.new.self in
    let mid_each : length mid ≡ length old = length-set old rule.first c.push.new.self in
    let other_within : c.second_number-second.result < length old = omega (arith, each, other) in
    let other_mid : c.second_number-second.result < length mid = omega (arith, mid_each, other_within) in
    let first_list : c.push.new.self ≡ readers_of old rule.first ++ c.args.number ∷ [] =
    c.in_ok-push.ensures.ok ∙ ap (λ (ns : List ℕ). ns ++ c.args.number ∷ []) (get_or_read old rule.first c.index_mut.result.now first_within c.index_mut.ensures.value []) in
    let second_list : c.push-2.new.self ≡ readers_of mid c.second_number-second.result ++ c.args.number ∷ [] =
    c.in_ok-push-2.ensures.ok ∙ ap (λ (ns : List ℕ). ns ++ c.args.number ∷ []) (get_or_read mid c.second_number-second.result c.index_mut-2.result.now other_mid c.index_mut-2.ensures.value []) in
    rule_indexed c.args.plan.now c.args.number rule c.rule-rule.ensures c.second_number-second.result c.second_number-second.ensures (reads_first rule)
    (subst (λ (n : ℕ). reads rule n ≡ true) (sym c.second_number-second.ensures) (reads_second rule)) old mid (slice_set mid c.second_number-second.result c.push-2.new.self)
    first_within other_within (ap (slice_set old rule.first) first_list) (ap (slice_set mid c.second_number-second.result) second_list)
