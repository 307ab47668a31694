use Rattle.std.proofs.Common.{◌≡◌, List, ◌∷◌, ℕ, map, All, Contains, sym, subst}
use Rattle.std.specs.List.{AllByRecursion}
use Rattle.std.proofs.lemmas.List.Elements.{All-head, All-tail, recursion_from_All}
use Rattle.nf_core.specs.inner.Numbered.{HasFewKeys, members_seen}
use Rattle.nf_core.specs.Trees.{Rule, atoms_of}
use Rattle.nf_core.specs.Written.{names_in, plan_rule}
use Rattle.nf_core.specs.declared.trees.Atom.{Atom}
use Rattle.nf_core.specs.declared.terms.PlanRule.{PlanRule}
use Rattle.nf_core.proofs.NumberedTermLemmas.{few_members, parts-plan_rule}
use Rattle.nf_core.proofs.numbered_rules.numbered_rule.Goals as goal

known_head : (names : List (List ℕ)) (rule is : Rule) → is ≡ rule → All (Contains names) (names_in rule) → Contains names is.head
known_head names rule is e known = subst (λ (r : Rule). Contains names r.head) (sym e) (All-head (Contains names) rule.head (map (λ (atom : Atom). atom.name) (atoms_of rule.body)) known)

known_body : (names : List (List ℕ)) (rule is : Rule) → is ≡ rule → All (Contains names) (names_in rule) → All (Contains names) (map (λ (atom : Atom). atom.name) (atoms_of is.body))
known_body names rule is e known =
    subst (λ (r : Rule). All (Contains names) (map (λ (atom : Atom). atom.name) (atoms_of r.body))) (sym e) (All-tail (Contains names) rule.head (map (λ (atom : Atom). atom.name) (atoms_of rule.body)) known)

-- src/numbered_rules.rt:61:9
pub number_of-head-requires-clause-known : goal.number_of-head-requires-clause-known
number_of-head-requires-clause-known c = known_head c.args.names.now c.args.rule.now _ c.rule.view_is c.requires.known

-- src/numbered_rules.rt:63:19
pub members_of-members-requires-clause-known : goal.members_of-members-requires-clause-known
members_of-members-requires-clause-known c = known_body c.args.names.now c.args.rule.now _ c.rule.view_is c.requires.known

-- src/numbered_rules.rt:67:16
pub first_number-requires-clause-known : goal.first_number-requires-clause-known
first_number-requires-clause-known c = known_body c.args.names.now c.args.rule.now _ c.rule.view_is c.requires.known

-- src/numbered_rules.rt:68:15
pub numbered_link-requires-clause-known : goal.numbered_link-requires-clause-known
numbered_link-requires-clause-known c = known_body c.args.names.now c.args.rule.now _ c.rule.view_is c.requires.known

-- src/numbered_rules.rt:71:16
pub numbered_clause-requires-2 : goal.numbered_clause-requires-2
numbered_clause-requires-2 c =
    record { few = subst (All HasFewKeys) (sym c.members_of-members.ensures) (few_members c.args.names.now c.args.keys.now c.rule.inside.body c.requires.few_keys) }

-- src/numbered_rules.rt:72:15
pub numbered_clause-requires-3 : goal.numbered_clause-requires-3
numbered_clause-requires-3 c =
    record { few = subst (All HasFewKeys) (sym c.members_of-members.ensures) (few_members c.args.names.now c.args.keys.now c.rule.inside.body c.requires.few_keys) }

-- src/numbered_rules.rt:47:1
pub returns-clause-rule : goal.returns-clause-rule
returns-clause-rule c = λ rules named keyed.
    let made : PlanRule = record {
      head = c.number_of-head.result;
      keys = c.len.result;
      first = c.first_number.result;
      link = c.numbered_link.result;
      filter = c.in_ok-numbered_clause.field-0;
      entries = c.in_ok-numbered_map.field-0;
      start = c.in_ok-numbered_clause-2.field-0;
      stop = c.in_ok-numbered_clause-3.field-0;
    } in
    let known : AllByRecursion (Contains c.args.names.now) (c.rule.inside.head ∷ map (λ (atom : Atom). atom.name) (atoms_of c.rule.inside.body)) =
    subst (λ (rule : Rule). AllByRecursion (Contains c.args.names.now) (names_in rule)) (sym c.rule.view_is) (recursion_from_All (Contains c.args.names.now) (names_in c.args.rule.now) c.requires.known) in
    subst (λ (rule : Rule). made ≡ plan_rule rules rule) c.rule.view_is
    (parts-plan_rule rules c.args.names.now c.args.keys.now named keyed (record { head = c.rule.inside.head; body = c.rule.inside.body; filter = c.rule.inside.filter; entries = c.rule.inside.entries; start = c.rule.inside.start; stop = c.rule.inside.stop })
    (members_seen c.members_of-members.result) c.number_of-head.result c.len.result c.first_number.result c.index-keys-head.result c.numbered_link.result made.filter made.start made.stop made.entries known c.number_of-head.ensures.number c.index-keys-head.is c.len.ensures
    (c.first_number.ensures rules (sym named)) (c.numbered_link.ensures rules (sym named)) c.members_of-members.ensures c.in_ok-numbered_clause.ensures c.in_ok-numbered_map.ensures c.in_ok-numbered_clause-2.ensures c.in_ok-numbered_clause-3.ensures)
