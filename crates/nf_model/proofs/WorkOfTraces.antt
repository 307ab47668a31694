-- The work of worked traces: what each event may cost. What is expected was worked out by hand from the rules.
use Rattle.std.specs.Prelude.{◌≡◌, refl, ℕ, false, List, [], ◌∷◌, Some}
use Rattle.nf_core.specs.Identifiers.{is_wide_name}
use Rattle.nf_core.specs.Intervals.{Interval}
use Rattle.nf_core.specs.Relations.{holds, span, blocks}
use Rattle.nf_core.specs.Expressions.{value_of, value_of_node, binary, of_ints, in_range, member}
use Rattle.nf_core.specs.declared.operators.Xop.TheVariants.{Contain}
use Rattle.nf_core.specs.declared.operators.BinOp.TheVariants as op
use Rattle.nf_core.specs.declared.terms.Term.TheVariants as t
use Rattle.nf_core.specs.declared.terms.Link.TheVariants.{One, Unless}
use Rattle.nf_core.proofs.Public.WorkedDefinitions.{terms, at, nat, rover_plan}
use Rattle.nf_model.specs.Changes.{Content, with_input}
use Rattle.nf_model.specs.Levels.{through_levels}
use Rattle.nf_model.specs.Results.{is_met, built, of_pair, faces, is_blocker, of_unblocked}
use Rattle.nf_model.specs.Work.{work, rule_work, work_between}
use Rattle.nf_model.proofs.WorkedTraces.{rule, plan, empty}

-- the work of each event, one after the other
abbrev works : Content → List (ℕ × Interval) → List ℕ
works content [] = []
works content (event ∷ events) =
    work_between content (with_input event.0 event.1 content) ∷ works (with_input event.0 event.1 content) events

-- the rover: a pair that begins a boot has a `where` and an entry; at the last event two more of them, 4, one pair of boots, 2, and one of a downlink and a double boot, which has an entry alone, 1
rover : works (empty false rover_plan) ((1, at 100 (Some (nat 1) ∷ [])) ∷ (2, at 150 (Some (nat 1) ∷ [])) ∷ (1, at 200 (Some (nat 2) ∷ [])) ∷ (5, at 230 []) ∷ (2, at 260 (Some (nat 2) ∷ [])) ∷ [])
    ≡ 0 ∷ 2 ∷ 0 ∷ 0 ∷ 7 ∷ []
unfolding is_wide_name work rule_work through_levels of_pair is_met built holds span value_of value_of_node binary of_ints in_range member
rover = simp terms

-- p :- a unless contain b where a.begin = b.begin map { k -> a.begin } end a.end; b :- c unless contain d begin c.begin: a comes, 2; c comes, 1, and so b, which blocks a, 3; d comes and blocks c, 1, so b goes and a is blocked no more, 3; and d comes once more
unblocked : works (empty false (plan (2 ∷ 0 ∷ 1 ∷ 0 ∷ 0 ∷ []) (record (rule 0 1 (Unless Contain 2)) { keys = 1; filter = Some (t.Bin op.Eq (t.Start 0) (t.Start 1)); entries = record { place = 0; value = t.Start 0 } ∷ []; stop = Some (t.Stop 0) }
    ∷ record (rule 2 3 (Unless Contain 4)) { start = Some (t.Start 0) } ∷ []))) ((1, at 5 []) ∷ (3, at 5 []) ∷ (4, at 5 []) ∷ (4, at 5 []) ∷ [])
    ≡ 2 ∷ 4 ∷ 4 ∷ 0 ∷ []
unfolding is_wide_name work rule_work through_levels of_unblocked faces is_blocker is_met built blocks value_of value_of_node binary of_ints in_range member
unblocked = simp terms

-- w :- x:a unless contain y:a where x.begin < y.begin map { k -> x.begin }: the first one faces nothing, itself neither, and is made, 1; the second one is made, 1, and the two face one another, 4
not_itself : works (empty false (plan (1 ∷ 0 ∷ []) (record (rule 0 1 (Unless Contain 1)) { keys = 1; filter = Some (t.Bin op.Lt (t.Start 0) (t.Start 1)); entries = record { place = 0; value = t.Start 0 } ∷ [] } ∷ []))) ((1, at 5 (Some (nat 1) ∷ [])) ∷ (1, at 5 (Some (nat 2) ∷ [])) ∷ [])
    ≡ 1 ∷ 5 ∷ []
unfolding is_wide_name work rule_work through_levels faces blocks
not_itself = refl

-- w :- a where a.begin < a.end map { k -> a.begin }: each event once, also where `where` isn't met
one_atom : works (empty false (plan (1 ∷ 0 ∷ []) (record (rule 0 1 One) { keys = 1; filter = Some (t.Bin op.Lt (t.Start 0) (t.Stop 0)); entries = record { place = 0; value = t.Start 0 } ∷ [] } ∷ []))) ((1, at 1 []) ∷ (1, at 5 []) ∷ (1, at 5 []) ∷ [])
    ≡ 2 ∷ 2 ∷ 0 ∷ []
unfolding is_wide_name work rule_work through_levels
one_atom = refl
