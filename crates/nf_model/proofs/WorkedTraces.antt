-- The definitions computed on worked traces: what each event changes. What is expected was worked out by hand from the rules.
use Rattle.std.specs.Prelude.{◌≡◌, refl, ℕ, pos, negsuc, Bool, true, false, List, [], ◌∷◌, map, Option, Some, None, codes}
use Rattle.nf_core.specs.Identifiers.{is_wide_name}
use Rattle.nf_core.specs.Intervals.{Interval}
use Rattle.nf_core.specs.Relations.{holds, span, blocks}
use Rattle.nf_core.specs.Expressions.{value_of, value_of_node, binary, of_ints, of_bools, in_range, member}
use Rattle.nf_core.specs.Plan.{Plan, plan_from}
use Rattle.nf_core.specs.declared.values.Value.{Value}
use Rattle.nf_core.specs.declared.values.Value.TheVariants as v
use Rattle.nf_core.specs.declared.operators.Op.TheVariants.{Before, Meet, During, Coincide, Start, Finish, Overlap, Slice}
use Rattle.nf_core.specs.declared.operators.Xop.TheVariants.{After, Contain}
use Rattle.nf_core.specs.declared.operators.BinOp.{BinOp}
use Rattle.nf_core.specs.declared.operators.BinOp.TheVariants as op
use Rattle.nf_core.specs.declared.terms.Term.{Term}
use Rattle.nf_core.specs.declared.terms.Term.TheVariants as t
use Rattle.nf_core.specs.declared.terms.Link.{Link}
use Rattle.nf_core.specs.declared.terms.Link.TheVariants.{One, Pair, Unless}
use Rattle.nf_core.specs.declared.terms.PlanEntry.{PlanEntry}
use Rattle.nf_core.specs.declared.terms.PlanRule.{PlanRule}
use Rattle.nf_core.specs.declared.intervals.Named.{Named}
use Rattle.nf_core.specs.declared.intervals.Change.{Change}
use Rattle.nf_core.proofs.Public.WorkedDefinitions.{terms, at, nat, rover_plan}
use Rattle.nf_model.specs.Results.{row_of, is_met, built, of_one, of_pair, faces, is_blocker, of_unblocked}
use mathlib.Core.Path.{ap}
use Rattle.nf_model.specs.Levels.{through_levels}
use Rattle.nf_model.specs.Pools.{candidates, judged}
use Rattle.nf_model.specs.Changes.{Content, with_input, pool_of, change}

-- a rule without clauses, and a plan by the levels of its names
abbrev pub rule : ℕ → ℕ → Link → PlanRule
rule head first link = record { head = head; keys = 0; first = first; link = link; filter = None; entries = []; start = None; stop = None }

abbrev pub plan : List ℕ → List PlanRule → Plan
plan levels rules = record { names = map (λ level. level ∷ []) levels; keys = []; rules = rules; levels = levels }

abbrev pub empty : Bool → Plan → Content
empty full plan = record { plan = plan; full = full; inputs = map (λ name. []) plan.names }

-- what each event changes, one after the other
abbrev changes : Content → List (ℕ × Interval) → List Change
changes content [] = []
changes content (event ∷ events) = change content (with_input event.0 event.1 content) ∷ changes (with_input event.0 event.1 content) events

abbrev item : ℕ → ℕ → ℕ → List (Option Value) → Named
item name start stop row = record { name = name; interval = record { start = pos start; stop = pos stop; row = row } }

abbrev interval : ℕ → ℕ → Interval
interval start stop = record { start = pos start; stop = pos stop; row = [] }

abbrev come : List Named → Change
come items = record { gone = []; come = items }

abbrev gone : List Named → Change
gone items = record { gone = items; come = [] }

-- a.begin and a number, by an operator
abbrev begin_and : BinOp → ℕ → Term
begin_and o k = t.Bin o (t.Start 0) (t.Int (pos k))

abbrev text : List ℕ → Option Value
text bytes = Some (v.Text bytes)

-- w :- a; x :- w before b, under full
two_levels : changes (empty true (plan (1 ∷ 0 ∷ 2 ∷ 0 ∷ []) (rule 0 1 One ∷ rule 2 0 (Pair Before 3) ∷ []))) ((1, at 1 []) ∷ (3, at 2 []) ∷ (1, at 2 []) ∷ (3, at 3 []) ∷ [])
    ≡ come (item 0 1 1 [] ∷ []) ∷ come (item 2 1 2 [] ∷ []) ∷ come (item 0 2 2 [] ∷ []) ∷ come (item 2 1 3 [] ∷ item 2 2 3 [] ∷ []) ∷ []
unfolding is_wide_name through_levels of_one of_pair is_met built holds span
two_levels = refl

-- w :- a before b, and the same under full
abbrev before_plan : Plan
before_plan = plan (1 ∷ 0 ∷ 0 ∷ []) (rule 0 1 (Pair Before 2) ∷ [])

minimality : changes (empty false before_plan) ((1, at 1 []) ∷ (1, at 2 []) ∷ (2, at 3 []) ∷ []) ≡ come [] ∷ come [] ∷ come (item 0 2 3 [] ∷ []) ∷ []
unfolding is_wide_name through_levels of_pair is_met built holds span
minimality = refl

all_held : changes (empty true before_plan) ((1, at 1 []) ∷ (1, at 2 []) ∷ (2, at 3 []) ∷ []) ≡ come [] ∷ come [] ∷ come (item 0 1 3 [] ∷ item 0 2 3 [] ∷ []) ∷ []
unfolding is_wide_name through_levels of_pair is_met built holds span
all_held = refl

repeats : changes (empty false before_plan) ((1, at 1 []) ∷ (1, at 1 []) ∷ (2, at 2 []) ∷ []) ≡ come [] ∷ come [] ∷ come (item 0 1 2 [] ∷ []) ∷ []
unfolding is_wide_name through_levels of_pair is_met built holds span
repeats = refl

-- P :- a unless contain b
withdrawn : changes (empty false (plan (1 ∷ 0 ∷ 0 ∷ []) (rule 0 1 (Unless Contain 2) ∷ []))) ((1, at 5 []) ∷ (2, at 5 []) ∷ []) ≡ come (item 0 5 5 [] ∷ []) ∷ gone (item 0 5 5 [] ∷ []) ∷ []
unfolding is_wide_name through_levels of_unblocked faces is_blocker is_met built blocks
withdrawn = refl

-- |1 :- a before b; w :- |1: all candidates of a wide name are held, and it isn't announced
abbrev wide_plan : Plan
wide_plan = plan_from (codes "a" ∷ codes "b" ∷ codes "w" ∷ codes "|1" ∷ []) [] (rule 3 0 (Pair Before 1) ∷ rule 2 3 One ∷ []) (0 ∷ 0 ∷ 2 ∷ 1 ∷ [])

wide_name : changes (empty false wide_plan) ((0, at 1 []) ∷ (0, at 2 []) ∷ (1, at 3 []) ∷ []) ≡ come [] ∷ come [] ∷ come (item 2 2 3 [] ∷ []) ∷ []
unfolding is_wide_name through_levels of_one of_pair is_met built holds span
wide_name = refl

abbrev wide_content : Content
wide_content = record { plan = wide_plan; full = false; inputs = (at 1 [] ∷ at 2 [] ∷ []) ∷ (at 3 [] ∷ []) ∷ [] ∷ [] ∷ [] }

all_of_wide : pool_of wide_content 3 ∷ pool_of wide_content 2 ∷ [] ≡ (interval 1 3 ∷ interval 2 3 ∷ []) ∷ (interval 2 3 ∷ []) ∷ []
unfolding is_wide_name through_levels of_one of_pair is_met built holds span
all_of_wide = refl

-- w :- a before b; w :- c unless contain d begin c.begin - 3 end c.begin - 2, with a at 1 and b at 5
abbrev returning : List Interval → List Interval → Content
returning cs ds = record {
  plan = plan (1 ∷ 0 ∷ 0 ∷ 0 ∷ 0 ∷ []) (rule 0 1 (Pair Before 2) ∷ record (rule 0 3 (Unless Contain 4)) { start = Some (begin_and op.Sub 3); stop = Some (begin_and op.Sub 2) } ∷ []);
  full = false;
  inputs = [] ∷ (at 1 [] ∷ []) ∷ (at 5 [] ∷ []) ∷ cs ∷ ds ∷ [];
}

-- before c, where c suppresses the interval, and where d takes c's away
returned : pool_of (returning [] []) 0 ∷ pool_of (returning (at 6 [] ∷ []) (at 6 [] ∷ [])) 0 ∷ [] ≡ (interval 1 5 ∷ []) ∷ (interval 1 5 ∷ []) ∷ []
unfolding is_wide_name through_levels of_pair of_unblocked faces is_blocker is_met built holds span blocks
returned = refl

both : candidates (returning [] []).plan false (returning (at 6 [] ∷ []) []).inputs 0 ≡ interval 1 5 ∷ interval 3 4 ∷ []
unfolding is_wide_name through_levels of_pair of_unblocked faces is_blocker is_met built holds span blocks value_of value_of_node binary of_ints in_range member
both = simp terms

suppressed : pool_of (returning (at 6 [] ∷ []) []) 0 ≡ interval 3 4 ∷ []
unfolding is_wide_name through_levels
suppressed = ap (judged false) both

-- c, d, f, m, o, s, v, w :- a coincide, during, finish, meet, overlap, start, slice, before b
at_one_time : changes (empty false (plan (1 ∷ 0 ∷ 0 ∷ 1 ∷ 1 ∷ 1 ∷ 1 ∷ 1 ∷ 1 ∷ 1 ∷ [])
    (rule 0 1 (Pair Coincide 2) ∷ rule 3 1 (Pair During 2) ∷ rule 4 1 (Pair Finish 2) ∷ rule 5 1 (Pair Meet 2) ∷ rule 6 1 (Pair Overlap 2) ∷ rule 7 1 (Pair Start 2) ∷ rule 8 1 (Pair Slice 2) ∷ rule 9 1 (Pair Before 2) ∷ []))) ((1, at 5 []) ∷ (2, at 5 []) ∷ [])
    ≡ come [] ∷ come (item 0 5 5 [] ∷ item 3 5 5 [] ∷ item 4 5 5 [] ∷ item 5 5 5 [] ∷ item 7 5 5 [] ∷ []) ∷ []
unfolding is_wide_name through_levels of_pair is_met built holds span
at_one_time = refl

-- x :- a end a.begin + 10; y :- b end b.begin + 10; o :- x overlap y; s :- x slice y
crossing : changes (empty false (plan (1 ∷ 0 ∷ 1 ∷ 0 ∷ 2 ∷ 2 ∷ []) (record (rule 0 1 One) { stop = Some (begin_and op.Add 10) } ∷ record (rule 2 3 One) { stop = Some (begin_and op.Add 10) } ∷ rule 4 0 (Pair Overlap 2) ∷ rule 5 0 (Pair Slice 2) ∷ []))) ((1, at 0 []) ∷ (3, at 4 []) ∷ [])
    ≡ come (item 0 0 10 [] ∷ []) ∷ come (item 2 4 14 [] ∷ item 4 0 14 [] ∷ item 5 4 10 [] ∷ []) ∷ []
unfolding is_wide_name through_levels of_one of_pair is_met built holds span value_of value_of_node binary of_ints in_range member
crossing = simp terms

-- w :- a with these clauses, over one name with one key at most
abbrev one_rule : ℕ → Option Term → Option Term → List PlanEntry → Content
one_rule keys filter stop entries = empty false (plan (1 ∷ 0 ∷ []) (record { head = 0; keys = keys; first = 1; link = One; filter = filter; entries = entries; start = None; stop = stop } ∷ []))

-- end a.begin + 9223372036854775807, and where a.begin + 9223372036854775807 < 0
past_the_end : changes (one_rule 0 None (Some (begin_and op.Add 9223372036854775807)) []) ((1, at 0 []) ∷ (1, at 1 []) ∷ []) ≡ come (item 0 0 9223372036854775807 [] ∷ []) ∷ come [] ∷ []
unfolding is_wide_name through_levels of_one is_met built value_of value_of_node binary of_ints in_range member
past_the_end = simp terms

no_wrapping : changes (one_rule 0 (Some (t.Bin op.Lt (begin_and op.Add 9223372036854775807) (t.Int (pos 0)))) None []) ((1, at 0 []) ∷ (1, at 1 []) ∷ []) ≡ come [] ∷ come [] ∷ []
unfolding is_wide_name through_levels of_one is_met built value_of value_of_node binary of_ints in_range member
no_wrapping = simp terms

-- where a.k | true
strict : changes (one_rule 0 (Some (t.Bin op.Or (t.Key 0 0) (t.Bool true))) None []) ((1, at 1 (None ∷ [])) ∷ (1, at 2 (Some (v.Bool true) ∷ [])) ∷ (1, at 3 (Some (nat 5) ∷ [])) ∷ []) ≡ come [] ∷ come (item 0 2 2 [] ∷ []) ∷ come [] ∷ []
unfolding is_wide_name through_levels of_one is_met built value_of value_of_node binary of_bools member
strict = simp terms

-- end a.begin / a.k
quotients : changes (one_rule 0 None (Some (t.Bin op.Div (t.Start 0) (t.Key 0 0))) []) ((1, at 6 (Some (nat 0) ∷ [])) ∷ (1, at 6 (Some (v.Int (negsuc 0)) ∷ [])) ∷ (1, at 6 (Some (nat 1) ∷ [])) ∷ []) ≡ come [] ∷ come [] ∷ come (item 0 6 6 [] ∷ []) ∷ []
unfolding is_wide_name through_levels of_one is_met built value_of value_of_node binary of_ints in_range member
quotients = simp terms

-- map { k -> a.k }, and where a.k = 7
copied : changes (one_rule 1 None None (record { place = 0; value = t.Key 0 0 } ∷ [])) ((1, at 1 (text (codes "007") ∷ [])) ∷ (1, at 2 (text (codes "3.14") ∷ [])) ∷ (1, at 3 (text (codes "") ∷ [])) ∷ (1, at 4 (None ∷ [])) ∷ [])
    ≡ come (item 0 1 1 (text (codes "007") ∷ []) ∷ []) ∷ come (item 0 2 2 (text (codes "3.14") ∷ []) ∷ []) ∷ come (item 0 3 3 (text (codes "") ∷ []) ∷ []) ∷ come (item 0 4 4 (None ∷ []) ∷ []) ∷ []
unfolding is_wide_name through_levels of_one is_met built value_of value_of_node member
copied = simp terms

text_is_no_number : changes (one_rule 0 (Some (t.Bin op.Eq (t.Key 0 0) (t.Int (pos 7)))) None []) ((1, at 1 (text (codes "007") ∷ [])) ∷ (1, at 2 (Some (nat 7) ∷ [])) ∷ []) ≡ come [] ∷ come (item 0 2 2 [] ∷ []) ∷ []
unfolding is_wide_name through_levels of_one is_met built value_of value_of_node binary member
text_is_no_number = simp terms

-- of three keys the map names the second one and gives the first one an Undefined value
missing_keys : row_of (record (rule 0 1 One) { keys = 3; entries = record { place = 1; value = t.Int (pos 5) } ∷ record { place = 0; value = t.Key 0 0 } ∷ [] }) (at 1 (None ∷ [])) None ≡ None ∷ Some (nat 5) ∷ None ∷ []
unfolding value_of value_of_node member
missing_keys = simp terms

-- w :- a, and events that are named w
head_as_event : changes (one_rule 0 None None []) ((0, at 3 []) ∷ (0, at 3 []) ∷ (1, at 3 []) ∷ []) ≡ come (item 0 3 3 [] ∷ []) ∷ come [] ∷ come [] ∷ []
unfolding is_wide_name through_levels of_one is_met built
head_as_event = refl

-- w :- a before b map { k -> a.k }
equal_times : changes (empty false (plan (1 ∷ 0 ∷ 0 ∷ []) (record (rule 0 1 (Pair Before 2)) { keys = 1; entries = record { place = 0; value = t.Key 0 0 } ∷ [] } ∷ []))) ((1, at 1 (Some (nat 1) ∷ [])) ∷ (1, at 1 (Some (nat 2) ∷ [])) ∷ (2, at 3 []) ∷ [])
    ≡ come [] ∷ come [] ∷ come (item 0 1 3 (Some (nat 1) ∷ []) ∷ item 0 1 3 (Some (nat 2) ∷ []) ∷ []) ∷ []
unfolding is_wide_name through_levels of_pair is_met built holds span value_of value_of_node member
equal_times = simp terms

-- p :- a unless after b where a.k = b.k
filtered_blockers : changes (empty false (plan (1 ∷ 0 ∷ 0 ∷ []) (record (rule 0 1 (Unless After 2)) { filter = Some (t.Bin op.Eq (t.Key 0 0) (t.Key 1 0)) } ∷ []))) ((2, at 1 (Some (nat 7) ∷ [])) ∷ (1, at 2 (Some (nat 7) ∷ [])) ∷ (1, at 3 (Some (nat 8) ∷ [])) ∷ [])
    ≡ come [] ∷ come [] ∷ come (item 0 3 3 [] ∷ []) ∷ []
unfolding is_wide_name through_levels of_unblocked faces is_blocker is_met built blocks value_of value_of_node binary member
filtered_blockers = simp terms

-- w :- a before b where a.k < b.k map { k -> a.k }; p :- a unless after b where b.k < a.k
sides : changes (empty false (plan (1 ∷ 0 ∷ 0 ∷ 1 ∷ []) (record (rule 0 1 (Pair Before 2)) { keys = 1; filter = Some (t.Bin op.Lt (t.Key 0 0) (t.Key 1 0)); entries = record { place = 0; value = t.Key 0 0 } ∷ [] }
    ∷ record (rule 3 1 (Unless After 2)) { filter = Some (t.Bin op.Lt (t.Key 1 0) (t.Key 0 0)) } ∷ []))) ((2, at 1 (Some (nat 1) ∷ [])) ∷ (1, at 2 (Some (nat 2) ∷ [])) ∷ (1, at 2 (Some (nat 0) ∷ [])) ∷ (2, at 3 (Some (nat 1) ∷ [])) ∷ [])
    ≡ come [] ∷ come [] ∷ come (item 3 2 2 [] ∷ []) ∷ come (item 0 2 3 (Some (nat 0) ∷ []) ∷ []) ∷ []
unfolding is_wide_name through_levels of_pair of_unblocked faces is_blocker is_met built holds span blocks value_of value_of_node binary of_ints member
sides = simp terms

-- w :- x:a meet y:a, and w :- x:a unless contain y:a where y.k = y.k
both_members : changes (empty false (plan (1 ∷ 0 ∷ []) (rule 0 1 (Pair Meet 1) ∷ []))) ((1, at 5 []) ∷ []) ≡ come (item 0 5 5 [] ∷ []) ∷ []
unfolding is_wide_name through_levels of_pair is_met built holds span
both_members = refl

not_itself : changes (empty false (plan (1 ∷ 0 ∷ []) (record (rule 0 1 (Unless Contain 1)) { filter = Some (t.Bin op.Eq (t.Key 1 0) (t.Key 1 0)) } ∷ []))) ((1, at 5 (Some (nat 1) ∷ [])) ∷ (1, at 5 (Some (nat 2) ∷ [])) ∷ []) ≡ come (item 0 5 5 [] ∷ []) ∷ gone (item 0 5 5 [] ∷ []) ∷ []
unfolding is_wide_name through_levels of_unblocked faces is_blocker is_met built blocks value_of value_of_node binary member
not_itself = simp terms

-- the rover's three rules
rover : changes (empty false rover_plan) ((1, at 100 (Some (nat 1) ∷ [])) ∷ (2, at 150 (Some (nat 1) ∷ [])) ∷ (1, at 200 (Some (nat 2) ∷ [])) ∷ (5, at 230 []) ∷ (2, at 260 (Some (nat 2) ∷ [])) ∷ [])
    ≡ come [] ∷ come (item 0 100 150 (Some (nat 1) ∷ []) ∷ []) ∷ come [] ∷ come [] ∷ come (item 0 200 260 (Some (nat 2) ∷ []) ∷ item 3 100 260 (Some (nat 1) ∷ []) ∷ item 4 100 260 (Some (nat 1) ∷ []) ∷ []) ∷ []
unfolding is_wide_name through_levels of_pair is_met built holds span value_of value_of_node binary of_ints in_range member
rover = simp terms

-- pair :- a coincide b map { k -> b.k }; lone :- a unless contain c; reach :- a end a.begin + 4; hit :- d during reach; hit :- pair; calm :- reach unless contain hit
four_levels : changes (empty false (plan (1 ∷ 0 ∷ 0 ∷ 1 ∷ 0 ∷ 1 ∷ 2 ∷ 0 ∷ 3 ∷ []) (record (rule 0 1 (Pair Coincide 2)) { keys = 1; entries = record { place = 0; value = t.Key 1 0 } ∷ [] } ∷ rule 3 1 (Unless Contain 4)
    ∷ record (rule 5 1 One) { stop = Some (begin_and op.Add 4) } ∷ rule 6 7 (Pair During 5) ∷ rule 6 0 One ∷ rule 8 5 (Unless Contain 6) ∷ []))) ((7, at 0 []) ∷ (1, at 1 []) ∷ (2, at 2 (Some (nat 0) ∷ [])) ∷ (7, at 2 []) ∷ [])
    ≡ come [] ∷ come (item 3 1 1 [] ∷ item 5 1 5 [] ∷ item 8 1 5 [] ∷ []) ∷ come [] ∷ record { gone = item 8 1 5 [] ∷ []; come = item 6 1 5 [] ∷ [] } ∷ []
unfolding is_wide_name through_levels of_one of_pair of_unblocked faces is_blocker is_met built holds span blocks value_of value_of_node binary of_ints in_range member
four_levels = simp terms
