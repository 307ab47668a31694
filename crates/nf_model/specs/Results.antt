-- The results of a rule over whole lists of intervals, by all pairs.
use Rattle.std.specs.Prelude.{ℕ, ℤ, int_le, Bool, true, false, not, ◌&&◌, ◌==◌, List, map, filter, find, flat_map, filter_map, Option, Some, None, option_and_then, if◌then◌else◌}
use Rattle.std.specs.List.{list_any, range_with_len}
use Rattle.nf_core.specs.Relations.{holds, span, blocks}
use Rattle.nf_core.specs.Expressions.{value_of}
use Rattle.nf_core.specs.Intervals.{Interval, same}
use Rattle.nf_core.specs.declared.values.Value as value
use Rattle.nf_core.specs.declared.values.Value.TheVariants as variant
use Rattle.nf_core.specs.declared.operators.Op.{Op}
use Rattle.nf_core.specs.declared.operators.Xop.{Xop}
use Rattle.nf_core.specs.declared.terms.Term.{Term}
use Rattle.nf_core.specs.declared.terms.Link.{Link}
use Rattle.nf_core.specs.declared.terms.Link.TheVariants.{One, Pair, Unless}
use Rattle.nf_core.specs.declared.terms.PlanEntry.{PlanEntry}
use Rattle.nf_core.specs.declared.terms.PlanRule.{PlanRule}

-- whether a value is true
abbrev pub is_true : Option value.Value → Bool
is_true (Some (variant.Bool b)) = b
is_true (Some (variant.Int n)) = false
is_true (Some (variant.Text t)) = false
is_true None = false

-- the whole number of a value, where it is one
abbrev pub int_of : Option value.Value → Option ℤ
int_of (Some (variant.Bool b)) = None
int_of (Some (variant.Int n)) = Some n
int_of (Some (variant.Text t)) = None
int_of None = None

-- a clause `where` is met where its value is true, and where there is none
abbrev pub meets : Option Term → Interval → Option Interval → Bool
meets None i j = true
meets (Some filter) i j = is_true (value_of i j filter)

-- whether two members, or one, meet the rule's clause `where`
unfoldable pub is_met : PlanRule → Interval → Option Interval → Bool
is_met rule i j = meets rule.filter i j

-- an end point: the span's where the rule has no clause for it, else the clause's whole number, where it is one
abbrev pub end_point : Option Term → ℤ → Interval → Option Interval → Option ℤ
end_point None n i j = Some n
end_point (Some term) n i j = int_of (value_of i j term)

-- the value that the map gives a place of the head's keys; missing where it names no such key or the value is Undefined
abbrev pub cell_of : List PlanEntry → ℕ → Interval → Option Interval → Option value.Value
cell_of entries place i j = option_and_then (λ (entry : PlanEntry). value_of i j entry.value)
    (find (λ (entry : PlanEntry). entry.place == place) entries)

-- the row that the map gives, one cell for each key of the head
abbrev pub row_of : PlanRule → Interval → Option Interval → List (Option value.Value)
row_of rule i j = map (λ place. cell_of rule.entries place i j) (range_with_len 0 rule.keys)

-- an interval with a begin that isn't after its end
abbrev pub interval_from : Option ℤ → Option ℤ → List (Option value.Value) → Option Interval
interval_from (Some start) (Some stop) row =
    if int_le start stop then Some (record { start = start; stop = stop; row = row }) else None
interval_from (Some start) None row = None
interval_from None stop row = None

-- the result of a rule from its members and their span; none where an end point is Undefined or no whole number, or where begin is after end
unfoldable pub built : PlanRule → ℤ → ℤ → Interval → Option Interval → Option Interval
built rule start stop i j =
    interval_from (end_point rule.start start i j) (end_point rule.stop stop i j) (row_of rule i j)

-- the result that a rule builds from members, by its link: from an interval with its own span, from a pair with the operator's span, and of an exclusive rule from the first member alone, whatever the second one is
unfoldable pub built_by : PlanRule → Link → Interval → Option Interval → Option Interval
built_by rule One i second = built rule i.start i.stop i None
built_by rule (Pair op n) i None = None
built_by rule (Pair op n) i (Some j) =
    built rule (span i.start i.stop j.start j.stop op).0 (span i.start i.stop j.start j.stop op).1 i (Some j)
built_by rule (Unless xop n) i second = built rule i.start i.stop i None

-- the result that a rule builds from members
abbrev pub built_from : PlanRule → Interval → Option Interval → Option Interval
built_from rule i second = built_by rule rule.link i second

-- what a rule with one atom gives from an interval: its span, where `where` is met
unfoldable pub of_one : PlanRule → Interval → Option Interval
of_one rule i = if is_met rule i None then built rule i.start i.stop i None else None

-- what an inclusive rule gives from a pair: the operator's span, where the operator's condition holds and `where` is met
unfoldable pub of_pair : PlanRule → Op → Interval → Interval → Option Interval
of_pair rule op i j =
    if holds i.start i.stop j.start j.stop op && is_met rule i (Some j)
    then built rule (span i.start i.stop j.start j.stop op).0 (span i.start i.stop j.start j.stop op).1 i (Some j)
    else None

-- whether j faces i: it blocks i by the operator, and isn't i itself, which it is where both atoms have one name and the two are the same
unfoldable pub faces : Xop → Bool → Interval → Interval → Bool
faces xop one_name i j = blocks i.start i.stop j.start j.stop xop && not (one_name && same i j)

-- a blocker of i is an interval that faces it and with which `where` is met
unfoldable pub is_blocker : PlanRule → Xop → Bool → Interval → Interval → Bool
is_blocker rule xop one_name i j = faces xop one_name i j && is_met rule i (Some j)

-- what an exclusive rule gives from an interval: its span, where no other one blocks it. Its clauses read that interval alone
unfoldable pub of_unblocked : PlanRule → Xop → Bool → List Interval → Interval → Option Interval
of_unblocked rule xop one_name others i =
    if list_any (is_blocker rule xop one_name i) others then None else built rule i.start i.stop i None

-- the results by a link, over the intervals of the first name and of the second one, in the order of these lists
abbrev pub results_by : PlanRule → Link → List Interval → List Interval → List Interval
results_by rule One firsts seconds = filter_map (of_one rule) firsts
results_by rule (Pair op n) firsts seconds = flat_map (λ i. filter_map (of_pair rule op i) seconds) firsts
results_by rule (Unless xop n) firsts seconds = filter_map (of_unblocked rule xop (rule.first == n) seconds) firsts

-- the results of a rule
abbrev pub results : PlanRule → List Interval → List Interval → List Interval
results rule firsts seconds = results_by rule rule.link firsts seconds
