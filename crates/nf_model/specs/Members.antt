-- What the clauses of a rule need: a rule of a plan, and members that have what the clauses read.
use Rattle.std.specs.Prelude.{◌≡◌, ℕ, [], ◌++◌, length, slice_index_or, List, map, Option, None, Some, option_to_list, All, IsTrue, ◌≤ℤ◌, ⊤}
use Rattle.nf_core.specs.Texts.{IsPlain}
use Rattle.nf_core.specs.Expressions.{reads_within, widths_of, texts_of}
use Rattle.nf_core.specs.Intervals.{Interval}
use Rattle.nf_core.specs.Plan.{Plan, IsPlan, IsRuleOf, keys_of}
use Rattle.nf_core.specs.Relations.{holds}
use Rattle.nf_core.specs.declared.operators.Op.{Op}
use Rattle.nf_core.specs.declared.operators.Xop.{Xop}
use Rattle.nf_core.specs.declared.terms.Term.{Term}
use Rattle.nf_core.specs.declared.terms.Link.{Link}
use Rattle.nf_core.specs.declared.terms.Link.TheVariants.{One, Pair, Unless}
use Rattle.nf_core.specs.declared.terms.PlanEntry.{PlanEntry}
use Rattle.nf_core.specs.declared.terms.PlanRule.{PlanRule}

-- a rule of some plan
pub record IsPlanned (rule : PlanRule) : Type 0 where
  pub plan : Plan
  pub valid : IsPlan plan
  pub of_plan : IsRuleOf plan rule

-- the expressions that a rule's result is made by: those of its map, `begin` and `end`
abbrev pub result_terms : PlanRule → List Term
result_terms rule = map (λ (entry : PlanEntry). entry.value) rule.entries
    ++ (option_to_list rule.start ++ option_to_list rule.stop)

-- the expressions of all clauses
abbrev pub clause_terms : PlanRule → List Term
clause_terms rule = option_to_list rule.filter ++ result_terms rule

-- the rows of the members, of which the second one may be missing, have every place that some expressions read of them
abbrev pub HavePlaces : List Term → Interval → Option Interval → Type 0
HavePlaces terms i second = All (λ term. IsTrue (reads_within (widths_of i second) term)) terms

-- an entry of a map of which the rows of the members have every place that it reads, and whose texts may stand in a row
pub record IsEntryOver (i : Interval) (second : Option Interval) (entry : PlanEntry) : Type 0 where
  pub places : IsTrue (reads_within (widths_of i second) entry.value)
  pub plain : All IsPlain (texts_of entry.value)

-- there is a second member exactly where a rule has two atoms
abbrev pub IsForLink : Link → Option Interval → Type 0
IsForLink One None = ⊤
IsForLink One (Some j) = ⊥
IsForLink (Pair op n) None = ⊥
IsForLink (Pair op n) (Some j) = ⊤
IsForLink (Unless xop n) None = ⊥
IsForLink (Unless xop n) (Some j) = ⊤

-- members from which a rule with this link builds its result: one interval, a pair of which the operator's condition holds, and of an exclusive rule the first one, whatever the second one is
abbrev pub CanBeBuiltFrom : Link → Interval → Option Interval → Type 0
CanBeBuiltFrom One i None = ⊤
CanBeBuiltFrom One i (Some j) = ⊥
CanBeBuiltFrom (Pair op n) i None = ⊥
CanBeBuiltFrom (Pair op n) i (Some j) = IsTrue (holds i.start i.stop j.start j.stop op)
CanBeBuiltFrom (Unless xop n) i second = ⊤

-- the second member that a rule's result reads: that of an inclusive rule
abbrev pub joined : Link → Option Interval → Option Interval
joined One second = None
joined (Pair op n) second = second
joined (Unless xop n) second = None

-- the rows of the intervals of two lists have every place that a rule reads of them, by its link: in an exclusive rule `where` reads both of a pair, and the result's expressions read the first one
abbrev pub HaveAllPlaces : PlanRule → Link → List Interval → List Interval → Type 0
HaveAllPlaces rule One firsts seconds = All (λ i. HavePlaces (clause_terms rule) i None) firsts
HaveAllPlaces rule (Pair op n) firsts seconds =
    All (λ i. All (λ j. HavePlaces (clause_terms rule) i (Some j)) seconds) firsts
HaveAllPlaces rule (Unless xop n) firsts seconds =
    All (λ i. All (λ j. HavePlaces (option_to_list rule.filter) i (Some j)) seconds) firsts
    × All (λ i. HavePlaces (result_terms rule) i None) firsts

-- the link of an inclusive rule with this operator
abbrev pub IsPairBy : Op → Link → Type 0
IsPairBy op One = ⊥
IsPairBy op (Pair own n) = own ≡ op
IsPairBy op (Unless xop n) = ⊥

-- the link of an exclusive rule with this operator
abbrev pub IsUnlessBy : Xop → Link → Type 0
IsUnlessBy xop One = ⊥
IsUnlessBy xop (Pair op n) = ⊥
IsUnlessBy xop (Unless own n) = own ≡ xop

-- the row of an interval of a name has a cell for each of the name's keys
abbrev pub IsOfKeys : Plan → ℕ → Interval → Type 0
IsOfKeys plan n i = length i.row ≡ length (keys_of plan n)

-- and so has that of each interval of each name
abbrev pub AreOfKeys : Plan → List (List Interval) → Type 0
AreOfKeys plan lists = (n : ℕ) → All (IsOfKeys plan n) (slice_index_or lists n [])

-- an interval begins no later than it ends
abbrev pub IsInTime : Interval → Type 0
IsInTime i = i.start ≤ℤ i.stop
