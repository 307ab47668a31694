-- The rows of a plan's intervals have every place that its rules read.
use Rattle.std.proofs.Common.{◌≡◌, ℕ, List, [], ◌∷◌, ◌++◌, length, map, Option, Some, None, option_to_list, All, IsTrue, ap, sym, ◌∙◌, subst, refl}
use Rattle.std.specs.Prelude.{⊤}
use Rattle.std.proofs.lemmas.List.Elements.{All-head, All-tail, All-nil, All-cons, All-append, All-map, All-weaker}
use Rattle.nf_core.specs.Expressions.{reads_within, widths_of}
use Rattle.nf_core.specs.Intervals.{Interval}
use Rattle.nf_core.specs.Plan.{Plan, IsRuleOf, IsEntryOf, IsTermOver, keys_of, widths_of_names, body_names, result_names, second_name, joined_name}
use Rattle.nf_core.specs.declared.operators.Xop.{Xop}
use Rattle.nf_core.specs.declared.terms.Term.{Term}
use Rattle.nf_core.specs.declared.terms.Link.{Link}
use Rattle.nf_core.specs.declared.terms.Link.TheVariants.{One, Pair, Unless}
use Rattle.nf_core.specs.declared.terms.PlanEntry.{PlanEntry}
use Rattle.nf_core.specs.declared.terms.PlanRule.{PlanRule}
use Rattle.nf_model.specs.Members.{IsPlanned, IsEntryOver, HavePlaces, joined, HaveAllPlaces, IsOfKeys, AreOfKeys, result_terms, clause_terms}
use Rattle.nf_model.specs.Pools.{Inputs, of_name, second_of}
use Rattle.nf_model.proofs.ListLemmas.{All-left, All-right}

pub All-of_map : {X Y : Type 0} (P : Y → Type 0) (f : X → Y) (xs : List X) → All P (map f xs) → All (λ x. P (f x)) xs
All-of_map P f [] h = All-nil (λ x. P (f x))
All-of_map P f (x ∷ xs) h = All-cons (λ x. P (f x)) x xs (All-head P (f x) (map f xs) h) (All-of_map P f xs (All-tail P (f x) (map f xs) h))

module _ (i : Interval) (second : Option Interval) where
  abbrev Reads : Term → Type 0
  Reads term = IsTrue (reads_within (widths_of i second) term)

  -- what is asked of the parts of a result's expressions
  pub entries_over : (rule : PlanRule) → IsPlanned rule → HavePlaces (result_terms rule) i second → All (IsEntryOver i second) rule.entries
  entries_over rule planned places =
      let read : All (λ (entry : PlanEntry). Reads entry.value) rule.entries =
      All-of_map Reads (λ (entry : PlanEntry). entry.value) rule.entries
      (All-left Reads (map (λ (entry : PlanEntry). entry.value) rule.entries) (option_to_list rule.start ++ option_to_list rule.stop) places) in
      λ k d within. record { places = read k d within; plain = (planned.of_plan.entries k d within).value.plain }

  ends : (rule : PlanRule) → HavePlaces (result_terms rule) i second → HavePlaces (option_to_list rule.start ++ option_to_list rule.stop) i second
  ends rule places = All-right Reads (map (λ (entry : PlanEntry). entry.value) rule.entries) (option_to_list rule.start ++ option_to_list rule.stop) places

  pub start_read : (rule : PlanRule) (clause : Option Term) → clause ≡ rule.start → HavePlaces (result_terms rule) i second → HavePlaces (option_to_list clause) i second
  start_read rule clause is places =
      subst (λ (c : Option Term). HavePlaces (option_to_list c) i second) (sym is)
      (All-left Reads (option_to_list rule.start) (option_to_list rule.stop) (ends rule places))

  pub stop_read : (rule : PlanRule) (clause : Option Term) → clause ≡ rule.stop → HavePlaces (result_terms rule) i second → HavePlaces (option_to_list clause) i second
  stop_read rule clause is places =
      subst (λ (c : Option Term). HavePlaces (option_to_list c) i second) (sym is)
      (All-right Reads (option_to_list rule.start) (option_to_list rule.stop) (ends rule places))

  -- the parts of all expressions
  pub filter_read : (rule : PlanRule) → HavePlaces (clause_terms rule) i second → HavePlaces (option_to_list rule.filter) i second
  filter_read rule places = All-left Reads (option_to_list rule.filter) (result_terms rule) places

  pub result_read : (rule : PlanRule) → HavePlaces (clause_terms rule) i second → HavePlaces (result_terms rule) i second
  result_read rule places = All-right Reads (option_to_list rule.filter) (result_terms rule) places

  -- expressions over names are read where the rows are as wide as the names say
  module _ (plan : Plan) (names : List ℕ) (widths : widths_of i second ≡ widths_of_names plan names) where
    term_reads : (term : Term) → IsTermOver plan names term → Reads term
    term_reads term over = subst (λ ws. IsTrue (reads_within ws term)) (sym widths) over.reads

    terms_read : (terms : List Term) → All (IsTermOver plan names) terms → HavePlaces terms i second
    terms_read terms over = All-weaker (IsTermOver plan names) Reads term_reads terms over

  rule_filter_read : (plan : Plan) (rule : PlanRule) → IsRuleOf plan rule → widths_of i second ≡ widths_of_names plan (body_names rule)
      → HavePlaces (option_to_list rule.filter) i second
  rule_filter_read plan rule valid widths = terms_read plan (body_names rule) widths (option_to_list rule.filter) valid.filter

  rule_result_read : (plan : Plan) (rule : PlanRule) → IsRuleOf plan rule → widths_of i second ≡ widths_of_names plan (result_names rule)
      → HavePlaces (result_terms rule) i second
  rule_result_read plan rule valid widths =
      let over : Term → Type 0 = IsTermOver plan (result_names rule) in
      All-append Reads (map (λ (entry : PlanEntry). entry.value) rule.entries) (option_to_list rule.start ++ option_to_list rule.stop)
      (All-map Reads (λ (entry : PlanEntry). entry.value) rule.entries
      (All-weaker (IsEntryOf plan rule) (λ (entry : PlanEntry). Reads entry.value) (λ entry of. term_reads plan (result_names rule) widths entry.value of.value) rule.entries valid.entries))
      (terms_read plan (result_names rule) widths (option_to_list rule.start ++ option_to_list rule.stop)
      (All-append over (option_to_list rule.start) (option_to_list rule.stop) valid.start valid.stop))

  rule_read : (plan : Plan) (rule : PlanRule) → IsRuleOf plan rule → widths_of i second ≡ widths_of_names plan (body_names rule)
      → widths_of i second ≡ widths_of_names plan (result_names rule) → HavePlaces (clause_terms rule) i second
  rule_read plan rule valid body result_widths =
      All-append Reads (option_to_list rule.filter) (result_terms rule) (rule_filter_read plan rule valid body) (rule_result_read plan rule valid result_widths)

-- the rows of some intervals have a cell for each key of a link's second name
abbrev pub AreOfSecond : Plan → Link → List Interval → Type 0
AreOfSecond plan One seconds = ⊤
AreOfSecond plan (Pair op n) seconds = All (IsOfKeys plan n) seconds
AreOfSecond plan (Unless xop n) seconds = All (IsOfKeys plan n) seconds

module _ (plan : Plan) (rule : PlanRule) (valid : IsRuleOf plan rule) where
  abbrev width : ℕ → ℕ
  width n = length (keys_of plan n)

  of_one : (names : List ℕ) → names ≡ [] → (i : Interval) → IsOfKeys plan rule.first i → widths_of i None ≡ widths_of_names plan (rule.first ∷ names)
  of_one names is i h = ap (λ n. n ∷ []) h ∙ ap (λ ns. widths_of_names plan (rule.first ∷ ns)) (sym is)

  of_two : (names : List ℕ) (n : ℕ) → names ≡ n ∷ [] → (i j : Interval) → IsOfKeys plan rule.first i → IsOfKeys plan n j
      → widths_of i (Some j) ≡ widths_of_names plan (rule.first ∷ names)
  of_two names n is i j g h =
      ap (λ m. m ∷ length j.row ∷ []) g ∙ ap (λ m. width rule.first ∷ m ∷ []) h ∙ ap (λ ns. widths_of_names plan (rule.first ∷ ns)) (sym is)

  -- the intervals of a rule's names have every place that it reads
  read_by : (link : Link) → rule.link ≡ link → (firsts seconds : List Interval) → All (IsOfKeys plan rule.first) firsts → AreOfSecond plan link seconds
      → HaveAllPlaces rule link firsts seconds
  read_by One is firsts seconds rows others =
      All-weaker (IsOfKeys plan rule.first) (λ i. HavePlaces (clause_terms rule) i None)
      (λ i h. rule_read i None plan rule valid (of_one (second_name rule.link) (ap second_name is) i h) (of_one (joined_name rule.link) (ap joined_name is) i h))
      firsts rows
  read_by (Pair op n) is firsts seconds rows others =
      All-weaker (IsOfKeys plan rule.first) (λ i. All (λ j. HavePlaces (clause_terms rule) i (Some j)) seconds)
      (λ i g. All-weaker (IsOfKeys plan n) (λ j. HavePlaces (clause_terms rule) i (Some j))
      (λ j h. rule_read i (Some j) plan rule valid (of_two (second_name rule.link) n (ap second_name is) i j g h) (of_two (joined_name rule.link) n (ap joined_name is) i j g h))
      seconds others)
      firsts rows
  read_by (Unless xop n) is firsts seconds rows others = (
    All-weaker (IsOfKeys plan rule.first) (λ i. All (λ j. HavePlaces (option_to_list rule.filter) i (Some j)) seconds)
        (λ i g. All-weaker (IsOfKeys plan n) (λ j. HavePlaces (option_to_list rule.filter) i (Some j))
        (λ j h. rule_filter_read i (Some j) plan rule valid (of_two (second_name rule.link) n (ap second_name is) i j g h))
        seconds others)
        firsts rows,
    All-weaker (IsOfKeys plan rule.first) (λ i. HavePlaces (result_terms rule) i None)
        (λ i h. rule_result_read i None plan rule valid (of_one (joined_name rule.link) (ap joined_name is) i h))
        firsts rows,
  )

  -- whatever two lists these intervals stand in
  pub read_of_lists : (firsts seconds : List Interval) → All (IsOfKeys plan rule.first) firsts → AreOfSecond plan rule.link seconds → HaveAllPlaces rule rule.link firsts seconds
  read_of_lists firsts seconds rows others = read_by rule.link refl firsts seconds rows others

  pub read_of : (lists : Inputs) → AreOfKeys plan lists → HaveAllPlaces rule rule.link (of_name lists rule.first) (second_of (of_name lists) rule.link)
  read_of lists rows = read_of_lists (of_name lists rule.first) (second_of (of_name lists) rule.link) (rows rule.first) (seconds_of rule.link)
    where
      seconds_of : (link : Link) → AreOfSecond plan link (second_of (of_name lists) link)
      seconds_of One = tt
      seconds_of (Pair op n) = rows n
      seconds_of (Unless xop n) = rows n

  -- the same of two members of an exclusive rule
  pub unless_filter_read : (xop : Xop) (n : ℕ) → rule.link ≡ Unless xop n → (i j : Interval) → IsOfKeys plan rule.first i → IsOfKeys plan n j
      → HavePlaces (option_to_list rule.filter) i (Some j)
  unless_filter_read xop n is i j g h = rule_filter_read i (Some j) plan rule valid (of_two (second_name rule.link) n (ap second_name is) i j g h)

  pub unless_result_read : (xop : Xop) (n : ℕ) → rule.link ≡ Unless xop n → (i j : Interval) → IsOfKeys plan rule.first i
      → HavePlaces (result_terms rule) i (joined rule.link (Some j))
  unless_result_read xop n is i j h =
      subst (λ (link : Link). HavePlaces (result_terms rule) i (joined link (Some j))) (sym is)
      (rule_result_read i None plan rule valid (of_one (joined_name rule.link) (ap joined_name is) i h))
