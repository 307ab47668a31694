-- How the numbers of blockers move, and which results that makes.
use Rattle.std.specs.Prelude.{◌≡◌, ℕ, ◌+◌, ◌≤◌, Bool, false, not, ◌&&◌, ◌==◌, List, sum_by, None, option_to_list, ⊤, if◌then◌else◌}
use Rattle.nf_core.specs.Intervals.{Interval, same}
use Rattle.nf_core.specs.Sets.{has}
use Rattle.nf_core.specs.declared.terms.Link.{Link}
use Rattle.nf_core.specs.declared.terms.Link.TheVariants.{One, Pair, Unless}
use Rattle.nf_core.specs.declared.terms.PlanRule.{PlanRule}
use Rattle.nf_model.specs.Results.{faces, built_from}
use Rattle.nf_model.specs.Work.{clauses}
use Rattle.nf_tally.specs.Numbers.{Numbers, number, one_at, often, is_on}
use Rattle.nf_exclude.specs.Exclusions.{blocks_in}
use Rattle.nf_exclude.specs.declared.turns.Turn.{Turn}
use Rattle.nf_exclude.specs.declared.turns.Turn.TheVariants.{More, Fewer}

-- whether two intervals are one, where both atoms of an exclusive rule have one name
abbrev pub itself_by : PlanRule → Link → Interval → Interval → Bool
itself_by rule One i j = false
itself_by rule (Pair op n) i j = false
itself_by rule (Unless xop n) i j = (rule.first == n) && same i j

-- whether two intervals are one in a rule
unfoldable pub itself_in : PlanRule → Interval → Interval → Bool
itself_in rule i j = itself_by rule rule.link i j

-- whether j faces i by an exclusive rule's link
abbrev pub faces_by : PlanRule → Link → Interval → Interval → Bool
faces_by rule One i j = false
faces_by rule (Pair op n) i j = false
faces_by rule (Unless xop n) i j = faces xop (rule.first == n) i j

-- whether j faces i in a rule
unfoldable pub faces_in : PlanRule → Interval → Interval → Bool
faces_in rule i j = faces_by rule rule.link i j

-- how often q is what an interval gives, where these are the numbers of blockers
unfoldable pub worth : PlanRule → (Interval → ℕ) → Interval → Interval → ℕ
worth rule blockers q i = if is_on (blockers i) then 0 else often (option_to_list (built_from rule i None)) q

-- how often q is what some intervals give
abbrev pub given : PlanRule → (Interval → ℕ) → List Interval → Interval → ℕ
given rule blockers is q = sum_by (worth rule blockers q) is

-- 1 for a member of a list that j blocks
abbrev pub blocked_one : PlanRule → List Interval → Interval → Interval → ℕ
blocked_one rule members q j = if has members q && blocks_in rule q j then 1 else 0

-- 1 at an interval that j blocks, unless it is to be skipped
abbrev pub blocked_at : PlanRule → (skipped : List Interval) → (j i q : Interval) → ℕ
blocked_at rule skipped j i q = if not (has skipped i) && blocks_in rule i j then one_at i q else 0

-- all clauses of a rule for a pair of which j faces i
abbrev pub asked : PlanRule → Interval → Interval → ℕ
asked rule i j = if faces_in rule i j then clauses rule else 0

-- the numbers that are higher by a turn, and those that are lower
abbrev pub more : {X : Type 0} → Turn → X → X → X
more More old new = new
more Fewer old new = old

abbrev pub fewer : {X : Type 0} → Turn → X → X → X
fewer More old new = old
fewer Fewer old new = new

-- the numbers of blockers rise, or fall, by some gain; a list has got what the members give with the lower numbers and don't with the higher ones
pub record Turned (rule : PlanRule) (members : List Interval) (turn : Turn) (old new : Numbers) (out_old out_new : List Interval) (gain : Interval → ℕ) : Type 0 where
  pub numbers : (q : Interval) → number (more turn old new) q ≡ number (fewer turn old new) q + gain q
  pub out : (q : Interval) → often out_new q + given rule (number (more turn old new)) members q ≡ often out_old q + given rule (number (fewer turn old new)) members q

-- a number that falls is high enough
abbrev pub CanTurn : Turn → ℕ → ℕ → Type 0
CanTurn More gain n = ⊤
CanTurn Fewer gain n = gain ≤ n

-- numbers that have risen or fallen by a part of a total, of which the rest is left
pub record Walked (rule : PlanRule) (members : List Interval) (turn : Turn) (old new : Numbers) (out_old out_new : List Interval) (total rest : Interval → ℕ) : Type 0 where
  pub gained : Interval → ℕ
  pub turned : Turned rule members turn old new out_old out_new gained
  pub split : (q : Interval) → gained q + rest q ≡ total q

-- the numbers f where they are still to be set, at those of a list that are left, and elsewhere the numbers n that are there
abbrev pub set_left : (f n : Interval → ℕ) → (left : List Interval) → Interval → ℕ
set_left f n left q = if has left q then f q else n q
