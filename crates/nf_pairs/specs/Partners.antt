-- Which pairs of an interval with stored ones a rule with two atoms looks at.
use Rattle.std.specs.Prelude.{◌≡◌, Bool, true, false, List, Some, filter, ⊤}
use Rattle.std.specs.List.Sorted.{IsPermutation}
use Rattle.nf_core.specs.Intervals.{Interval}
use Rattle.nf_core.specs.Relations.{holds, blocks}
use Rattle.nf_core.specs.declared.terms.Link.{Link}
use Rattle.nf_core.specs.declared.terms.Link.TheVariants.{One, Pair, Unless}
use Rattle.nf_core.specs.declared.terms.PlanRule.{PlanRule}
use Rattle.nf_index.specs.declared.relations.Which.{Which}
use Rattle.nf_index.specs.declared.relations.Which.TheVariants.{First, Second}
use Rattle.nf_model.specs.Results.{is_met}

-- whether a link joins two atoms
abbrev pub HasTwoAtoms : Link → Type 0
HasTwoAtoms One = ⊥
HasTwoAtoms (Pair op n) = ⊤
HasTwoAtoms (Unless xop n) = ⊤

-- whether a pair stands in the relation of a link: of an inclusive one the operator's condition holds, and of an exclusive one the second interval blocks the first by the operator; no pair does where there is one atom
abbrev pub is_related : Link → Interval → Interval → Bool
is_related One i j = false
is_related (Pair op n) i j = holds i.start i.stop j.start j.stop op
is_related (Unless xop n) i j = blocks i.start i.stop j.start j.stop xop

-- what is said of a pair of an interval and a stored one, where the stored one is the first or the second
abbrev pub paired : {X : Type 0} → Which → (Interval → Interval → X) → (one stored : Interval) → X
paired First f one stored = f stored one
paired Second f one stored = f one stored

-- partners of an interval among a list: some of its members, each once; each of them is related, and none is missing that is related and meets `where`
pub record ArePartners (rule : PlanRule) (which : Which) (one : Interval) (all partners : List Interval) : Type 0 where
  pub among : Interval → Bool
  pub related : (j : Interval) → among j ≡ true → paired which (is_related rule.link) one j ≡ true
  pub complete : (j : Interval) → paired which (is_related rule.link) one j ≡ true
      → paired which (λ a b. is_met rule a (Some b)) one j ≡ true → among j ≡ true
  pub each : IsPermutation (filter among all) partners
