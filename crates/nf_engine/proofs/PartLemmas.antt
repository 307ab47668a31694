-- A rule's part, its results and its work depend on the pools of the names that it reads.
use Rattle.std.proofs.Common.{◌≡◌, ℕ, ◌+◌, ◌*◌, ◌==◌, Bool, true, false, ◌||◌, List, ◌∷◌, Option, Some, None, refl, ap, ◌∙◌, subst}
use Rattle.std.specs.List.{list_any}
use Rattle.std.proofs.lemmas.Bool.{eq-eqb}
use Rattle.nf_core.specs.Intervals.{Interval}
use Rattle.nf_core.specs.Plan.{second_name}
use Rattle.nf_core.specs.declared.terms.Link.{Link}
use Rattle.nf_core.specs.declared.terms.Link.TheVariants.{One, Pair, Unless}
use Rattle.nf_core.specs.declared.terms.PlanRule.{PlanRule}
use Rattle.nf_model.specs.Levels.{Pools}
use Rattle.nf_model.specs.Results.{results, results_by}
use Rattle.nf_model.specs.Pools.{second_of, results_over}
use Rattle.nf_model.specs.Work.{Sides, rule_work, sides_of, touched, pairs_by, made_anew, clauses, values}
use Rattle.nf_engine.specs.declared.parts.RulePart.{RulePart}
use Rattle.nf_engine.specs.inner.Parts.{StandsFor, second_number, IsPartOf}
use Rattle.nf_engine.specs.inner.Rounds.{reads}

-- ---- a rule reads its two names
or_true : (b : Bool) → (b || true) ≡ true
or_true true = refl
or_true false = refl

second_read : (first : ℕ) (link : Link) → list_any (λ m. m == second_number first link) (first ∷ second_name link) ≡ true
second_read first One = ap (λ b. b || false) (eq-eqb first first refl)
second_read first (Pair op n) = ap (λ b. (first == n) || (b || false)) (eq-eqb n n refl) ∙ or_true (first == n)
second_read first (Unless xop n) = ap (λ b. (first == n) || (b || false)) (eq-eqb n n refl) ∙ or_true (first == n)

pub reads_first : (rule : PlanRule) → reads rule rule.first ≡ true
reads_first rule = ap (λ b. b || list_any (λ m. m == rule.first) (second_name rule.link)) (eq-eqb rule.first rule.first refl)

pub reads_second : (rule : PlanRule) → reads rule (second_number rule.first rule.link) ≡ true
reads_second rule = second_read rule.first rule.link

-- ---- pools that agree where a rule reads
module _ (rule : PlanRule) (P Q : Pools) (alike : (m : ℕ) → reads rule m ≡ true → P m ≡ Q m) where
  first_alike : P rule.first ≡ Q rule.first
  first_alike = alike rule.first (reads_first rule)

  second_alike : P (second_number rule.first rule.link) ≡ Q (second_number rule.first rule.link)
  second_alike = alike (second_number rule.first rule.link) (reads_second rule)

  pub part_alike : (part : Option RulePart) → IsPartOf rule P part → IsPartOf rule Q part
  part_alike None h = h
  part_alike (Some part) h = (
    h.0,
    subst (λ (is : List Interval). StandsFor part (Q rule.first) is) second_alike
        (subst (λ (is : List Interval). StandsFor part is (P (second_number rule.first rule.link))) first_alike h.1),
  )

  linked : (link : Link) → P (second_number rule.first link) ≡ Q (second_number rule.first link) → second_of P link ≡ second_of Q link
  linked One e = refl
  linked (Pair op n) e = e
  linked (Unless xop n) e = e

  pub results_alike : results_over P rule ≡ results_over Q rule
  results_alike =
      ap (λ (is : List Interval). results rule is (second_of P rule.link)) first_alike
      ∙ ap (λ (is : List Interval). results rule (Q rule.first) is) (linked rule.link second_alike)

  pub sides_alike : sides_of P rule ≡ sides_of Q rule
  sides_alike =
      ap (λ (is : List Interval). let s : Sides = record { firsts = is; seconds = second_of P rule.link } in s) first_alike
      ∙ ap (λ (is : List Interval). let s : Sides = record { firsts = Q rule.first; seconds = is } in s) (linked rule.link second_alike)

-- ---- with one atom it doesn't matter what the second list is
by_link : (rule : PlanRule) (link : Link) (P : Pools) (firsts : List Interval)
    → results_by rule link firsts (P (second_number rule.first link)) ≡ results_by rule link firsts (second_of P link)
by_link rule One P firsts = refl
by_link rule (Pair op n) P firsts = refl
by_link rule (Unless xop n) P firsts = refl

pub results_read : (rule : PlanRule) (P : Pools) → results rule (P rule.first) (P (second_number rule.first rule.link)) ≡ results_over P rule
results_read rule P = by_link rule rule.link P (P rule.first)

-- the two lists that are read for a rule
abbrev pub lists_of : Pools → PlanRule → Sides
lists_of P rule = record { firsts = P rule.first; seconds = P (second_number rule.first rule.link) }

-- the work by a link
abbrev work_by_link : PlanRule → Link → (before now : Sides) → ℕ
work_by_link rule link before now =
    touched (pairs_by rule link before) (pairs_by rule link now) * clauses rule + made_anew link before now * values rule

work_linked : (rule : PlanRule) (link : Link) (P Q : Pools)
    → work_by_link rule link (record { firsts = P rule.first; seconds = P (second_number rule.first link) }) (record { firsts = Q rule.first; seconds = Q (second_number rule.first link) })
    ≡ work_by_link rule link (record { firsts = P rule.first; seconds = second_of P link }) (record { firsts = Q rule.first; seconds = second_of Q link })
work_linked rule One P Q = refl
work_linked rule (Pair op n) P Q = refl
work_linked rule (Unless xop n) P Q = refl

pub work_read : (rule : PlanRule) (P Q : Pools) → rule_work rule (lists_of P rule) (lists_of Q rule) ≡ rule_work rule (sides_of P rule) (sides_of Q rule)
unfolding rule_work
work_read rule P Q = work_linked rule rule.link P Q
