-- The kinds of rules, judged one after the other.
use Rattle.std.proofs.Common.{◌≡◌, ℕ, suc, ◌+◌, ◌<◌, ◌≤◌, List, length, get_or, take, drop, All, refl, sym, ap, subst, ◌∙◌, arith, Some, None, Option}
use Rattle.std.proofs.lemmas.List.{drop_more, take_all, drop_all}
use Rattle.std.proofs.lemmas.List.Elements.{All-nil, All-more}
use Rattle.nf_core.specs.Kinds.{AreKindsRight}
use Rattle.nf_core.specs.Trees.{Rule, IsRule}
use Rattle.nf_typing.specs.Faults.{fault_of}
use Rattle.nf_typing.specs.declared.fault.KindFault.{KindFault}
use Rattle.nf_spec.specs.Specification.{kind_fault, kind_fault_at, kind_fault_from}

-- the rules before a place were judged: the first fault of all is that of the rules from the place on, and their kinds are right
pub record AreJudged (rules : List Rule) (place : ℕ) : Type 0 where
  pub left : kind_fault rules ≡ kind_fault_from (suc place) (drop place rules)
  pub right : All AreKindsRight (take place rules)
  pub limits : All IsRule (take place rules)

pub none_judged : (rules : List Rule) → AreJudged rules 0
none_judged rules = record { left = refl; right = All-nil AreKindsRight; limits = All-nil IsRule }

-- the faults of the rules from a place on, from that of the rule there
from_place : (rules : List Rule) (place : ℕ) (rule : Rule) (fault : Option KindFault) → place < length rules → rule ≡ get_or rules place rule → fault ≡ fault_of rule
    → kind_fault_from (suc place) (drop place rules) ≡ kind_fault_at (suc place) fault (kind_fault_from (suc (suc place)) (drop (place + 1) rules))
unfolding kind_fault_from
from_place rules place rule fault low at is =
    ap (kind_fault_from (suc place)) (drop_more rules place rule low)
    ∙ ap (λ f. kind_fault_at (suc place) f (kind_fault_from (suc (suc place)) (drop (place + 1) rules))) (ap fault_of (sym at) ∙ sym is)

-- the rule at a place is right
pub one_judged : (rules : List Rule) (place : ℕ) (rule : Rule) → place < length rules → rule ≡ get_or rules place rule → None ≡ fault_of rule → AreKindsRight rule → IsRule rule → AreJudged rules place → AreJudged rules (place + 1)
one_judged rules place rule low at none kinds limits before =
    let next : suc place ≡ place + 1 = omega arith in
    record {
      left = before.left ∙ from_place rules place rule None low at none ∙ ap (λ n. kind_fault_from (suc n) (drop (place + 1) rules)) next;
      right = All-more AreKindsRight rules place rule low before.right (subst AreKindsRight at kinds);
      limits = All-more IsRule rules place rule low before.limits (subst IsRule at limits);
    }

-- the rule at a place is refused
pub one_unjudged : (rules : List Rule) (place : ℕ) (rule : Rule) (fault : KindFault) → place < length rules → rule ≡ get_or rules place rule → Some fault ≡ fault_of rule → AreJudged rules place → kind_fault rules ≡ Some (place + 1, fault)
one_unjudged rules place rule fault low at some before =
    let next : suc place ≡ place + 1 = omega arith in
    before.left ∙ from_place rules place rule (Some fault) low at some ∙ ap (λ n. Some (n, fault)) next

-- all rules were judged
pub all_judged : (rules : List Rule) (place : ℕ) → length rules ≤ place → AreJudged rules place → (kind_fault rules ≡ None) × (All AreKindsRight rules × All IsRule rules)
unfolding kind_fault_from
all_judged rules place end before =
    let all = take_all place rules end in
    (before.left ∙ ap (kind_fault_from (suc place)) (drop_all place rules end), (subst (All AreKindsRight) all before.right, subst (All IsRule) all before.limits))
