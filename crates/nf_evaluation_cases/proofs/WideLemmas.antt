-- The rules `|1 :- a before b` and `w :- |1`, of which one has a wide name, can be planned.
use Rattle.std.proofs.Common.{◌≡◌, ◌<◌, ◌^◌, ℕ, List, [], ◌∷◌, ◌++◌, length, None, refl, sym, ◌∙◌, ap, subst, true≢false, arith}
use Rattle.std.specs.Prelude.{codes}
use Rattle.std.specs.List.{IsDistinct}
use Rattle.std.proofs.lemmas.List.Elements.{All-nil, All-from_recursion}
use Rattle.nf_core.specs.Identifiers.{is_identifier, is_wide_name, has_name_form, keywords}
use Rattle.nf_core.specs.Kinds.{AreKindsRight}
use Rattle.nf_core.specs.Trees.{rule_from}
use Rattle.nf_core.specs.Written.{CanBePlanned, HasPlainTexts, HasValueNumbers, IsWritableIn, names_of, keys_of_name}
use Rattle.nf_core.specs.declared.operators.Op.TheVariants.{Before}
use Rattle.nf_core.specs.declared.trees.Atom.{Atom}
use Rattle.nf_core.specs.declared.trees.Body.{Body}
use Rattle.nf_core.specs.declared.trees.Body.TheVariants.{One, Pair}
use Rattle.nf_core.specs.declared.trees.Rule.{Rule}

abbrev pub atom : List ℕ → Atom
atom name = record { label = name; name = name }

abbrev pub bare : List ℕ → Body → Rule
bare head body = rule_from head body None [] None None

abbrev pub wide_rules : List Rule
wide_rules = bare (codes "|1") (Pair (atom (codes "a")) Before (atom (codes "b"))) ∷ bare (codes "w") (One (atom (codes "|1"))) ∷ []

can_be_planned : CanBePlanned wide_rules
unfolding is_identifier has_name_form is_wide_name keywords IsDistinct
can_be_planned = record {
  few_rules = omega arith;
  few_names = omega arith;
  few_keys = All-from_recursion (λ name. length (keys_of_name wide_rules name) < 2 ^ 32) (names_of wide_rules) (omega arith, (omega arith, (omega arith, (omega arith, tt))));
  identifiers = All-from_recursion (IsWritableIn wide_rules) (names_of wide_rules) (
    λ narrow. record { name = refl; keys = All-nil _ },
    (λ narrow. record { name = refl; keys = All-nil _ }, (λ narrow. record { name = refl; keys = All-nil _ }, (λ narrow. absurd (true≢false narrow), tt))),
  );
  kinds = All-from_recursion AreKindsRight wide_rules (
    record { labels = ((refl, tt), (tt, tt)); filter = All-nil _; keys = tt; entries = All-nil _; start = All-nil _; stop = All-nil _ },
    (record { labels = (tt, tt); filter = All-nil _; keys = tt; entries = All-nil _; start = All-nil _; stop = All-nil _ }, tt),
  );
  numbers = All-from_recursion HasValueNumbers wide_rules (All-nil _, (All-nil _, tt));
  plain = All-from_recursion HasPlainTexts wide_rules (All-nil _, (All-nil _, tt));
}

-- so can rules that were put together from these parts
pub planned : (first second third : Atom) (one two : Rule) (none some all : List Rule) → first ≡ atom (codes "a") → second ≡ atom (codes "b") → third ≡ atom (codes "|1")
    → one ≡ bare (codes "|1") (Pair first Before second) → two ≡ bare (codes "w") (One third) → none ≡ [] → some ≡ none ++ one ∷ [] → all ≡ some ++ two ∷ [] → CanBePlanned all
planned first second third one two none some all a b c o w n s t =
    subst CanBePlanned (sym (t ∙ ap (λ (rules : List Rule). rules ++ two ∷ []) (s ∙ ap (λ (rules : List Rule). rules ++ one ∷ []) n) ∙ both)) can_be_planned
  where
    one_is : one ≡ bare (codes "|1") (Pair (atom (codes "a")) Before (atom (codes "b")))
    one_is = o ∙ (λ i. bare (codes "|1") (Pair (a i) Before (b i)))

    two_is : two ≡ bare (codes "w") (One (atom (codes "|1")))
    two_is = w ∙ (λ i. bare (codes "w") (One (c i)))

    both : one ∷ two ∷ [] ≡ wide_rules
    both = λ i. one_is i ∷ two_is i ∷ []
