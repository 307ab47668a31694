-- The rules of a specification can be planned.
use Rattle.std.proofs.Common.{◌≡◌, ℕ, zero, suc, ◌+◌, ◌*◌, ◌≤◌, true, false, Bool, cond, List, [], ◌∷◌, ◌++◌, length, get_or, map, fold, flat_map, All, sym, subst, arith}
use Rattle.std.specs.List.{list_any}
use Rattle.std.proofs.lemmas.List.{length-append}
use Rattle.std.proofs.lemmas.List.Elements.{All-cons, All-head, All-tail, All-map, All-weaker}
use Rattle.nf_core.specs.Identifiers.{is_wide_name}
use Rattle.nf_core.specs.Kinds.{AreKindsRight}
use Rattle.nf_core.specs.Plan.{Plan}
use Rattle.nf_core.specs.Texts.{text_eq, IsPlain}
use Rattle.nf_core.specs.Trees.{atoms_of, expressions_of, tree, IsRule, IsWritten, IsWrittenTree}
use Rattle.nf_core.specs.Written.{Levels, names_in, names_of, plan_of, wide_last, texts_in, HasPlainTexts, HasValueNumbers, CanBePlanned}
use Rattle.nf_core.specs.declared.trees.Atom.{Atom}
use Rattle.nf_core.specs.declared.trees.Body.{Body}
use Rattle.nf_core.specs.declared.trees.Body.TheVariants.{One, Pair, Unless}
use Rattle.nf_core.specs.declared.trees.Rule.{Rule}
use Rattle.nf_spec.specs.Sources.{specification_limit}
use Rattle.nf_spec.specs.inner.Selecting.{size_of_rules}
use Rattle.nf_spec.specs.Specification.{HasIdentifiers}
use Rattle.nf_core.proofs.Public.NameLemmas.{length-wide_last, All-wide_last, not_wide_nothing, identifier_is_not_wide}
use Rattle.nf_core.proofs.Public.WrittenNumberLemmas.{HasValueNumbers-written}
use Rattle.nf_lemmas.proofs.ListLemmas.{All-flat_map}
use Rattle.nf_spec.proofs.EachOnceLemmas.{with_text, All-each_once}
use Rattle.nf_spec.proofs.ClauseLemmas.{IsName, AreBack, plain_texts}
use Rattle.nf_spec.proofs.KeyCountLemmas.{keys_few, keys_names}

-- at most 3 names a rule
names_in_few : (head : List ℕ) (body : Body) → length (head ∷ map (λ (atom : Atom). atom.name) (atoms_of body)) ≤ 3
names_in_few head (One first) = omega arith
names_in_few head (Pair first op second) = omega arith
names_in_few head (Unless first xop second) = omega arith

names_few : (rules : List Rule) → length (flat_map names_in rules) ≤ 3 * length rules
names_few [] = omega arith
names_few (rule ∷ rules) = omega (arith, length-append (names_in rule) (flat_map names_in rules), names_in_few rule.head rule.body, names_few rules)

with_text_few : (all : List (List ℕ)) (text : List ℕ) → length (with_text all text) ≤ length all + 1
with_text_few all text = at (list_any (text_eq text) all)
  where
    at : (b : Bool) → length (cond b all (all ++ text ∷ [])) ≤ length all + 1
    at true = omega arith
    at false = omega (arith, length-append all (text ∷ []))

with_texts_few : (texts all : List (List ℕ)) → length (fold with_text all texts) ≤ length all + length texts
with_texts_few [] all = omega arith
with_texts_few (text ∷ texts) all = omega (arith, with_texts_few texts (with_text all text), with_text_few all text)

names_of_few : (rules : List Rule) → length (names_of rules) ≤ 3 * length rules
names_of_few rules = omega (arith, with_texts_few (wide_last (flat_map names_in rules)) [], length-wide_last (flat_map names_in rules), names_few rules)

-- the names of a written rule are identifiers
rule_names : (rule : Rule) → IsWritten rule → All IsName (names_in rule)
rule_names rule written = All-cons IsName rule.head (map (λ (atom : Atom). atom.name) (atoms_of rule.body)) written.head (All-map IsName (λ (atom : Atom). atom.name) (atoms_of rule.body) written.names)

-- the names of written rules are identifiers
all_names : (rules : List Rule) → All IsWritten rules → All IsName (names_of rules)
all_names rules written =
    All-each_once IsName (wide_last (flat_map names_in rules))
    (All-wide_last IsName (flat_map names_in rules) (All-flat_map IsName names_in rules (All-weaker IsWritten (λ rule. All IsName (names_in rule)) rule_names rules written)))

-- so no name of their plan is wide
narrow_at : (names : List (List ℕ)) → All IsName names → (n : ℕ) → is_wide_name (get_or names n []) ≡ false
narrow_at [] h n = not_wide_nothing
narrow_at (name ∷ names) h zero = identifier_is_not_wide name (All-head IsName name names h)
narrow_at (name ∷ names) h (suc n) = narrow_at names (All-tail IsName name names h) n

pub has_identifiers : (rules : List Rule) (levels : Levels) (plan : Plan) → All IsWritten rules → plan ≡ plan_of rules levels → HasIdentifiers plan
has_identifiers rules levels plan written is =
    let names : All IsName plan.names = subst (λ (p : Plan). All IsName p.names) (sym is) (all_names rules written) in
    record { names = names; narrow = narrow_at plan.names names }

-- the texts of a written rule are plain
rule_texts : (rule : Rule) → IsWritten rule → HasPlainTexts rule
rule_texts rule written = All-weaker (λ a. IsWrittenTree (tree a)) (λ a. All IsPlain (texts_in (tree a))) (λ a w. plain_texts (tree a) w) (expressions_of rule) written.expressions

-- rules that can be written, of which there are few with their entries, and whose kinds are right
pub can_be_planned : AreBack → (rules : List Rule) → size_of_rules rules ≤ specification_limit → All IsWritten rules → All IsRule rules → All AreKindsRight rules → CanBePlanned rules
can_be_planned back rules few written limits right = record {
  few_rules = omega (arith, few);
  few_names = omega (arith, few, names_of_few rules);
  few_keys = λ k d low. omega (arith, few, keys_few back rules (get_or (names_of rules) k d) limits);
  identifiers = λ k d low narrow. record { name = all_names rules written k d low; keys = keys_names back rules (get_or (names_of rules) k d) written };
  kinds = right;
  numbers = All-weaker IsWritten HasValueNumbers HasValueNumbers-written rules written;
  plain = All-weaker IsWritten HasPlainTexts rule_texts rules written;
}
