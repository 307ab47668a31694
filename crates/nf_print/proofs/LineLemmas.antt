-- The canonical line of a rule spells the rule.
use Rattle.std.proofs.Common.{◌≡◌, ℕ, ◌+◌, ◌↔◌, true, List, [], ◌∷◌, ◌++◌, map, length, refl, sym, subst, arith, All, length-append}
use Rattle.std.specs.Prelude.{option_to_list}
use Rattle.std.proofs.lemmas.List.{get_or_append_left, get_or-append-add}
use Rattle.std.proofs.lemmas.List.Elements.{All-nil, All-cons, All-head, All-tail}
use Rattle.nf_core.specs.Texts.{IsPlain}
use Rattle.nf_core.specs.Trees.{Rule, tree, expr_of, IsWrittenTree, IsWithinLimits, IsWritten, IsRule}
use Rattle.nf_core.specs.declared.trees.Expr.{Expr}
use Rattle.nf_core.specs.declared.trees.Entry.{Entry}
use Rattle.nf_text.specs.Value.{is_plain}
use Rattle.nf_parse.specs.Grammar.{unnamed}
use Rattle.nf_grammar.specs.Places.{IsText}
use Rattle.nf_parse.specs.Grammar.{file}
use Rattle.nf_parse.specs.Answers.{limits, Spells}
use Rattle.nf_print.specs.Canonical.{canonical}
use Rattle.nf_print.proofs.ReadWordLemmas.{AreRead}
use Rattle.nf_print.proofs.ReadRuleLemmas.{IsPrintable, rule_read}
use Rattle.nf_print.proofs.SpelledRuleLemmas.{AreGood, file_spelled}

-- what holds of each element of a list holds of each of its parts
module _ {X : Type 0} (P : X → Type 0) where
  all_left : (xs ys : List X) → All P (xs ++ ys) → All P xs
  all_left xs ys h k d l = subst P (get_or_append_left xs ys d k l) (h k d (omega (arith, length-append xs ys)))

  all_right : (xs ys : List X) → All P (xs ++ ys) → All P ys
  all_right xs ys h k d l = subst P (get_or-append-add xs ys k d) (h (length xs + k) d (omega (arith, length-append xs ys)))

  all_unmapped : {Y : Type 0} (f : Y → X) (ys : List Y) → All P (map f ys) → All (λ y. P (f y)) ys
  all_unmapped f [] h = All-nil (λ y. P (f y))
  all_unmapped f (y ∷ ys) h = All-cons (λ z. P (f z)) y ys (All-head P (f y) (map f ys) h) (all_unmapped f ys (All-tail P (f y) (map f ys) h))

-- of each expression of a rule's clauses
record OfEach (P : Expr → Type 0) (rule : Rule) : Type 0 where
  filter : All P (option_to_list rule.filter)
  entries : All (λ (entry : Entry). P entry.value) rule.entries
  start : All P (option_to_list rule.start)
  stop : All P (option_to_list rule.stop)

of_each : (P : Expr → Type 0) (rule : Rule)
    → All P (option_to_list rule.filter ++ map (λ (entry : Entry). entry.value) rule.entries ++ option_to_list rule.start ++ option_to_list rule.stop) → OfEach P rule
of_each P rule h =
    let f = option_to_list rule.filter in
    let e = map (λ (entry : Entry). entry.value) rule.entries in
    let s = option_to_list rule.start in
    let t = option_to_list rule.stop in
    let three = all_left P (f ++ e ++ s) t h in
    let two = all_left P (f ++ e) s three in
    record {
      filter = all_left P f e two;
      entries = all_unmapped P (λ (entry : Entry). entry.value) rule.entries (all_right P f e two);
      start = all_right P (f ++ e) s three;
      stop = all_right P (f ++ e ++ s) t h;
    }

printable : (rule : Rule) → IsWritten rule → IsPrintable rule
printable rule w =
    let each = of_each (λ x. IsWrittenTree (tree x)) rule w.expressions in
    record {
      head = w.head;
      atoms = λ k d l. record { label = w.labels k d l; name = w.names k d l };
      keys = w.keys;
      filter = each.filter;
      entries = each.entries;
      start = each.start;
      stop = each.stop;
    }

-- where an expression is that of its tree
good : (back : (x : Expr) → expr_of (tree x) ≡ x) (rule : Rule) → IsWritten rule → IsRule rule → AreGood back rule
good back rule w r =
    let a = of_each (λ x. IsWrittenTree (tree x)) rule w.expressions in
    let b = of_each (λ x. IsWithinLimits (tree x)) rule r in
    record {
      filter = λ k d l. record { written = a.filter k d l; limits = b.filter k d l };
      entries = λ k d l. record { written = a.entries k d l; limits = b.entries k d l };
      start = λ k d l. record { written = a.start k d l; limits = b.start k d l };
      stop = λ k d l. record { written = a.stop k d l; limits = b.stop k d l };
    }

pub line_spells : AreRead → ((t : List ℕ) → (is_plain t ≡ true) ↔ IsPlain t) → ((x : Expr) → expr_of (tree x) ≡ x)
    → (rule : Rule) → IsWritten rule → IsRule rule → Spells (canonical rule) (unnamed (rule ∷ []) ∷ [])
line_spells laws plain back rule w r =
    let found = (rule_read laws plain rule (printable rule w)).at (canonical rule) 0 refl in
    record {
      tokens = found.tokens;
      divides = found.divides;
      text = subst (λ ws. IsText file limits ws (unnamed (rule ∷ []) ∷ [])) (sym found.spelled) (file_spelled back rule (good back rule w r));
    }
