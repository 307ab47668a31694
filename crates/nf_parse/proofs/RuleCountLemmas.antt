-- A file has at most as many rules and entries of maps as words.
use Rattle.std.proofs.Common.{◌≡◌, ℕ, zero, suc, ◌+◌, ◌≤◌, Bool, true, false, cond, List, [], ◌∷◌, length, refl, ap, subst, arith, length-append, Option, Some, None, unwrap_or, Ok, Err}
use Rattle.std.specs.Prelude.{is_some, ◌++◌}
use Rattle.std.specs.List.{sum_by}
use Rattle.std.proofs.lemmas.List.Sums.{sum_by-cons, sum_by-append}
use Rattle.nf_core.specs.declared.trees.Expr.{Expr}
use Rattle.nf_core.specs.declared.trees.Rule.{Rule}
use Rattle.nf_core.specs.declared.trees.Module.{Module}
use Rattle.nf_parse.specs.declared.symbol.Sym.{Sym}
use Rattle.nf_parse.specs.declared.symbol.Sym.TheVariants as kind
use Rattle.nf_grammar.specs.State.{next}
use Rattle.nf_grammar.specs.inner.Parsers.{bind, and_then, done, in_list, choose, repeated_from, repeated}
use Rattle.nf_grammar.proofs.Public.OutcomeLemmas.{ok_value, no_ok}
use Rattle.nf_grammar.proofs.Public.TokenReaderLemmas.{token_shorter}
use Rattle.nf_parse.specs.State.{Word, State, of_kind}
use Rattle.nf_parse.specs.Answers.{rules_in, entries_in, size_of}
use Rattle.nf_parse.specs.Grammar.{Item, loose, named, unnamed, in_front, modules_of}
use Rattle.nf_parse.specs.inner.Parsers.{Outcome, Parser, is_kind, token, after, enclosed, optional, separated}
use Rattle.nf_parse.specs.inner.Reading.{expression, paren}
use Rattle.nf_parse.specs.inner.RuleReading.{is_ident, clause, entry, entries, rule, rules, module_word, item, file}
use Rattle.nf_parse.proofs.ReadPartLemmas.{IsReading, not_longer, token_reading, optional_reading}
use Rattle.nf_parse.proofs.ReadRuleLemmas.{imports_reading, body_reading, clause_reading}
use Rattle.nf_parse.proofs.FileLemmas.{alone_at}

-- any words
abbrev Any : Word → Type 0
Any word = Unit

-- what is read counts at most as many as the words that are taken, and as many more as are left over
record IsSized {A : Type 0} (over : ℕ) (p : Parser A) (size : A → ℕ) : Type 0 where
  sized : (s t : State) (x : A) → p s ≡ Ok (x, t) → size x + length t.words ≤ over + length s.words

then_sized : {A B : Type 0} {over : ℕ} {p : Parser A} {k : A → Parser B} {size : A → ℕ} {total : B → ℕ}
    → IsSized over p size → ((x : A) → IsSized (size x) (k x) total)
    → IsSized over (and_then p k) total
then_sized {A} {B} {over} {p} {k} {size} {total} a b = record { sized = λ s t y e. go s t y (p s) refl e }
  where
    go : (s t : State) (y : B) (o : Outcome A) → p s ≡ o → bind o k ≡ Ok (y, t)
        → total y + length t.words ≤ over + length s.words
    go s t y (Ok read) h e = omega (arith, a.sized s read.1 read.0 h, (b read.0).sized read.1 t y e)
    go s t y (Err f) h e = absurd (no_ok f (y, t) e)

reading_sized : {A : Type 0} {p : Parser A} {Good : A → Type 0} (over : ℕ) → IsReading Any p Good
    → IsSized over p (λ x. over)
reading_sized over r = record { sized = λ s t x e. omega (arith, not_longer s t (r.behind s t x e)) }

done_sized : {A : Type 0} (x : A) (size : A → ℕ) → IsSized (size x) (done x) size
done_sized x size = record { sized = λ s t y e. let g = ok_value x y s t e in omega (arith, ap size g.0, ap (λ (u : State). length u.words) g.1) }

-- a word counts one
word_sized : (k : Sym) (over : ℕ) → IsSized over (token k) (λ x. suc over)
word_sized k over = record { sized = λ s t x e. omega (arith, (token_shorter (of_kind k)).fewer s t x e) }

token_sized : (k : Sym) (over : ℕ) → IsSized over (token k) (λ x. over)
token_sized k over = reading_sized over (token_reading Any k)

after_sized : {A : Type 0} {over : ℕ} {p : Parser A} {size : A → ℕ} (k : Sym) → IsSized over p size
    → IsSized over (after k p) size
after_sized {A} {over} k a = then_sized (token_sized k over) (λ bytes. a)

enclosed_sized : {A : Type 0} {over : ℕ} {p : Parser A} {size : A → ℕ} (opening closing : Sym)
    → IsSized over p size → IsSized over (enclosed opening p closing) size
enclosed_sized {A} {over} {p} {size} opening closing a = after_sized opening (then_sized a (λ x. after_sized closing (done_sized x size)))

-- what is left over before is left over behind, too
kept_sized : {A : Type 0} {over : ℕ} {p : Parser A} {size : A → ℕ} (n : ℕ) → IsSized over p size
    → IsSized (n + over) p (λ x. n + size x)
kept_sized n a = record { sized = λ s t x e. omega (arith, a.sized s t x e) }

counted_sized : {A : Type 0} {over : ℕ} {p : Parser A} {size total : A → ℕ}
    → ((x : A) → size x ≡ total x) → IsSized over p size → IsSized over p total
counted_sized same a = record { sized = λ s t x e. omega (arith, a.sized s t x e, same x) }

-- one part or another
either_size : {A : Type 0} {over : ℕ} {p q : Parser A} {size : A → ℕ} → IsSized over p size
    → IsSized over q size
    → (s t : State) (x : A) (b : Bool) → cond b (p s) (q s) ≡ Ok (x, t)
    → size x + length t.words ≤ over + length s.words
either_size a b s t x true e = a.sized s t x e
either_size a b s t x false e = b.sized s t x e

-- a list where there is one
module _ {A : Type 0} {p : Parser (List A)} (test : Option Word → Bool) (part : IsSized 0 p (λ xs. length xs)) where
  abbrev listed : Option (List A) → ℕ
  listed found = length (unwrap_or found [])

  optional_sized : IsSized 0 (optional test p) listed
  unfolding choose
  optional_sized = record { sized = λ s t x e. either_size (then_sized part (λ xs. done_sized (Some xs) listed)) (done_sized None listed) s t x (test (next s)) e }

-- an item in front of those that are read later
module _ {A : Type 0} {q : Parser (List A)} (size : A → ℕ) (x : A) (later : IsSized 0 q (sum_by size)) where
  front_size : (s t : State) (xs : List A) (o : Outcome (List A)) → q s ≡ o
      → in_list x o ≡ Ok (xs, t) → sum_by size xs + length t.words ≤ size x + length s.words
  front_size s t xs (Ok read) e f =
      let g = ok_value (x ∷ read.0) xs read.1 t f in
      omega (arith, later.sized s read.1 read.0 e, sum_by-cons size x read.0, ap (sum_by size) g.0, ap (λ (u : State). length u.words) g.1)
  front_size s t xs (Err f) e g = absurd (no_ok f (xs, t) g)

  front_sized : IsSized (size x) (λ s. in_list x (q s)) (sum_by size)
  front_sized = record { sized = λ s t xs e. front_size s t xs (q s) refl e }

-- a list of parts, of which each counts
module _ {A : Type 0} {p : Parser A} {size : A → ℕ} (part : IsSized 0 p size) where
  turns_sized : (test : Option Word → Bool) (turns : ℕ)
      → IsSized 0 (repeated_from test p turns) (sum_by size)
  unfolding repeated_from
  turns_sized test zero = done_sized [] (sum_by size)
  turns_sized test (suc turns) = record {
    sized = λ s t xs e. either_size (then_sized part (λ x. front_sized size x (turns_sized test turns))) (done_sized [] (sum_by size)) s t xs (test (next s)) e;
  }

  repeated_sized : (test : Option Word → Bool) → IsSized 0 (repeated test p) (sum_by size)
  unfolding repeated
  repeated_sized test = record { sized = λ s t xs e. (turns_sized test (length s.words)).sized s t xs e }

ones : {A : Type 0} (xs : List A) → sum_by (λ x. 1) xs ≡ length xs
ones [] = refl
ones (x ∷ xs) = omega (arith, ones xs, sum_by-cons (λ x. 1) x xs)

-- an item in front of a list counts one
one_more : {A : Type 0} (x : A) (xs : List A)
    → IsSized (1 + length xs) (done (x ∷ xs)) (λ ys. length ys)
one_more x xs = record { sized = λ s t ys e. let g = ok_value (x ∷ xs) ys s t e in omega (arith, ap length g.0, ap (λ (u : State). length u.words) g.1) }

-- parts with separators between them
separated_sized : {A : Type 0} {p : Parser A} (k : Sym) → IsSized 0 p (λ x. 1)
    → IsSized 0 (separated k p) (λ xs. length xs)
separated_sized k part = then_sized part (λ x. then_sized (kept_sized 1 (counted_sized ones (repeated_sized (after_sized k part) (is_kind k)))) (λ xs. one_more x xs))

-- how much a rule, a module and an item count: each rule and each entry of its map
abbrev rule_size : Rule → ℕ
rule_size r = 1 + length r.entries

abbrev module_size : Module → ℕ
module_size m = sum_by rule_size m.rules

item_size : Item → ℕ
item_size (loose r) = rule_size r
item_size (named m) = module_size m

rules_size : (rs : List Rule) → length rs + length (entries_in rs) ≡ sum_by rule_size rs
rules_size [] = refl
rules_size (r ∷ rs) = omega (arith, rules_size rs, sum_by-cons rule_size r rs, length-append r.entries (entries_in rs))

front_rules : (r : Rule) (modules : List Module)
    → rules_in (in_front r modules) ≡ r ∷ rules_in modules
front_rules r [] = refl
front_rules r (m ∷ modules) = go m.name
  where
    go : (name : Option (List ℕ))
        → rules_in (elim name [ None ↦ unnamed (r ∷ m.rules) ∷ modules | Some n ↦ unnamed (r ∷ []) ∷ m ∷ modules ]) ≡ r ∷ (m.rules ++ rules_in modules)
    go None = refl
    go (Some n) = refl

items_size : (items : List Item)
    → sum_by rule_size (rules_in (modules_of items)) ≡ sum_by item_size items
unfolding modules_of item_size
items_size [] = refl
items_size (loose r ∷ items) =
    omega (arith, items_size items, ap (sum_by rule_size) (front_rules r (modules_of items)), sum_by-cons rule_size r (rules_in (modules_of items)), sum_by-cons item_size (loose r) items)
items_size (named m ∷ items) = omega (arith, items_size items, sum_by-append rule_size m.rules (rules_in (modules_of items)), sum_by-cons item_size (named m) items)

module _ (depth : ℕ) where
  abbrev p : Parser Expr
  p = expression (paren depth)

  clause_sized : (k : Sym) (over : ℕ) → IsSized over (clause p k) (λ x. over)
  clause_sized k over = reading_sized over (clause_reading (λ bytes. Unit) (λ x. Unit) Any (λ bytes h. tt) p (alone_at depth) k)

  optional_clause_sized : (k : Sym) (over : ℕ)
      → IsSized over (optional (is_kind k) (clause p k)) (λ x. over)
  optional_clause_sized k over = reading_sized over (optional_reading Any (is_kind k) (clause_reading (λ bytes. Unit) (λ x. Unit) Any (λ bytes h. tt) p (alone_at depth) k))

  entry_sized : IsSized 0 (entry p) (λ x. 1)
  unfolding entry
  entry_sized = then_sized (word_sized kind.Ident 0) (λ key. then_sized (clause_sized kind.Arrow 1) (λ value. done_sized (record { key = key; value = value }) (λ x. 1)))

  entries_sized : IsSized 0 (entries p) (λ xs. length xs)
  unfolding entries
  entries_sized = after_sized kind.Map (then_sized (enclosed_sized kind.OpenBrace kind.CloseBrace (optional_sized is_ident (separated_sized kind.Comma entry_sized)))
      (λ found. done_sized (unwrap_or found []) (λ xs. length xs)))

  rule_sized : IsSized 0 (rule p) rule_size
  unfolding rule
  rule_sized = then_sized (word_sized kind.Ident 0) (λ head. after_sized kind.Defines (then_sized (reading_sized 1 (body_reading (λ bytes. Unit) (λ x. Unit) Any (λ bytes h. tt))) (λ body.
      then_sized (optional_clause_sized kind.Where 1) (λ filter. then_sized (kept_sized 1 (optional_sized (is_kind kind.Map) entries_sized)) (λ mapped.
      then_sized (optional_clause_sized kind.Begin (1 + length (unwrap_or mapped []))) (λ start. then_sized (optional_clause_sized kind.End (1 + length (unwrap_or mapped []))) (λ stop.
      done_sized (record { head = head; body = body; filter = filter; entries = unwrap_or mapped []; start = start; stop = stop }) rule_size)))))))

  rules_sized : IsSized 0 (rules p) (sum_by rule_size)
  unfolding rules
  rules_sized = repeated_sized rule_sized is_ident

  module_sized : IsSized 0 (module_word p) module_size
  unfolding module_word
  module_sized = after_sized kind.Module (then_sized (token_sized kind.Ident 0) (λ name. enclosed_sized kind.OpenBrace kind.CloseBrace
      (then_sized (reading_sized 0 (optional_reading Any (is_kind kind.Import) (imports_reading (λ bytes. Unit) (λ x. Unit) Any (λ bytes h. tt)))) (λ found.
      then_sized rules_sized (λ rs. done_sized (record { name = Some name; imports = unwrap_or found []; rules = rs }) module_size)))))

  item_sized : IsSized 0 (item p) item_size
  unfolding item choose item_size
  item_sized = record {
    sized = λ s t x e. either_size (then_sized rule_sized (λ r. done_sized (loose r) item_size)) (then_sized module_sized (λ m. done_sized (named m) item_size)) s t x (is_ident (next s)) e;
  }

  file_sized : IsSized 0 (file p) (λ modules. sum_by rule_size (rules_in modules))
  unfolding file
  file_sized = then_sized (repeated_sized item_sized is_some) (λ items. subst (λ n. IsSized n (done (modules_of items)) (λ modules. sum_by rule_size (rules_in modules))) (items_size items) (done_sized (modules_of items) (λ modules. sum_by rule_size (rules_in modules))))

  -- a file has at most as many rules and entries of maps as words
  pub file_size : (s t : State) (modules : List Module) → file p s ≡ Ok (modules, t)
      → size_of modules ≤ length s.words
  file_size s t modules e = omega (arith, file_sized.sized s t modules e, rules_size (rules_in modules))
