-- The modules of a file as a loop reads them: a module with a name, or a whole run of rules, each time.
use Rattle.std.proofs.Common.{◌≡◌, ℕ, zero, suc, ◌<◌, ◌≤◌, Bool, true, false, cond, List, [], ◌∷◌, ◌++◌, length, refl, sym, ap, ◌∙◌, subst, arith, append_assoc, Option, Some, None, unwrap_or, Ok, Err}
use Rattle.std.specs.Prelude.{is_some}
use Rattle.std.proofs.lemmas.List.{append-nil}
use Rattle.nf_core.specs.declared.trees.Expr.{Expr}
use Rattle.nf_core.specs.declared.trees.Rule.{Rule}
use Rattle.nf_core.specs.declared.trees.Module.{Module}
use Rattle.nf_grammar.specs.State.{next, next_of}
use Rattle.nf_grammar.specs.declared.fault.Fault.{Fault}
use Rattle.nf_grammar.specs.inner.Parsers.{bind, and_then, done, in_list, choose, repeated_from, repeated}
use Rattle.nf_grammar.proofs.Public.OutcomeLemmas.{ok_value, no_ok, no_err, same_fault}
use Rattle.nf_grammar.proofs.Public.ReaderLemmas.{IsShorter}
use Rattle.nf_parse.specs.declared.symbol.Sym.TheVariants as kind
use Rattle.nf_parse.specs.State.{Word, State}
use Rattle.nf_parse.specs.Grammar.{Item, loose, named, unnamed, in_front, modules_of}
use Rattle.nf_parse.specs.inner.Parsers.{Outcome, Parser, is_kind, token, after, optional}
use Rattle.nf_parse.specs.inner.RuleReading.{is_ident, imports, rule, rules, module_word, item, file, part}
use Rattle.nf_parse.proofs.PartListLemmas.{found_before, none_before, turn_read, turn_stop, turn_end, no_words}

-- what is always given
record IsGiving {A : Type 0} (p : Parser A) (Good : A → Type 0) : Type 0 where
  gives : (s t : State) (x : A) → p s ≡ Ok (x, t) → Good x

then_giving : {A B : Type 0} (p : Parser A) (k : A → Parser B) (Fine : A → Type 0) (Good : B → Type 0)
    → IsGiving p Fine → ((x : A) → Fine x → IsGiving (k x) Good) → IsGiving (and_then p k) Good
then_giving {A} {B} p k Fine Good a b = record { gives = λ s t y e. go s t y (p s) refl e }
  where
    go : (s t : State) (y : B) (o : Outcome A) → p s ≡ o → bind o k ≡ Ok (y, t) → Good y
    go s t y (Ok read) h e = (b read.0 (a.gives s read.1 read.0 h)).gives read.1 t y e
    go s t y (Err f) h e = absurd (no_ok f (y, t) e)

any_giving : {A : Type 0} (p : Parser A) → IsGiving p (λ x. Unit)
any_giving p = record { gives = λ s t x e. tt }

done_giving : {A : Type 0} (x : A) (Good : A → Type 0) → Good x → IsGiving (done x) Good
done_giving x Good h = record { gives = λ s t y e. subst Good (ok_value x y s t e).0 h }

-- a module has a name
record HasName (m : Module) : Type 0 where
  name : List ℕ
  is : m.name ≡ Some name

abbrev module_of : List ℕ → Option (List (List ℕ)) → List Rule → Module
module_of name found rs = record { name = Some name; imports = unwrap_or found []; rules = rs }

-- items that begin with a module with a name, or none
data StartsNamed : List Item → Type 0 where
  nothing : StartsNamed []
  first : {m : Module} {items : List Item} → HasName m → StartsNamed (named m ∷ items)

loose_all : List Rule → List Item
loose_all [] = []
loose_all (r ∷ rs) = loose r ∷ loose_all rs

abbrev front_of : (rule : Rule) (name : Option (List ℕ)) (m : Module) (modules : List Module)
    → List Module
front_of rule name m modules = elim name [ None ↦ unnamed (rule ∷ m.rules) ∷ modules | Some n ↦ unnamed (rule ∷ []) ∷ m ∷ modules ]

-- a run of rules before such items is one module
one_module : (r : Rule) (items : List Item) → StartsNamed items
    → modules_of (loose r ∷ items) ≡ unnamed (r ∷ []) ∷ modules_of items
unfolding modules_of
one_module r _ nothing = refl
one_module r _ (first {m} {items} h) = ap (λ (n : Option (List ℕ)). front_of r n m (modules_of items)) h.is

run_module : (r : Rule) (rs : List Rule) (items : List Item) → StartsNamed items
    → modules_of (loose r ∷ (loose_all rs ++ items)) ≡ unnamed (r ∷ rs) ∷ modules_of items
unfolding modules_of loose_all
run_module r [] items h = one_module r items h
run_module r (x ∷ rs) items h = ap (in_front r) (run_module x rs items h)

-- rules in front of the items of an outcome
abbrev items_before : List Rule → Outcome (List Item) → Outcome (List Item)
items_before rs o = found_before (loose_all rs) o

no_rules_before : (o : Outcome (List Item)) → items_before [] o ≡ o
unfolding loose_all
no_rules_before o = none_before o

rule_before : (r : Rule) (rs : List Rule) (o : Outcome (List Item))
    → in_list (loose r) (items_before rs o) ≡ items_before (r ∷ rs) o
unfolding loose_all
rule_before r rs (Ok read) = refl
rule_before r rs (Err f) = refl

-- modules in front of those of the items of an outcome
abbrev pub modules_before : List Module → Outcome (List Item) → Outcome (List Module)
modules_before found (Ok read) = Ok (found ++ modules_of read.0, read.1)
modules_before found (Err f) = Err f

named_before : (found : List Module) (m : Module) (o : Outcome (List Item))
    → modules_before (found ++ m ∷ []) o ≡ modules_before found (in_list (named m) o)
unfolding modules_of
named_before found m (Ok read) = ap (λ ms. Ok (ms, read.1)) (append_assoc found (m ∷ []) (modules_of read.0))
named_before found m (Err f) = refl

run_before : (found : List Module) (r : Rule) (rs : List Rule) (o : Outcome (List Item))
    → ((is : List Item) (t : State) → o ≡ Ok (is, t) → StartsNamed is)
    → modules_before (found ++ unnamed (r ∷ rs) ∷ []) o ≡ modules_before found (items_before (r ∷ rs) o)
unfolding loose_all
run_before found r rs (Ok read) h =
    ap (λ ms. Ok (ms, read.1)) (append_assoc found (unnamed (r ∷ rs) ∷ []) (modules_of read.0) ∙ ap (λ ms. found ++ ms) (sym (run_module r rs read.0 (h read.0 read.1 refl))))
run_before found r rs (Err f) h = refl

module _ (p : Parser Expr) (short : IsShorter (rule p)) where
  module_named : IsGiving (module_word p) HasName
  unfolding module_word
  module_named = then_giving (token kind.Module) _ (λ x. Unit) HasName (any_giving (token kind.Module)) (λ b u. then_giving (token kind.Ident) _ (λ x. Unit) HasName (any_giving (token kind.Ident))
      (λ name u. then_giving (token kind.OpenBrace) _ (λ x. Unit) HasName (any_giving (token kind.OpenBrace)) (λ b u. then_giving _ (λ m. after kind.CloseBrace (done m)) HasName HasName
      (then_giving (optional (is_kind kind.Import) imports) (λ found. and_then (rules p) (λ rs. done (module_of name found rs))) (λ x. Unit) HasName (any_giving (optional (is_kind kind.Import) imports)) (λ found u.
      then_giving (rules p) (λ rs. done (module_of name found rs)) (λ x. Unit) HasName (any_giving (rules p)) (λ rs u. done_giving (module_of name found rs) HasName (record { name = name; is = refl }))))
      (λ m h. then_giving (token kind.CloseBrace) (λ b. done m) (λ x. Unit) HasName (any_giving (token kind.CloseBrace)) (λ b u. done_giving m HasName h)))))

  pub items : ℕ → Parser (List Item)
  items turns s = repeated_from is_some (item p) turns s

  -- an item by its first word
  ident_some : (n : Option Word) → is_ident n ≡ true → is_some n ≡ true
  ident_some None e = absurd (cc)
  ident_some (Some k) e = refl

  loose_read : (s u : State) (x : Rule) → is_ident (next s) ≡ true → rule p s ≡ Ok (x, u)
      → item p s ≡ Ok (loose x, u)
  unfolding item choose
  loose_read s u x h e = rw (h, e) refl

  loose_stop : (s : State) (f : Fault) → is_ident (next s) ≡ true → rule p s ≡ Err f
      → item p s ≡ Err f
  unfolding item choose
  loose_stop s f h e = rw (h, e) refl

  named_read : (s u : State) (m : Module) → is_ident (next s) ≡ false → module_word p s ≡ Ok (m, u)
      → item p s ≡ Ok (named m, u)
  unfolding item choose
  named_read s u m h e = rw (h, e) refl

  named_stop : (s : State) (f : Fault) → is_ident (next s) ≡ false → module_word p s ≡ Err f
      → item p s ≡ Err f
  unfolding item choose
  named_stop s f h e = rw (h, e) refl

  -- what a run of rules leaves
  record IsRunOf (turns : ℕ) (s t : State) (rs : List Rule) : Type 0 where
    later : ℕ
    enough : length t.words ≤ later
    goes_on : items turns s ≡ items_before rs (items later t)
    ended : is_ident (next t) ≡ false

  ended_run : (turns : ℕ) (s : State) → length s.words ≤ turns → is_ident (next s) ≡ false
      → IsRunOf turns s s []
  ended_run turns s l h = record { later = turns; enough = l; goes_on = sym (no_rules_before (items turns s)); ended = h }

  no_ident : (s : State) → length s.words ≤ 0 → is_ident (next s) ≡ false
  no_ident s l = go s.words l
    where
      go : (ws : List Word) → length ws ≤ 0 → is_ident (next_of ws) ≡ false
      go [] l = refl
      go (w ∷ ws) l = absurd (omega arith)

  more_run : (turns : ℕ) (s u t : State) (x : Rule) (ys : List Rule) → is_ident (next s) ≡ true
      → rule p s ≡ Ok (x, u) → IsRunOf turns u t ys → IsRunOf (suc turns) s t (x ∷ ys)
  unfolding items
  more_run turns s u t x ys h e r = record {
    later = r.later;
    enough = r.enough;
    goes_on = turn_read is_some (item p) turns s u (loose x) (ident_some (next s) h) (loose_read s u x h e) ∙ ap (in_list (loose x)) r.goes_on ∙ rule_before x ys (items r.later t);
    ended = r.ended;
  }

  abbrev Runs : ℕ → Type 0
  Runs n = (turns : ℕ) (s t : State) (rs : List Rule) → length s.words ≤ n → length s.words ≤ turns → repeated_from is_ident (rule p) n s ≡ Ok (rs, t) → IsRunOf turns s t rs

  listed_run : (n turns : ℕ) → Runs n
      → (s u t : State) (x : Rule) (rs : List Rule) (o : Outcome (List Rule))
      → length s.words ≤ suc n → length s.words ≤ suc turns → is_ident (next s) ≡ true
      → rule p s ≡ Ok (x, u)
      → repeated_from is_ident (rule p) n u ≡ o → in_list x o ≡ Ok (rs, t)
      → IsRunOf (suc turns) s t rs
  listed_run n turns rec s u t x rs (Ok read) l k h e g i =
      let j = ok_value (x ∷ read.0) rs read.1 t i in
      subst (λ ys. IsRunOf (suc turns) s t ys) j.0 (subst (λ v. IsRunOf (suc turns) s v (x ∷ read.0)) j.1
      (more_run turns s u read.1 x read.0 h e (rec turns u read.1 read.0 (omega (arith, short.fewer s u x e)) (omega (arith, short.fewer s u x e)) g)))
  listed_run n turns rec s u t x rs (Err f) l k h e g i = absurd (no_ok f (rs, t) i)

  turn_run : (n turns : ℕ) → Runs n → (s t : State) (rs : List Rule) (b : Bool) (o : Outcome Rule)
      → length s.words ≤ suc n → length s.words ≤ turns → is_ident (next s) ≡ b → rule p s ≡ o
      → cond b (bind o (λ x u. in_list x (repeated_from is_ident (rule p) n u))) (Ok ([], s)) ≡ Ok (rs, t)
      → IsRunOf turns s t rs
  turn_run n turns rec s t rs false o l k h e i =
      let j = ok_value [] rs s t i in
      subst (λ ys. IsRunOf turns s t ys) j.0 (subst (λ v. IsRunOf turns s v []) j.1 (ended_run turns s k h))
  turn_run n turns rec s t rs true (Err f) l k h e i = absurd (no_ok f (rs, t) i)
  turn_run n zero rec s t rs true (Ok read) l k h e i = absurd (omega (arith, no_words is_ident (rule p) refl s h))
  turn_run n (suc turns) rec s t rs true (Ok read) l k h e i = listed_run n turns rec s read.1 t read.0 rs (repeated_from is_ident (rule p) n read.1) l k h e refl i

  run : (n : ℕ) → Runs n
  unfolding repeated_from
  run zero turns s t rs l k e =
      let j = ok_value [] rs s t e in
      subst (λ ys. IsRunOf turns s t ys) j.0 (subst (λ v. IsRunOf turns s v []) j.1 (ended_run turns s k (no_ident s l)))
  run (suc n) turns s t rs l k e = turn_run n turns (run n) s t rs (is_ident (next s)) (rule p s) l k refl refl e

  -- where a run stops, the items do
  abbrev Stops : ℕ → Type 0
  Stops n = (turns : ℕ) (s : State) (f : Fault) → length s.words ≤ n → length s.words ≤ turns → repeated_from is_ident (rule p) n s ≡ Err f → items turns s ≡ Err f

  listed_stop : (n turns : ℕ) → Stops n
      → (s u : State) (x : Rule) (f : Fault) (o : Outcome (List Rule)) → length s.words ≤ suc n
      → length s.words ≤ suc turns → is_ident (next s) ≡ true → rule p s ≡ Ok (x, u)
      → repeated_from is_ident (rule p) n u ≡ o → in_list x o ≡ Err f → items (suc turns) s ≡ Err f
  unfolding items
  listed_stop n turns rec s u x f (Ok read) l k h e g i = absurd (no_err f (x ∷ read.0, read.1) i)
  listed_stop n turns rec s u x f (Err j) l k h e g i =
      turn_read is_some (item p) turns s u (loose x) (ident_some (next s) h) (loose_read s u x h e)
      ∙ ap (in_list (loose x)) (rec turns u f (omega (arith, short.fewer s u x e)) (omega (arith, short.fewer s u x e)) (g ∙ i))

  turn_stops : (n turns : ℕ) → Stops n → (s : State) (f : Fault) (b : Bool) (o : Outcome Rule)
      → length s.words ≤ suc n → length s.words ≤ turns → is_ident (next s) ≡ b → rule p s ≡ o
      → cond b (bind o (λ x u. in_list x (repeated_from is_ident (rule p) n u))) (Ok ([], s)) ≡ Err f
      → items turns s ≡ Err f
  unfolding items
  turn_stops n turns rec s f false o l k h e i = absurd (no_err f ([], s) i)
  turn_stops n zero rec s f true o l k h e i = absurd (omega (arith, no_words is_ident (rule p) refl s h))
  turn_stops n (suc turns) rec s f true (Err j) l k h e i = turn_stop is_some (item p) turns s f (ident_some (next s) h) (loose_stop s f h (e ∙ same_fault {A = List Rule} {B = Rule} j f i))
  turn_stops n (suc turns) rec s f true (Ok read) l k h e i = listed_stop n turns rec s read.1 read.0 f (repeated_from is_ident (rule p) n read.1) l k h e refl i

  run_stops : (n : ℕ) → Stops n
  unfolding repeated_from
  run_stops zero turns s f l k e = absurd (no_err f ([], s) e)
  run_stops (suc n) turns s f l k e = turn_stops n turns (run_stops n) s f (is_ident (next s)) (rule p s) l k refl refl e

  -- what a run of no rules leaves
  no_list : (x : Rule) (o : Outcome (List Rule)) (t : State) → in_list x o ≡ Ok ([], t) → ⊥
  no_list x (Ok read) t e = let h : x ∷ read.0 ≡ [] = (ok_value (x ∷ read.0) [] read.1 t e).0 in absurd (cc)
  no_list x (Err f) t e = no_ok f ([], t) e

  empty_turn : (n : ℕ) (s t : State) (b : Bool) (o : Outcome Rule)
      → cond b (bind o (λ x u. in_list x (repeated_from is_ident (rule p) n u))) (Ok ([], s)) ≡ Ok ([], t)
      → s ≡ t
  empty_turn n s t false o e = (ok_value {A = List Rule} [] [] s t e).1
  empty_turn n s t true (Ok read) e = absurd (no_list read.0 (repeated_from is_ident (rule p) n read.1) t e)
  empty_turn n s t true (Err f) e = absurd (no_ok f ([], t) e)

  empty_run : (n : ℕ) (s t : State) → repeated_from is_ident (rule p) n s ≡ Ok ([], t) → s ≡ t
  unfolding repeated_from
  empty_run zero s t e = (ok_value {A = List Rule} [] [] s t e).1
  empty_run (suc n) s t e = empty_turn n s t (is_ident (next s)) (rule p s) e

  -- behind a run stands a module or nothing
  named_listed : (m : Module) (is : List Item) (t : State) (o : Outcome (List Item)) → HasName m
      → in_list (named m) o ≡ Ok (is, t) → StartsNamed is
  named_listed m is t (Ok read) h e = subst StartsNamed (ok_value (named m ∷ read.0) is read.1 t e).0 (first h)
  named_listed m is t (Err f) h e = absurd (no_ok f (is, t) e)

  named_turn : (later : ℕ) (s t : State) (is : List Item) (b : Bool) (o : Outcome Module)
      → is_ident (next s) ≡ false → module_word p s ≡ o
      → cond b (bind (bind o (λ m. done (named m))) (λ x u. in_list x (items later u))) (Ok ([], s)) ≡ Ok (is, t)
      → StartsNamed is
  named_turn later s t is false o h g e = subst StartsNamed (ok_value [] is s t e).0 nothing
  named_turn later s t is true (Ok read) h g e = named_listed read.0 is t (items later read.1) (module_named.gives s read.1 read.0 g) e
  named_turn later s t is true (Err f) h g e = absurd (no_ok f (is, t) e)

  item_named : (s : State) → is_ident (next s) ≡ false
      → item p s ≡ bind (module_word p s) (λ m. done (named m))
  unfolding item choose
  item_named s h = rw h refl

  items_turn : (later : ℕ) (s : State)
      → items (suc later) s ≡ cond (is_some (next s)) (bind (item p s) (λ x u. in_list x (items later u))) (Ok ([], s))
  unfolding items repeated_from
  items_turn later s = refl

  items_zero : (s : State) → items zero s ≡ Ok ([], s)
  unfolding items repeated_from
  items_zero s = refl

  starts_named : (later : ℕ) (s t : State) (is : List Item) → is_ident (next s) ≡ false
      → items later s ≡ Ok (is, t) → StartsNamed is
  starts_named zero s t is h e = subst StartsNamed (ok_value [] is s t (sym (items_zero s) ∙ e)).0 nothing
  starts_named (suc later) s t is h e = named_turn later s t is (is_some (next s)) (module_word p s) h refl
      (ap (λ o. cond (is_some (next s)) (bind o (λ x u. in_list x (items later u))) (Ok ([], s))) (sym (item_named s h)) ∙ sym (items_turn later s) ∙ e)

  -- modules of a file of which some were found: reading on from here gives the whole outcome
  pub record IsFileAt (whole : Outcome (List Module)) (found : List Module) (now : State) : Type 0 where
    pub turns : ℕ
    pub enough : length now.words ≤ turns
    pub goes_on : modules_before found (items turns now) ≡ whole

  file_before : (o : Outcome (List Item))
      → modules_before [] o ≡ bind o (λ found. done (modules_of found))
  file_before (Ok read) = refl
  file_before (Err f) = refl

  pub file_start : (s : State) → IsFileAt (file p s) [] s
  unfolding file repeated items
  file_start s = record { turns = length s.words; enough = omega arith; goes_on = file_before (items (length s.words) s) }

  -- a part that is a run of rules
  run_part : (whole : Outcome (List Module)) (found : List Module) (s t : State) (rs : List Rule) (turns : ℕ)
      → length s.words ≤ turns → modules_before found (items turns s) ≡ whole
      → repeated_from is_ident (rule p) (length s.words) s ≡ Ok (rs, t)
      → length t.words < length s.words → IsFileAt whole (found ++ unnamed rs ∷ []) t
  run_part whole found s t [] turns k g e l = absurd (let h = empty_run (length s.words) s t e in omega (arith, ap (λ (u : State). length u.words) h))
  run_part whole found s t (r ∷ rs) turns k g e l =
      let a = run (length s.words) turns s t (r ∷ rs) (omega arith) k e in
      record {
        turns = a.later;
        enough = a.enough;
        goes_on = run_before found r rs (items a.later t) (λ is u h. starts_named a.later t u is a.ended h) ∙ ap (modules_before found) (sym a.goes_on) ∙ g;
      }

  -- a part that is a module
  named_part : (whole : Outcome (List Module)) (found : List Module) (s t : State) (m : Module) (turns : ℕ)
      → length s.words ≤ turns → modules_before found (items turns s) ≡ whole
      → is_some (next s) ≡ true → is_ident (next s) ≡ false → module_word p s ≡ Ok (m, t)
      → length t.words < length s.words → IsFileAt whole (found ++ m ∷ []) t
  unfolding items
  named_part whole found s t m zero k g n h e l = absurd (omega arith)
  named_part whole found s t m (suc turns) k g n h e l = record {
    turns = turns;
    enough = omega arith;
    goes_on = named_before found m (items turns t) ∙ ap (modules_before found) (sym (turn_read is_some (item p) turns s t (named m) n (named_read s t m h e))) ∙ g;
  }

  unnamed_read : (s t : State) (m : Module) (o : Outcome (List Rule))
      → bind o (λ rules. done (unnamed rules)) ≡ Ok (m, t)
      → (rs : List Rule) × (o ≡ Ok (rs, t)) × (m ≡ unnamed rs)
  unnamed_read s t m (Ok read) e =
      let j = ok_value (unnamed read.0) m read.1 t e in
      (read.0, ap (λ u. Ok (read.0, u)) j.1, sym j.0)
  unnamed_read s t m (Err f) e = absurd (no_ok f (m, t) e)

  unnamed_stop : (f : Fault) (o : Outcome (List Rule))
      → bind o (λ rules. done (unnamed rules)) ≡ Err f → o ≡ Err f
  unnamed_stop f (Ok read) e = absurd (no_err f (unnamed read.0, read.1) e)
  unnamed_stop f (Err g) e = same_fault {A = Module} {B = List Rule} g f e

  more_by : (whole : Outcome (List Module)) (found : List Module) (s t : State) (m : Module) (b : Bool)
      → IsFileAt whole found s → is_some (next s) ≡ true → is_ident (next s) ≡ b
      → cond b (bind (repeated_from is_ident (rule p) (length s.words) s) (λ rules. done (unnamed rules))) (module_word p s) ≡ Ok (m, t)
      → length t.words < length s.words → IsFileAt whole (found ++ m ∷ []) t
  more_by whole found s t m true at n h e l =
      let a = unnamed_read s t m (repeated_from is_ident (rule p) (length s.words) s) e in
      subst (λ m. IsFileAt whole (found ++ m ∷ []) t) (sym a.2) (run_part whole found s t a.0 at.turns at.enough at.goes_on a.1 l)
  more_by whole found s t m false at n h e l = named_part whole found s t m at.turns at.enough at.goes_on n h e l

  pub file_more : (whole : Outcome (List Module)) (found : List Module) (s t : State) (m : Module)
      → IsFileAt whole found s → is_some (next s) ≡ true → part p s ≡ Ok (m, t)
      → length t.words < length s.words
      → IsFileAt whole (found ++ m ∷ []) t
  unfolding part choose rules repeated
  file_more whole found s t m at n e l = more_by whole found s t m (is_ident (next s)) at n refl e l

  stops_by : (s : State) (f : Fault) (b : Bool) (turns : ℕ) → length s.words ≤ turns
      → is_some (next s) ≡ true → is_ident (next s) ≡ b
      → cond b (bind (repeated_from is_ident (rule p) (length s.words) s) (λ rules. done (unnamed rules))) (module_word p s) ≡ Err f
      → items turns s ≡ Err f
  unfolding items
  stops_by s f true turns k n h e = run_stops (length s.words) turns s f (omega arith) k (unnamed_stop f (repeated_from is_ident (rule p) (length s.words) s) e)
  stops_by s f false zero k n h e = absurd (omega (arith, no_words is_some (item p) refl s n))
  stops_by s f false (suc turns) k n h e = turn_stop is_some (item p) turns s f n (named_stop s f h e)

  pub file_stops : (whole : Outcome (List Module)) (found : List Module) (s : State) (f : Fault)
      → IsFileAt whole found s → is_some (next s) ≡ true → part p s ≡ Err f → whole ≡ Err f
  unfolding part choose rules repeated
  file_stops whole found s f at n e = sym at.goes_on ∙ ap (modules_before found) (stops_by s f (is_ident (next s)) at.turns at.enough n refl e)

  pub file_ends : (whole : Outcome (List Module)) (found : List Module) (s : State)
      → IsFileAt whole found s → is_some (next s) ≡ false → whole ≡ Ok (found, s)
  unfolding items modules_of
  file_ends whole found s at n = sym at.goes_on ∙ ap (modules_before found) (turn_end is_some (item p) at.turns s n) ∙ ap (λ ms. Ok (ms, s)) (append-nil found)
