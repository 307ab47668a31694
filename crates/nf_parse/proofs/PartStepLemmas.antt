-- Single steps of the reader of rules.
use Rattle.std.proofs.Common.{◌≡◌, ℕ, true, false, List, [], ◌++◌, refl, sym, ap, ◌∙◌, Option, Some, None, Ok, Err, unwrap_or}
use Rattle.std.specs.Prelude.{map, option_to_list, IfSome}
use Rattle.std.specs.List.{All}
use Rattle.std.proofs.lemmas.List.Elements.{All-nil, All-cons, All-append, All-map}
use Rattle.nf_core.specs.Trees.{IsRule}
use Rattle.nf_core.specs.declared.operators.Op.{Op}
use Rattle.nf_core.specs.declared.trees.Expr.{Expr}
use Rattle.nf_core.specs.declared.trees.Atom.{Atom}
use Rattle.nf_core.specs.declared.trees.Body.{Body}
use Rattle.nf_core.specs.declared.trees.Body.TheVariants as body
use Rattle.nf_core.specs.declared.trees.Entry.{Entry}
use Rattle.nf_grammar.specs.State.{next}
use Rattle.nf_grammar.specs.declared.fault.Fault.{Fault}
use Rattle.nf_grammar.specs.inner.Parsers as parser
use Rattle.nf_grammar.specs.inner.Parsers.{bind, and_then, done, behind, refuse, in_table, choose}
use Rattle.nf_parse.specs.declared.symbol.Sym.{Sym}
use Rattle.nf_parse.specs.declared.symbol.Sym.TheVariants as kind
use Rattle.nf_parse.specs.State.{Word, State, kind_of_next}
use Rattle.nf_parse.specs.Grammar.{op_of}
use Rattle.nf_parse.specs.inner.Parsers.{is_kind}
use Rattle.nf_parse.specs.inner.RuleReading.{op_of_word, atom, pair, exclusive, body_behind}
use Rattle.nf_parse.specs.inner.Limited.{IsLimited, HasLimitedValue}
use Rattle.nf_parse.proofs.StepLemmas.{table_at, some_word}

-- a word of a table that comes next
module _ {A : Type 0} (table : Sym → Option A) where
  pub table_read : (s : State) (x : A) → in_table table (kind_of_next (next s)) ≡ Some x
      → parser.token (λ (word : Word). table word.0) s ≡ Ok (x, behind s)
  unfolding parser.token
  table_read s x h = let e = table_at table (next s) ∙ h in rw e refl

  pub table_refused : (s : State) → in_table table (kind_of_next (next s)) ≡ None
      → parser.token (λ (word : Word). table word.0) s ≡ refuse s
  unfolding parser.token
  table_refused s h = let e = table_at table (next s) ∙ h in rw e refl

pub all_or_empty : {A : Type 0} (P : A → Type 0) (x : Option (List A)) → IfSome x (All P)
    → All P (unwrap_or x [])
all_or_empty P None h = All-nil P
all_or_empty P (Some xs) h = h

-- an inclusive operator that comes next, and what stands behind it
pair_behind : (first : Atom) (s : State) (o : Op) → in_table op_of_word (next s) ≡ Some o
    → body_behind first s ≡ and_then atom (λ second. done (body.Pair first o second)) (behind s)
unfolding choose pair parser.token
pair_behind first s o e = rw e refl

module _ (first : Atom) (s t : State) (o : Op) (found : in_table op_of (kind_of_next (next s)) ≡ Some o) (past : t ≡ behind s) where
  pub pair_read : (second : Atom) (u : State) → atom t ≡ Ok (second, u)
      → body_behind first s ≡ Ok (body.Pair first o second, u)
  pair_read second u e = pair_behind first s o (table_at op_of (next s) ∙ found) ∙ ap (λ r. bind r (λ second. done (body.Pair first o second))) (ap atom (sym past) ∙ e)

  pub pair_stops : (f : Fault) → atom t ≡ Err f → body_behind first s ≡ Err f
  pair_stops f e = pair_behind first s o (table_at op_of (next s) ∙ found) ∙ ap (λ r. bind r (λ second. done (body.Pair first o second))) (ap atom (sym past) ∙ e)

-- `unless` that comes next, or none of both
module _ (first : Atom) (s t : State) (no : in_table op_of (kind_of_next (next s)) ≡ None) (same : t ≡ s) where
  pub exclusive_read : is_kind kind.Unless (next t) ≡ true → body_behind first s ≡ exclusive first t
  unfolding choose
  exclusive_read h = let none : in_table op_of_word (next s) ≡ None = table_at op_of (next s) ∙ no in let u : is_kind kind.Unless (next s) ≡ true = ap (λ (z : State). is_kind kind.Unless (next z)) (sym same) ∙ h in rw (none, u, same) refl

  pub alone_read : is_kind kind.Unless (next t) ≡ false
      → body_behind first s ≡ Ok (body.One first, t)
  unfolding choose
  alone_read h = let none : in_table op_of_word (next s) ≡ None = table_at op_of (next s) ∙ no in let u : is_kind kind.Unless (next s) ≡ false = ap (λ (z : State). is_kind kind.Unless (next z)) (sym same) ∙ h in rw (none, u, same) refl

some_limited : (x : Option Expr) → IfSome x IsLimited → All IsLimited (option_to_list x)
some_limited None h = All-nil IsLimited
some_limited (Some x) h = All-cons IsLimited x [] h (All-nil IsLimited)

pub rule_limits : (head : List ℕ) (body : Body) (filter : Option Expr) (entries : Option (List Entry)) (start stop : Option Expr)
    → IfSome filter IsLimited → IfSome entries (All HasLimitedValue) → IfSome start IsLimited
    → IfSome stop IsLimited
    → IsRule (record { head = head; body = body; filter = filter; entries = unwrap_or entries []; start = start; stop = stop })
rule_limits head body filter entries start stop f e s t =
    let found = unwrap_or entries [] in
    All-append IsLimited (option_to_list filter ++ map (λ (e : Entry). e.value) found ++ option_to_list start) (option_to_list stop)
    (All-append IsLimited (option_to_list filter ++ map (λ (e : Entry). e.value) found) (option_to_list start)
    (All-append IsLimited (option_to_list filter) (map (λ (e : Entry). e.value) found) (some_limited filter f)
    (All-map IsLimited (λ (e : Entry). e.value) found (all_or_empty HasLimitedValue entries e))) (some_limited start s)) (some_limited stop t)

-- what a word of a table and what stands behind the first atom are, by the next word
pub ruleset table_steps = (some_word, table_read, table_refused)

pub ruleset body_steps = (exclusive_read, alone_read)
